-- Inputs and outputs by their positions.
use Rattle.std.proofs.Common.{◌≡◌, ℕ, zero, suc, ◌<◌, ◌≤◌, ◌+◌, ◌-◌, List, [], ◌∷◌, ◌++◌, Option, Some, None, length, map, slice_get, get_or, refl, sym, ap, ◌∙◌, arith, append_assoc, length-append, nat_lt, is_some, IfSome}
use Rattle.std.proofs.lemmas.Bool.{ltb-false, ltb-true}
use Rattle.std.proofs.lemmas.List.{map-append}
use Rattle.std.specs.Borrow.{Bor}
use Rattle.std.specs.Option.{option_copied}
use Rattle.rev_cells.specs.State.{State}
use Rattle.rev_manifest.specs.Manifest.{BuildValue}
use Rattle.rev_dirty.specs.declared.input.InputKind.TheVariants.{OnLine, OrderOnly, Listed}
use Rattle.rev_dirty.specs.declared.input.InputKind.{InputKind}
use Rattle.rev_dirty.specs.Inputs.{an, deps_record, inputs, paths_in, paths_of}
use Rattle.rev_listing.specs.Parts.{path_bytes}

pub get-front : {X : Type 0} (xs ys : List X) (i : ℕ) → i < length xs → slice_get (xs ++ ys) i ≡ slice_get xs i
get-front [] ys i lt = absurd (omega arith)
get-front (x ∷ xs) ys zero lt = refl
get-front (x ∷ xs) ys (suc i) lt = get-front xs ys i (omega arith)

pub get-back : {X : Type 0} (xs ys : List X) (i : ℕ) → length xs ≤ i → slice_get (xs ++ ys) i ≡ slice_get ys (i - length xs)
get-back [] ys i le = let same : i ≡ i - 0 = omega arith in ap (slice_get ys) same
get-back (x ∷ xs) ys zero le = absurd (omega arith)
get-back (x ∷ xs) ys (suc i) le =
    let same : i - length xs ≡ suc i - length (x ∷ xs) = omega arith in
    get-back xs ys i (omega arith) ∙ ap (slice_get ys) same

-- the bytes at a place
pub bytes-at : (xs : List (List ℕ)) (i : ℕ) → path_bytes (slice_get xs i) ≡ get_or xs i []
bytes-at [] i = refl
bytes-at (x ∷ xs) zero = refl
bytes-at (x ∷ xs) (suc i) = bytes-at xs i

paths-an : (kind : InputKind) (paths : List (List ℕ)) → paths_of (map (an kind) paths) ≡ paths
paths-an kind [] = refl
paths-an kind (p ∷ ps) = ap (λ l. p ∷ l) (paths-an kind ps)

-- the paths of all inputs: those of the build line but the order-only ones, and then these and what the deps record lists
pub all-paths : (s : State) (build : BuildValue) → paths_of (inputs s build) ≡ (build.explicit ++ build.implicit) ++ (build.order_only ++ paths_in (deps_record s build))
all-paths s build =
    let listed = paths_in (deps_record s build) in
    map-append (λ i. i.path) (map (an OnLine) (build.explicit ++ build.implicit) ++ map (an OrderOnly) build.order_only) (map (an Listed) listed)
    ∙ ap (λ l. l ++ paths_of (map (an Listed) listed)) (map-append (λ i. i.path) (map (an OnLine) (build.explicit ++ build.implicit)) (map (an OrderOnly) build.order_only))
    ∙ ap (λ l. (l ++ paths_of (map (an OrderOnly) build.order_only)) ++ paths_of (map (an Listed) listed)) (paths-an OnLine (build.explicit ++ build.implicit))
    ∙ ap (λ l. ((build.explicit ++ build.implicit) ++ l) ++ paths_of (map (an Listed) listed)) (paths-an OrderOnly build.order_only)
    ∙ ap (λ l. ((build.explicit ++ build.implicit) ++ build.order_only) ++ l) (paths-an Listed listed)
    ∙ append_assoc (build.explicit ++ build.implicit) build.order_only listed

-- the bytes of an output
pub output-bytes : (bytes : List ℕ) (o : Option (List ℕ)) (e i de di : List (List ℕ)) (at : ℕ) → bytes ≡ path_bytes o → o ≡ slice_get (e ++ i) at → e ≡ de → i ≡ di → bytes ≡ get_or (de ++ di) at []
output-bytes bytes o e i de di at is got same_e same_i =
    is ∙ ap path_bytes got ∙ bytes-at (e ++ i) at ∙ ap (λ l. get_or (l ++ i) at []) same_e ∙ ap (λ l. get_or (de ++ l) at []) same_i

-- the bytes of an input of the build line that is not order-only
pub line-bytes : (bytes : List ℕ) (o : Option (List ℕ)) (e i : List (List ℕ)) (s : State) (build : BuildValue) (at : ℕ) → at < length e + length i → bytes ≡ path_bytes o → o ≡ slice_get (e ++ i) at → e ≡ build.explicit → i ≡ build.implicit → bytes ≡ get_or (paths_of (inputs s build)) at []
line-bytes bytes o e i s build at lt is got same_e same_i =
    let within : at < length (e ++ i) = omega (arith, length-append e i) in
    let further = build.order_only ++ paths_in (deps_record s build) in
    is ∙ ap path_bytes (got ∙ sym (get-front (e ++ i) further at within)) ∙ ap (λ l. path_bytes (slice_get ((l ++ i) ++ further) at)) same_e ∙ ap (λ l. path_bytes (slice_get ((build.explicit ++ l) ++ further) at)) same_i
    ∙ ap (λ l. path_bytes (slice_get l at)) (sym (all-paths s build)) ∙ bytes-at (paths_of (inputs s build)) at

-- and of an order-only input or a listed one
pub further-bytes : (bytes : List ℕ) (o : Option (List ℕ)) (e i oo listed : List (List ℕ)) (s : State) (build : BuildValue) (at : ℕ) → length e + length i ≤ at → bytes ≡ path_bytes o → o ≡ slice_get (oo ++ listed) (at - (length e + length i)) → e ≡ build.explicit → i ≡ build.implicit → oo ≡ build.order_only → listed ≡ paths_in (deps_record s build) → bytes ≡ get_or (paths_of (inputs s build)) at []
further-bytes bytes o e i oo listed s build at le is got same_e same_i same_oo same_listed =
    let past : length (e ++ i) ≤ at = omega (arith, length-append e i) in
    let place : at - (length e + length i) ≡ at - length (e ++ i) = omega (arith, length-append e i) in
    is ∙ ap path_bytes (got ∙ ap (slice_get (oo ++ listed)) place ∙ sym (get-back (e ++ i) (oo ++ listed) at past)) ∙ ap (λ l. path_bytes (slice_get ((l ++ i) ++ (oo ++ listed)) at)) same_e
    ∙ ap (λ l. path_bytes (slice_get ((build.explicit ++ l) ++ (oo ++ listed)) at)) same_i ∙ ap (λ l. path_bytes (slice_get ((build.explicit ++ build.implicit) ++ (l ++ listed)) at)) same_oo
    ∙ ap (λ l. path_bytes (slice_get ((build.explicit ++ build.implicit) ++ (build.order_only ++ l)) at)) same_listed ∙ ap (λ l. path_bytes (slice_get l at)) (sym (all-paths s build)) ∙ bytes-at (paths_of (inputs s build)) at

some-at : (xs : List (List ℕ)) (i : ℕ) (x : List ℕ) → i < length xs → x ≡ get_or xs i x → Some x ≡ slice_get xs i
some-at [] i x lt e = absurd (omega arith)
some-at (y ∷ ys) zero x lt e = ap Some e
some-at (y ∷ ys) (suc i) x lt e = some-at ys i x (omega arith) e

none-at : (xs : List (List ℕ)) (i : ℕ) → length xs ≤ i → None ≡ slice_get xs i
none-at [] i le = refl
none-at (y ∷ ys) zero le = absurd (omega arith)
none-at (y ∷ ys) (suc i) le = none-at ys i (omega arith)

-- what a look-up by place gives
pub copied-at : (r : Option (Bor (List ℕ))) (xs : List (List ℕ)) (i : ℕ) → is_some r ≡ nat_lt i (length xs) → IfSome r (λ x. x.now ≡ get_or xs i x.now) → option_copied r ≡ slice_get xs i
copied-at None xs i there at = none-at xs i (ltb-false i (length xs) (sym there))
copied-at (Some x) xs i there at = some-at xs i x.now (ltb-true i (length xs) (sym there)) at
