-- The greatest visible stamp of inputs, by where they stand.
use Rattle.std.proofs.Common.{◌≡◌, ℕ, ◌<◌, ◌+◌, Bool, true, false, take, List, [], ◌∷◌, ◌++◌, length, get_or, map, max, nat_eq, refl, sym, ap, ◌∙◌, arith, if◌then◌else◌}
use Rattle.std.proofs.lemmas.List.{append_assoc, take_more, map-append}
use Rattle.rev_manifest.specs.Manifest.{BuildValue}
use Rattle.rev_graph.specs.Graph.{IsRanked, producer_of}
use Rattle.rev_cells.specs.State.{State, stamp_of}
use Rattle.rev_dirty.specs.declared.input.InputKind.TheVariants.{OnLine, OrderOnly, Listed}
use Rattle.rev_dirty.specs.Inputs.{InputValue, an, inputs, deps_record, paths_in}
use Rattle.rev_dirty.specs.Reasons.{counted, newest_stamp}
use Rattle.rev_dirty.specs.Visible.{greatest, seen_behind, visible_stamp}
use Rattle.rev_dirty.proofs.VisibleLemmas.{visible-equation}

-- a path that is there shows its own stamp
own-by : (builds : List BuildValue) (seen : List ℕ → ℕ) (stamp : ℕ) (path : List ℕ) (b : Bool) → nat_eq stamp 0 ≡ b → b ≡ false → (if b then seen_behind builds seen (producer_of builds path) else stamp) ≡ stamp
own-by builds seen stamp path true h there = absurd cc
own-by builds seen stamp path false h there = refl

pub shows-own : (builds : List BuildValue) (ranks : List ℕ) (state : State) → IsRanked builds ranks → (path : List ℕ) → nat_eq (stamp_of state path) 0 ≡ false → visible_stamp builds state path ≡ stamp_of state path
shows-own builds ranks state ranked path there =
    visible-equation builds ranks state ranked path
    ∙ own-by builds (visible_stamp builds state) (stamp_of state path) path (nat_eq (stamp_of state path) 0) refl there

greatest-append : (xs ys : List ℕ) → greatest (xs ++ ys) ≡ max (greatest xs) (greatest ys)
greatest-append [] ys = omega arith
greatest-append (x ∷ xs) ys = ap (max x) (greatest-append xs ys) ∙ max3 x (greatest xs) (greatest ys)
  where
    max3 : (a b c : ℕ) → max a (max b c) ≡ max (max a b) c
    max3 a b c = omega arith

-- one more of those that are gone through
pub greatest-next : (f : List ℕ → ℕ) (paths : List (List ℕ)) (i : ℕ) (d : List ℕ) (least : ℕ) → i < length paths
    → max (max least (greatest (map f (take i paths)))) (f (get_or paths i d)) ≡ max least (greatest (map f (take (i + 1) paths)))
greatest-next f paths i d least within =
    let more : greatest (map f (take (i + 1) paths)) ≡ max (greatest (map f (take i paths))) (max (f (get_or paths i d)) 0) =
    ap greatest (ap (map f) (take_more paths i d within) ∙ map-append f (take i paths) (get_or paths i d ∷ []))
    ∙ greatest-append (map f (take i paths)) (map f (get_or paths i d ∷ [])) in
    max4 least (greatest (map f (take i paths))) (f (get_or paths i d)) ∙ ap (max least) (sym more)
  where
    max4 : (a b c : ℕ) → max (max a b) c ≡ max a (max b (max c 0))
    max4 a b c = omega arith

-- what inputs show, by their paths
abbrev by_path : (List ℕ → ℕ) → InputValue → ℕ
by_path f = λ (input : InputValue). f input.path

on-line : (f : List ℕ → ℕ) (paths : List (List ℕ)) (rest : List InputValue)
    → greatest (map (by_path f) (counted (map (an OnLine) paths ++ rest))) ≡ max (greatest (map f paths)) (greatest (map (by_path f) (counted rest)))
on-line f [] rest = omega arith
on-line f (path ∷ paths) rest = ap (max (f path)) (on-line f paths rest) ∙ max3 (f path) (greatest (map f paths)) (greatest (map (by_path f) (counted rest)))
  where
    max3 : (a b c : ℕ) → max a (max b c) ≡ max (max a b) c
    max3 a b c = omega arith

order-only : (f : List ℕ → ℕ) (paths : List (List ℕ)) (rest : List InputValue)
    → greatest (map (by_path f) (counted (map (an OrderOnly) paths ++ rest))) ≡ greatest (map (by_path f) (counted rest))
order-only f [] rest = refl
order-only f (path ∷ paths) rest = order-only f paths rest

in-record : (f : List ℕ → ℕ) (paths : List (List ℕ)) → greatest (map (by_path f) (counted (map (an Listed) paths))) ≡ greatest (map f paths)
in-record f [] = refl
in-record f (path ∷ paths) = ap (max (f path)) (in-record f paths)

-- the greatest of all that count: of the explicit inputs, the implicit ones, and those that the deps record lists
pub newest-parts : (builds : List BuildValue) (state : State) (build : BuildValue) (a b c : ℕ)
    → a ≡ max 0 (greatest (map (visible_stamp builds state) build.explicit)) → b ≡ max a (greatest (map (visible_stamp builds state) build.implicit))
    → c ≡ max b (greatest (map (visible_stamp builds state) (paths_in (deps_record state build)))) → c ≡ newest_stamp builds state (inputs state build)
newest-parts builds state build a b c first second third =
    let f = visible_stamp builds state in
    let listed = paths_in (deps_record state build) in
    let all : newest_stamp builds state (inputs state build) ≡ max (greatest (map f (build.explicit ++ build.implicit))) (greatest (map f listed)) =
    ap (λ all. greatest (map (by_path f) (counted all))) (append_assoc (map (an OnLine) (build.explicit ++ build.implicit)) (map (an OrderOnly) build.order_only) (map (an Listed) listed))
    ∙ on-line f (build.explicit ++ build.implicit) (map (an OrderOnly) build.order_only ++ map (an Listed) listed)
    ∙ ap (max (greatest (map f (build.explicit ++ build.implicit)))) (order-only f build.order_only (map (an Listed) listed) ∙ in-record f listed) in
    let line : greatest (map f (build.explicit ++ build.implicit)) ≡ max (greatest (map f build.explicit)) (greatest (map f build.implicit)) =
    ap greatest (map-append f build.explicit build.implicit) ∙ greatest-append (map f build.explicit) (map f build.implicit) in
    max5 a b c (greatest (map f build.explicit)) (greatest (map f build.implicit)) (greatest (map f listed)) first second third
    ∙ ap (λ n. max n (greatest (map f listed))) (sym line) ∙ sym all
  where
    max5 : (a b c x y z : ℕ) → a ≡ max 0 x → b ≡ max a y → c ≡ max b z → c ≡ max (max x y) z
    max5 a b c x y z h k l = omega (arith, h, k, l)
