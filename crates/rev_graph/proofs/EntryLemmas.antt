-- What a table has after names were added to it.
use Rattle.std.proofs.Common.{◌≡◌, ℕ, ◌+◌, ◌<◌, length, get_or, take, unwrap_or, map, Bool, true, false, cond, ◌||◌, List, [], ◌∷◌, ◌++◌, Option, Some, None, bytes_eq, find, refl, sym, ap, ◌∙◌}
use Rattle.std.proofs.lemmas.List.{take_more}
use Rattle.std.proofs.lemmas.List.Folds.{list_any-append}
use Rattle.std.proofs.lemmas.Slice.Eq.{bytes_eq-Decides}
use Rattle.rev_graph.specs.Entries.{entry, produced_by, given}
use Rattle.std.specs.Global.{Vec}
use Rattle.std.specs.List.{list_any}
use Rattle.rev_manifest.specs.Manifest.{BuildValue}
use Rattle.std.specs.Option.{option_or}
use Rattle.rev_graph.specs.Graph.{has_path, inputs_of, needs}
use Rattle.rev_graph.specs.Lists.{lists_of}

pub same_bytes : (a b : List ℕ) → bytes_eq a b ≡ true → a ≡ b
same_bytes a b h = (bytes_eq-Decides a b).0 h

pub own_bytes : (a : List ℕ) → bytes_eq a a ≡ true
own_bytes a = (bytes_eq-Decides a a).1 refl

or_false : (b : Bool) → (b || false) ≡ b
or_false true = refl
or_false false = refl

-- one more path
pub has_path-push : (paths : List (List ℕ)) (x y : List ℕ) → has_path (paths ++ x ∷ []) y ≡ (has_path paths y || bytes_eq y x)
has_path-push paths x y = list_any-append (bytes_eq y) paths (x ∷ []) ∙ ap (λ b. has_path paths y || b) (or_false (bytes_eq y x))

-- names added twice over
pub option_or-given : {A : Type 0} (o : Option A) (a b : Bool) (v : A) → option_or (option_or o (given a v)) (given b v) ≡ option_or o (given (a || b) v)
option_or-given (Some x) a b v = refl
option_or-given None true b v = refl
option_or-given None false b v = refl

-- two lists of names, added in turn
pub added-both : (o e f : Option (Option ℕ)) (xs ys : List (List ℕ)) (path : List ℕ) (v : Option ℕ) → e ≡ option_or o (given (has_path xs path) v) → f ≡ option_or e (given (has_path ys path) v)
    → f ≡ option_or o (given (has_path (xs ++ ys) path) v)
added-both o e f xs ys path v first second =
    second ∙ ap (λ x. option_or x (given (has_path ys path) v)) first ∙ option_or-given o (has_path xs path) (has_path ys path) v
    ∙ ap (λ b. option_or o (given b v)) (sym (list_any-append (bytes_eq path) xs ys))

find-by : (x : List ℕ) (xs ys zs : Option (List ℕ)) (b : Bool) → zs ≡ option_or xs ys → cond b (Some x) zs ≡ option_or (cond b (Some x) xs) ys
find-by x xs ys zs true h = refl
find-by x xs ys zs false h = h

pub find-append : (p : List ℕ → Bool) (xs ys : List (List ℕ)) → find p (xs ++ ys) ≡ option_or (find p xs) (find p ys)
find-append p [] ys = refl
find-append p (x ∷ xs) ys = find-by x (find p xs) (find p ys) (find p (xs ++ ys)) (p x) (find-append p xs ys)

-- one test in place of an equal one
pub find-same : (p q : List ℕ → Bool) → ((x : List ℕ) → p x ≡ q x) → (xs : List (List ℕ)) → find p xs ≡ find q xs
find-same p q same [] = refl
find-same p q same (x ∷ xs) = (λ i. cond (same x i) (Some x) (find-same p q same xs i))

pub first-or : {A : Type 0} (o p : Option A) (x : A) → Some x ≡ o → Some x ≡ option_or o p
first-or None p x h = cc
first-or (Some y) p x h = h

pub second-or : {A : Type 0} (o p q : Option A) → None ≡ o → q ≡ p → q ≡ option_or o p
second-or None p q h e = e
second-or (Some y) p q h e = cc

-- one more name of a list
has_path-more : (names : List (List ℕ)) (i : ℕ) (x path : List ℕ) → x ≡ get_or names i x → i < length names → has_path (take (i + 1) names) path ≡ (has_path (take i names) path || bytes_eq path x)
has_path-more names i x path is within =
    ap (λ ns. has_path ns path) (take_more names i x within) ∙ has_path-push (take i names) (get_or names i x) path
    ∙ ap (λ y. has_path (take i names) path || bytes_eq path y) (sym is)

-- the table with one more name of a list
pub added_more : (e f o : Option (Option ℕ)) (names : List (List ℕ)) (i : ℕ) (x path : List ℕ) (v : Option ℕ) → x ≡ get_or names i x → i < length names
    → e ≡ option_or o (given (has_path (take i names) path) v) → f ≡ option_or e (given (bytes_eq path x) v) → f ≡ option_or o (given (has_path (take (i + 1) names) path) v)
added_more e f o names i x path v is within before more =
    more ∙ ap (λ a. option_or a (given (bytes_eq path x) v)) before ∙ option_or-given o (has_path (take i names) path) (bytes_eq path x) v
    ∙ ap (λ b. option_or o (given b v)) (sym (has_path-more names i x path is within))

producer-kept : (o : Option (Option ℕ)) (b : Bool) → unwrap_or (option_or o (given b None)) None ≡ unwrap_or o None
producer-kept None true = refl
producer-kept None false = refl
producer-kept (Some x) b = refl

-- names that are added have no producer
pub produced-kept : (es fs : List (List ℕ × Option ℕ)) (path : List ℕ) (b : Bool) → entry fs path ≡ option_or (entry es path) (given b None) → produced_by fs path ≡ produced_by es path
produced-kept es fs path b h = ap (λ o. unwrap_or o None) h ∙ producer-kept (entry es path) b

produced-all : (es fs : List (List ℕ × Option ℕ)) (b : List ℕ → Bool) → ((path : List ℕ) → entry fs path ≡ option_or (entry es path) (given (b path) None))
    → (paths : List (List ℕ)) → map (produced_by fs) paths ≡ map (produced_by es) paths
produced-all es fs b h [] = refl
produced-all es fs b h (path ∷ paths) = (λ i. produced-kept es fs path (b path) (h path) i ∷ produced-all es fs b h paths i)

mapped-append : {X Y : Type 0} (f : X → Y) (xs ys : List X) → map f (xs ++ ys) ≡ map f xs ++ map f ys
mapped-append f [] ys = refl
mapped-append f (x ∷ xs) ys = ap (λ zs. f x ∷ zs) (mapped-append f xs ys)

-- the producers of three lists of names, each by the table that the lists before it leave
pub three_lists : (es fs gs : List (List ℕ × Option ℕ)) (p0 p1 p2 p3 : List (Option ℕ)) (xs ys zs : List (List ℕ)) → p0 ≡ [] → p1 ≡ p0 ++ map (produced_by es) xs
    → ((path : List ℕ) → entry fs path ≡ option_or (entry es path) (given (has_path xs path) None)) → p2 ≡ p1 ++ map (produced_by fs) ys
    → ((path : List ℕ) → entry gs path ≡ option_or (entry fs path) (given (has_path ys path) None)) → p3 ≡ p2 ++ map (produced_by gs) zs
    → p3 ≡ map (produced_by es) (xs ++ ys ++ zs)
three_lists es fs gs p0 p1 p2 p3 xs ys zs none first f second g third =
    let before : p1 ≡ map (produced_by es) xs = first ∙ ap (λ p. p ++ map (produced_by es) xs) none in
    let third_same : map (produced_by gs) zs ≡ map (produced_by es) zs = produced-all fs gs (has_path ys) g zs ∙ produced-all es fs (has_path xs) f zs in
    third ∙ (λ i. second i ++ third_same i)
    ∙ (λ i. (before i ++ produced-all es fs (has_path xs) f ys i) ++ map (produced_by es) zs)
    ∙ ap (λ p. p ++ map (produced_by es) zs) (sym (mapped-append (produced_by es) xs ys)) ∙ sym (mapped-append (produced_by es) (xs ++ ys) zs)

-- one more list of producers
pub lists_more : (es fs : List (List ℕ × Option ℕ)) (b : List ℕ → Bool) (all new : List (Vec (Option ℕ))) (list : Vec (Option ℕ)) (builds : List BuildValue) (i : ℕ) (build : BuildValue)
    → build ≡ get_or builds i build → i < length builds → new ≡ all ++ list ∷ [] → ((path : List ℕ) → entry fs path ≡ option_or (entry es path) (given (b path) None))
    → lists_of all ≡ map (λ other. map (produced_by es) (inputs_of other)) (take i builds) → list.items ≡ map (produced_by fs) (inputs_of build)
    → lists_of new ≡ map (λ other. map (produced_by es) (inputs_of other)) (take (i + 1) builds)
lists_more es fs b all new list builds i build is within more h before added =
    let F : BuildValue → List (Option ℕ) = λ other. map (produced_by es) (inputs_of other) in
    ap lists_of more ∙ mapped-append (λ (v : Vec (Option ℕ)). v.items) all (list ∷ [])
    ∙ (λ k. before k ++ (added ∙ produced-all es fs b h (inputs_of build)) k ∷ [])
    ∙ sym (mapped-append F (take i builds) (build ∷ []))
    ∙ ap (map F) (ap (λ x. take i builds ++ x ∷ []) is ∙ sym (take_more builds i build within))

-- the table with what one more build line needs
pub needs_more : (e f o : Option (Option ℕ)) (builds : List BuildValue) (i : ℕ) (build : BuildValue) (path : List ℕ) → build ≡ get_or builds i build → i < length builds
    → e ≡ option_or o (given (list_any (needs path) (take i builds)) None) → f ≡ option_or e (given (needs path build) None) → f ≡ option_or o (given (list_any (needs path) (take (i + 1) builds)) None)
needs_more e f o builds i build path is within before more =
    more ∙ ap (λ a. option_or a (given (needs path build) None)) before ∙ option_or-given o (list_any (needs path) (take i builds)) (needs path build) None
    ∙ ap (λ b. option_or o (given b None))
    (sym (ap (list_any (needs path)) (take_more builds i build within ∙ ap (λ x. take i builds ++ x ∷ []) (sym is)) ∙ list_any-append (needs path) (take i builds) (build ∷ [])
    ∙ ap (λ b. list_any (needs path) (take i builds) || b) (or_false (needs path build))))
