-- Who has a path among its outputs.
use Rattle.std.proofs.Common.{◌≡◌, ℕ, ◌+◌, ◌<◌, zero, suc, Bool, true, false, cond, List, [], ◌∷◌, ◌++◌, length, get_or, Option, Some, None, is_some, IfSome, find, bytes_eq, Contains, ◌⊎◌, inl, inr, refl, sym, ap, subst, ◌∙◌, arith, append_assoc, length-append, add-zero, if◌then◌else◌}
use Rattle.std.proofs.lemmas.List.{get_or_append_left}
use Rattle.std.proofs.lemmas.List.Folds.{list_any_at}
use Rattle.std.proofs.lemmas.List.Elements.{Contains-get_or, Contains-append_right, Contains-append_cases}
use Rattle.indexmap.proofs.CallerLemmas.{Contains-list_any}
use Rattle.rev_manifest.specs.Manifest.{BuildValue}
use Rattle.std.specs.Option.{option_or}
use Rattle.rev_graph.specs.Graph.{build_at, no_build, has_path, outputs_of, producer_from, producer_of, Produces, double_after, first_double}
use Rattle.rev_graph.proofs.EntryLemmas.{same_bytes, own_bytes}
use Rattle.rev_graph.proofs.GraphLemmas.{producer_of-within}
use Rattle.rev_graph.proofs.StepLemmas.{only, produced-output}

has-contained : (paths : List (List ℕ)) (path : List ℕ) → Contains paths path → has_path paths path ≡ true
has-contained paths path (k, within, at) = list_any_at (bytes_eq path) paths k path within (ap (bytes_eq path) at ∙ own_bytes path)

-- a producer has the path among its outputs
pub producer-has : (builds : List BuildValue) (path : List ℕ) (edge : ℕ) → producer_of builds path ≡ Some edge → Produces builds edge path
producer-has builds path edge h =
    Contains-list_any bytes_eq same_bytes (outputs_of (build_at builds edge)) path (produced-output 0 path builds edge edge h (omega arith))

append-by : (n : ℕ) (more rest others : Option ℕ) (t : Bool) → more ≡ option_or rest others → (if t then Some n else more) ≡ option_or (if t then Some n else rest) others
append-by n more rest others true h = refl
append-by n more rest others false h = h

producer_from-append : (n : ℕ) (path : List ℕ) (builds others : List BuildValue) (m : ℕ) → m ≡ n + length builds
    → producer_from n path (builds ++ others) ≡ option_or (producer_from n path builds) (producer_from m path others)
producer_from-append n path [] others m h = ap (λ k. producer_from k path others) (sym (h ∙ add-zero n))
producer_from-append n path (b ∷ bs) others m h =
    append-by n (producer_from (n + 1) path (bs ++ others)) (producer_from (n + 1) path bs) (producer_from m path others) (has_path (outputs_of b) path)
    (producer_from-append (n + 1) path bs others m (omega arith))

none-found : (p : List ℕ → Bool) (y : List ℕ) (rest : Option (List ℕ)) (x : List ℕ) (t : Bool) → p y ≡ t → cond t (Some y) rest ≡ None → (p y ≡ false) × (rest ≡ None)
none-found p y rest x true e h =
    let no : Some y ≡ None = h in
    cc
none-found p y rest x false e h = (e, h)

missed-by : (p : List ℕ → Bool) (y x : List ℕ) (ys : List (List ℕ)) → p y ≡ false → (Contains ys x → p x ≡ false) → Contains (y ∷ []) x ⊎ Contains ys x → p x ≡ false
missed-by p y x ys e rest (inl here) = ap p (sym (only y x here)) ∙ e
missed-by p y x ys e rest (inr there) = rest there

-- what a search has missed
missed : (p : List ℕ → Bool) (xs : List (List ℕ)) (x : List ℕ) → find p xs ≡ None → Contains xs x → p x ≡ false
missed p [] x h (k, within, at) = absurd (omega (arith, within))
missed p (y ∷ ys) x h there =
    let both = none-found p y (find p ys) x (p y) refl h in
    missed-by p y x ys both.0 (missed p ys x both.1) (Contains-append_cases (y ∷ []) ys x there)

none-some : (o : Option ℕ) → is_some o ≡ false → o ≡ None
none-some None h = refl
none-some (Some x) h = cc

first-none : {A : Type 0} (o p : Option A) → option_or o p ≡ None → (o ≡ None) × (p ≡ None)
first-none None p h = (refl, h)
first-none (Some x) p h = cc

option_or-first : (o p : Option ℕ) → o ≡ None → option_or o p ≡ p
option_or-first o p h = ap (λ q. option_or q p) h

only-after : (earlier builds : List BuildValue) (path : List ℕ) (k n : ℕ) → double_after earlier builds ≡ None → n ≡ length earlier + k → Produces builds k path → producer_of (earlier ++ builds) path ≡ Some n
only-after earlier [] path k n h e (i, within, at) = absurd (omega (arith, within))
only-after earlier (b ∷ bs) path zero n h e there =
    let both = first-none (find (λ p. is_some (producer_of earlier p)) (outputs_of b)) (double_after (earlier ++ b ∷ []) bs) h in
    let none : producer_of earlier path ≡ None = none-some _ (missed (λ p. is_some (producer_of earlier p)) (outputs_of b) path both.0 there) in
    let from : n ≡ 0 + length earlier = omega arith in
    producer_from-append 0 path earlier (b ∷ bs) n from ∙ option_or-first (producer_of earlier path) (producer_from n path (b ∷ bs)) none
    ∙ ap (λ t. if t then Some n else producer_from (n + 1) path bs) (has-contained (outputs_of b) path there)
only-after earlier (b ∷ bs) path (suc k) n h e there =
    let both = first-none (find (λ p. is_some (producer_of earlier p)) (outputs_of b)) (double_after (earlier ++ b ∷ []) bs) h in
    ap (λ all. producer_of all path) (sym (append_assoc earlier (b ∷ []) bs))
    ∙ only-after (earlier ++ b ∷ []) bs path k n both.1 (omega (arith, length-append earlier (b ∷ []))) there

-- where no output has an earlier edge, who has a path among its outputs is its producer
pub producer-only : (builds : List BuildValue) (path : List ℕ) (edge : ℕ) → first_double builds ≡ None → Produces builds edge path → producer_of builds path ≡ Some edge
producer-only builds path edge h there = only-after [] builds path edge edge h (omega arith) there

pub one_producer : (builds : List BuildValue) → first_double builds ≡ None → (path : List ℕ) (a b : ℕ) → Produces builds a path → Produces builds b path → a ≡ b
one_producer builds h path a b first second =
    let both : Some a ≡ Some b = sym (producer-only builds path a h first) ∙ producer-only builds path b h second in
    cc

middle-is : (xs ys : List BuildValue) (b : BuildValue) → get_or (xs ++ b ∷ ys) (length xs) no_build ≡ b
middle-is [] ys b = refl
middle-is (x ∷ xs) ys b = middle-is xs ys b

-- two edges that have a path among their outputs
abbrev Two : List BuildValue → List ℕ → Type 0
Two builds path = (a : ℕ) × (b : ℕ) × (a < b) × Produces builds a path × Produces builds b path

record Found (p : List ℕ → Bool) (xs : List (List ℕ)) (x : List ℕ) : Type 0 where
  there : Contains xs x
  passes : p x ≡ true

found-by : (p : List ℕ → Bool) (y : List ℕ) (ys : List (List ℕ)) (x : List ℕ) (t : Bool) → p y ≡ t → (find p ys ≡ Some x → Found p ys x) → cond t (Some y) (find p ys) ≡ Some x → Found p (y ∷ ys) x
found-by p y ys x true e rest h =
    let same : y ≡ x = cc in
    record { there = subst (Contains (y ∷ ys)) same (Contains-get_or (y ∷ ys) 0 y (omega arith)); passes = ap p (sym same) ∙ e }
found-by p y ys x false e rest h =
    let f = rest h in
    record { there = Contains-append_right (y ∷ []) ys x f.there; passes = f.passes }

found : (p : List ℕ → Bool) (xs : List (List ℕ)) (x : List ℕ) → find p xs ≡ Some x → Found p xs x
found p [] x h =
    let no : None ≡ Some x = h in
    cc
found p (y ∷ ys) x h = found-by p y ys x (p y) refl (found p ys x) h

some-is : (o : Option ℕ) → is_some o ≡ true → (edge : ℕ) × (o ≡ Some edge)
some-is None h = cc
some-is (Some x) h = (x, refl)

pick : (earlier rest : List BuildValue) (b : BuildValue) (path : List ℕ) → Found (λ p. is_some (producer_of earlier p)) (outputs_of b) path → Two (earlier ++ b ∷ rest) path
pick earlier rest b path f =
    let before = some-is (producer_of earlier path) f.passes in
    let within : before.0 < length earlier = producer_of-within path earlier before.0 before.1 in
    let here : get_or (earlier ++ b ∷ rest) (length earlier) no_build ≡ b = middle-is earlier rest b in
    let kept : get_or (earlier ++ b ∷ rest) before.0 no_build ≡ get_or earlier before.0 no_build = get_or_append_left earlier (b ∷ rest) no_build before.0 within in (
      before.0,
      length earlier,
      within,
      subst (λ build. Contains (outputs_of build) path) (sym kept) (producer-has earlier path before.0 before.1),
      subst (λ build. Contains (outputs_of build) path) (sym here) f.there,
    )

real-by : (earlier rest : List BuildValue) (b : BuildValue) (path : List ℕ) (o : Option (List ℕ)) → find (λ p. is_some (producer_of earlier p)) (outputs_of b) ≡ o
    → (double_after (earlier ++ b ∷ []) rest ≡ Some path → Two ((earlier ++ b ∷ []) ++ rest) path) → option_or o (double_after (earlier ++ b ∷ []) rest) ≡ Some path → Two (earlier ++ b ∷ rest) path
real-by earlier rest b path None e later h = subst (λ all. Two all path) (append_assoc earlier (b ∷ []) rest) (later h)
real-by earlier rest b path (Some x) e later h = pick earlier rest b path (found (λ p. is_some (producer_of earlier p)) (outputs_of b) path (e ∙ h))

real : (earlier builds : List BuildValue) (path : List ℕ) → double_after earlier builds ≡ Some path → Two (earlier ++ builds) path
real earlier [] path h =
    let no : None ≡ Some path = h in
    cc
real earlier (b ∷ bs) path h =
    real-by earlier bs b path (find (λ p. is_some (producer_of earlier p)) (outputs_of b)) refl (real (earlier ++ b ∷ []) bs path) h

pub double-real : (builds : List BuildValue) (path : List ℕ) → first_double builds ≡ Some path → Two builds path
double-real builds path h = real [] builds path h

-- the same of what a search answers
pub producer-produces : (builds : List BuildValue) (path : List ℕ) (o : Option ℕ) → o ≡ producer_of builds path → IfSome o (λ edge. Produces builds edge path)
producer-produces builds path None h = tt
producer-produces builds path (Some edge) h = producer-has builds path edge (sym h)
