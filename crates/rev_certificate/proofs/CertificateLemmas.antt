-- Obstacles that are added, and what follows where there is none.
use Rattle.std.proofs.Common.{◌≡◌, ℕ, zero, suc, ◌+◌, List, [], ◌∷◌, ◌++◌, map, Option, Some, None, refl, sym, ap, subst, ◌∙◌, arith, append_assoc, append-nil}
use Rattle.std.specs.List.{Contains, cons_option, filter_map, flat_map, range_with_len}
use Rattle.std.proofs.lemmas.List.{map-append}
use Rattle.std.proofs.lemmas.List.Elements.{filter_map-append}
use Rattle.std.proofs.lemmas.Grind.{flat_map-append}
use Rattle.rev_entry_conflicts.specs.declared.conflict.Conflict.{Conflict}
use Rattle.rev_entry_conflicts.specs.Conflicts.{conflicts}
use Rattle.rev_entry_conflicts.specs.Joins.{NoneUnordered}
use Rattle.rev_entry_conflicts.proofs.JoinLemmas.{no-conflict-one-outcome}
use Rattle.rev_certificate.specs.declared.obstacle.Obstacle.TheVariants as obstacle
use Rattle.rev_certificate.specs.Assured.{CertainOneOutcome}
use Rattle.rev_certificate.specs.Obstacles.{of_commands, of_edges, of_observation}

-- ONE NUMBER AFTER THE OTHER
range-more : (a n : ℕ) → range_with_len a (suc n) ≡ range_with_len a n ++ (a + n) ∷ []
range-more a zero = ap (λ x. x ∷ []) (omega arith)
range-more a (suc n) = ap (λ xs. a ∷ xs) (range-more (a + 1) n ∙ ap (λ x. range_with_len (a + 1) n ++ x ∷ []) (omega arith))

range-next : (n : ℕ) → range_with_len 0 (n + 1) ≡ range_with_len 0 n ++ n ∷ []
range-next n =
    let next : n + 1 ≡ suc n = omega arith in
    let here : 0 + n ≡ n = omega arith in
    ap (range_with_len 0) next ∙ range-more 0 n ∙ ap (λ x. range_with_len 0 n ++ x ∷ []) here

joined : {Y : Type 0} (first before added old new next : List Y) → old ≡ first ++ before → new ≡ old ++ added → next ≡ before ++ added → new ≡ first ++ next
joined first before added old new next is more whole = more ∙ ap (λ ys. ys ++ added) is ∙ append_assoc first before added ∙ ap (λ ys. first ++ ys) (sym whole)

pub mapped-more : {Y : Type 0} (f : ℕ → Y) (n : ℕ) (first old new : List Y) → old ≡ first ++ map f (range_with_len 0 n) → new ≡ old ++ f n ∷ [] → new ≡ first ++ map f (range_with_len 0 (n + 1))
mapped-more f n first old new before added =
    joined first (map f (range_with_len 0 n)) (f n ∷ []) old new (map f (range_with_len 0 (n + 1))) before added (ap (map f) (range-next n) ∙ map-append f (range_with_len 0 n) (n ∷ []))

pub flat-more : {Y : Type 0} (f : ℕ → List Y) (n : ℕ) (first old new : List Y) → old ≡ first ++ flat_map f (range_with_len 0 n) → new ≡ old ++ f n → new ≡ first ++ flat_map f (range_with_len 0 (n + 1))
flat-more f n first old new before added =
    joined first (flat_map f (range_with_len 0 n)) (f n) old new (flat_map f (range_with_len 0 (n + 1))) before added
    (ap (flat_map f) (range-next n) ∙ flat_map-append f (range_with_len 0 n) (n ∷ []) ∙ ap (λ ys. flat_map f (range_with_len 0 n) ++ ys) (append-nil (f n)))

pub some-more : {Y : Type 0} (f : ℕ → Option Y) (n : ℕ) (y : Y) (first old new : List Y) → old ≡ first ++ filter_map f (range_with_len 0 n) → f n ≡ Some y → new ≡ old ++ y ∷ [] → new ≡ first ++ filter_map f (range_with_len 0 (n + 1))
some-more f n y first old new before is added =
    joined first (filter_map f (range_with_len 0 n)) (y ∷ []) old new (filter_map f (range_with_len 0 (n + 1))) before added
    (ap (filter_map f) (range-next n) ∙ filter_map-append f (range_with_len 0 n) (n ∷ []) ∙ ap (λ o. filter_map f (range_with_len 0 n) ++ cons_option o []) is)

pub none-more : {Y : Type 0} (f : ℕ → Option Y) (n : ℕ) (first old : List Y) → old ≡ first ++ filter_map f (range_with_len 0 n) → f n ≡ None → old ≡ first ++ filter_map f (range_with_len 0 (n + 1))
none-more f n first old before is =
    joined first (filter_map f (range_with_len 0 n)) [] old old (filter_map f (range_with_len 0 (n + 1))) before (sym (append-nil old))
    (ap (filter_map f) (range-next n) ∙ filter_map-append f (range_with_len 0 n) (n ∷ []) ∙ ap (λ o. filter_map f (range_with_len 0 n) ++ cons_option o []) is)

-- ALL
pub all-added : {Y : Type 0} (a b c d one two three four five : List Y) → one ≡ [] → two ≡ one ++ a → three ≡ two ++ b → four ≡ three ++ c → five ≡ four ++ d → five ≡ a ++ b ++ c ++ d
all-added a b c d one two three four five none is_a is_b is_c is_d =
    is_d ∙ ap (λ ys. ys ++ d) (is_c ∙ ap (λ ys. ys ++ c) (is_b ∙ ap (λ ys. ys ++ b) (is_a ∙ ap (λ ys. ys ++ a) none)))

-- WITHOUT AN OBSTACLE
last-none : {Y : Type 0} (xs ys : List Y) → xs ++ ys ≡ [] → ys ≡ []
last-none [] ys h = h
last-none (x ∷ xs) ys h = absurd (cc h)

none-mapped : (cs : List Conflict) → map obstacle.Conflict cs ≡ [] → cs ≡ []
none-mapped [] h = refl
none-mapped (c ∷ cs) h = absurd (cc h)

none-unordered : (cs : List Conflict) → cs ≡ [] → NoneUnordered cs
none-unordered cs none c there =
    let within = subst (λ (ds : List Conflict). Contains ds c) none there in
    let w = within.1 in
    absurd (omega (arith, w))

pub certain-one-outcome : CertainOneOutcome
certain-one-outcome s builds o edges early needed began ended place_of commands disk schedule other none named tells legal complete also =
    no-conflict-one-outcome s place_of commands disk schedule other named
    (none-unordered (conflicts s) (none-mapped (conflicts s) (last-none (of_observation o ++ of_edges builds edges early needed began ended ++ of_commands o) (map obstacle.Conflict (conflicts s)) none)))
    tells legal complete also
