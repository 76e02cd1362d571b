-- It is certain exactly where nothing stands in the way.
use Rattle.std.proofs.Common.{◌≡◌, ℕ, zero, suc, ◌+◌, ◌<◌, ◌≤◌, Bool, true, false, cond, not, ◌&&◌, List, [], ◌∷◌, length, inl, inr, refl, sym, ap, subst, ◌∙◌, arith, true≢false}
use Rattle.std.specs.Prelude.{filter, ◌↔◌}
use Rattle.std.specs.List.{Contains, range_with_len}
use Rattle.std.proofs.lemmas.Bool.{cases_eq}
use Rattle.rev_graph.specs.Graph.{build_at}
use Rattle.rev_ranks.specs.Sets.{is_marked}
use Rattle.rev_races.specs.Judged.{edges_of}
use Rattle.rev_conflicts.specs.declared.conflict.Conflict.{Conflict}
use Rattle.rev_conflicts.specs.Conflicts.{Scene, runs_first}
use Rattle.rev_conflicts.specs.Answer.{AreConflicts, IsConflict}
use Rattle.rev_certified.specs.Certain.{AreNone, AreSeenWhole, IsCertain}
use Rattle.rev_certified.specs.Standing.{is_missing_by, is_unsure_by, missing_in, unsure_in}

-- BY MARKS
missing-no : (needed phony early ended : Bool) → is_missing_by needed phony early ended ≡ false → needed ≡ true → phony ≡ false → early ≡ false → ended ≡ true
missing-no needed phony early true h a b c = refl
missing-no true false false false h a b c = sym h
missing-no false phony early false h a b c = a
missing-no true true early false h a b c = sym b
missing-no true false true false h a b c = sym c

missing-yes : (needed phony early ended : Bool) → (needed ≡ true → phony ≡ false → early ≡ false → ended ≡ true) → is_missing_by needed phony early ended ≡ false
missing-yes false phony early ended k = refl
missing-yes true true early ended k = refl
missing-yes true false true ended k = refl
missing-yes true false false true k = refl
missing-yes true false false false k = sym (k refl refl refl)

unsure-ended : (began ended early whole : Bool) → is_unsure_by began ended early whole ≡ false → began ≡ true → ended ≡ true
unsure-ended began true early whole h b = refl
unsure-ended true false early whole h b = sym h
unsure-ended false false early whole h b = b

unsure-later : (began ended early whole : Bool) → is_unsure_by began ended early whole ≡ false → began ≡ true → early ≡ false
unsure-later began ended false whole h b = refl
unsure-later true true true whole h b = h
unsure-later true false true whole h b = h
unsure-later false ended true whole h b = sym b

unsure-whole : (began ended early whole : Bool) → is_unsure_by began ended early whole ≡ false → began ≡ true → whole ≡ true
unsure-whole began ended early true h b = refl
unsure-whole true true false false h b = sym h
unsure-whole true true true false h b = sym h
unsure-whole true false early false h b = sym h
unsure-whole false ended early false h b = b

unsure-yes : (began ended early whole : Bool) → (began ≡ true → ended ≡ true) → (began ≡ true → early ≡ false) → (began ≡ true → whole ≡ true) → is_unsure_by began ended early whole ≡ false
unsure-yes false ended early whole e l w = refl
unsure-yes true true false true e l w = refl
unsure-yes true true false false e l w = sym (w refl)
unsure-yes true true true whole e l w = l refl
unsure-yes true false early whole e l w = sym (e refl)

-- NO EDGE PASSES
cons-not : (x : ℕ) (xs : List ℕ) (b : Bool) → cond b (x ∷ xs) xs ≡ [] → b ≡ false
cons-not x xs true h = absurd (cc h)
cons-not x xs false h = refl

none-tail : (x : ℕ) (xs : List ℕ) (b : Bool) → cond b (x ∷ xs) xs ≡ [] → xs ≡ []
none-tail x xs true h = absurd (cc h)
none-tail x xs false h = h

-- each number of a range fails where none is left
none-pass : (p : ℕ → Bool) (a n : ℕ) → filter p (range_with_len a n) ≡ [] → (i : ℕ) → a ≤ i → i < a + n → p i ≡ false
none-pass p a zero h i low high = absurd (omega (arith, low, high))
none-pass p a (suc n) h i low high = elim (cases_eq i a) [
  | inl same ↦ ap p same ∙ cons-not a (filter p (range_with_len (a + 1) n)) (p a) h
  | inr other ↦ none-pass p (a + 1) n (none-tail a (filter p (range_with_len (a + 1) n)) (p a) h) i (omega (arith, low, other)) (omega (arith, high))
]

all-fail : (p : ℕ → Bool) (a n : ℕ) → ((i : ℕ) → a ≤ i → i < a + n → p i ≡ false) → filter p (range_with_len a n) ≡ []
all-fail p a zero fails = refl
all-fail p a (suc n) fails =
    ap (λ b. cond b (a ∷ filter p (range_with_len (a + 1) n)) (filter p (range_with_len (a + 1) n))) (fails a (omega arith) (omega arith))
    ∙ all-fail p (a + 1) n (λ i low high. fails i (omega (arith, low)) (omega (arith, high)))

none-contained : (conflicts : List Conflict) → ((c : Conflict) → Contains conflicts c → ⊥) → conflicts ≡ []
none-contained [] none = refl
none-contained (c ∷ cs) none = absurd (none c (0, omega arith, refl))

-- WHERE IT IS CERTAIN
module _ (s : Scene) (needed began ended whole : List Bool) (conflicts : List Conflict) (seen : AreSeenWhole s whole) (are : AreConflicts s conflicts) where
  certain-then : AreNone (filter (missing_in s.builds s.files needed ended) (edges_of s.builds)) (filter (unsure_in s.builds s.files began ended whole) (edges_of s.builds)) conflicts
      → IsCertain s needed began ended
  certain-then none = record {
    all_ran = λ edge within n p f.
        missing-no (is_marked needed edge) (build_at s.builds edge).phony (runs_first s.builds s.files edge) (is_marked ended edge)
        (none-pass (missing_in s.builds s.files needed ended) 0 (length s.builds) none.none_missing edge (omega arith) (omega (arith, within))) n p f;
    ended_well = λ edge within b.
        unsure-ended (is_marked began edge) (is_marked ended edge) (runs_first s.builds s.files edge) (is_marked whole edge)
        (none-pass (unsure_in s.builds s.files began ended whole) 0 (length s.builds) none.none_unsure edge (omega arith) (omega (arith, within))) b;
    comes_later = λ edge within b.
        unsure-later (is_marked began edge) (is_marked ended edge) (runs_first s.builds s.files edge) (is_marked whole edge)
        (none-pass (unsure_in s.builds s.files began ended whole) 0 (length s.builds) none.none_unsure edge (omega arith) (omega (arith, within))) b;
    seen = λ edge within b.
        (seen.exact edge).0 (unsure-whole (is_marked began edge) (is_marked ended edge) (runs_first s.builds s.files edge) (is_marked whole edge)
        (none-pass (unsure_in s.builds s.files began ended whole) 0 (length s.builds) none.none_unsure edge (omega arith) (omega (arith, within))) b);
    quiet = λ c is.
        let inside = (are.exact c).1 is in
        let within : inside.0 < length {A = Conflict} [] = subst (λ (cs : List Conflict). inside.0 < length cs) none.none_conflict inside.1 in
        absurd (omega (arith, within));
  }

  certain-from : IsCertain s needed began ended
      → AreNone (filter (missing_in s.builds s.files needed ended) (edges_of s.builds)) (filter (unsure_in s.builds s.files began ended whole) (edges_of s.builds)) conflicts
  certain-from certain = record {
    none_missing = all-fail (missing_in s.builds s.files needed ended) 0 (length s.builds)
        (λ edge low high. missing-yes (is_marked needed edge) (build_at s.builds edge).phony (runs_first s.builds s.files edge) (is_marked ended edge)
        (certain.all_ran edge (omega (arith, high))));
    none_unsure = all-fail (unsure_in s.builds s.files began ended whole) 0 (length s.builds)
        (λ edge low high. unsure-yes (is_marked began edge) (is_marked ended edge) (runs_first s.builds s.files edge) (is_marked whole edge)
        (certain.ended_well edge (omega (arith, high))) (certain.comes_later edge (omega (arith, high)))
        (λ b. (seen.exact edge).1 (certain.seen edge (omega (arith, high)) b)));
    none_conflict = none-contained conflicts (λ c inside. certain.quiet c ((are.exact c).0 inside));
  }

  pub certain-is : AreNone (filter (missing_in s.builds s.files needed ended) (edges_of s.builds)) (filter (unsure_in s.builds s.files began ended whole) (edges_of s.builds)) conflicts
      ↔ IsCertain s needed began ended
  certain-is = (certain-then, certain-from)

-- the same, by what a test of it gives
pub verdict : (s : Scene) (needed began ended whole : List Bool) (missing unsure : List ℕ) (conflicts : List Conflict) (b : Bool) → AreSeenWhole s whole
    → missing ≡ filter (missing_in s.builds s.files needed ended) (edges_of s.builds)
    → unsure ≡ filter (unsure_in s.builds s.files began ended whole) (edges_of s.builds)
    → AreConflicts s conflicts → (b ≡ true) ↔ AreNone missing unsure conflicts → (b ≡ true) ↔ IsCertain s needed began ended
verdict s needed began ended whole missing unsure conflicts b seen m u are tests = (
  λ h. (certain-is s needed began ended whole conflicts seen are).0
      (let none = tests.0 h in record { none_missing = sym m ∙ none.none_missing; none_unsure = sym u ∙ none.none_unsure; none_conflict = none.none_conflict }),
  λ k. tests.1
      (let none = (certain-is s needed began ended whole conflicts seen are).1 k in
      record { none_missing = m ∙ none.none_missing; none_unsure = u ∙ none.none_unsure; none_conflict = none.none_conflict }),
)
