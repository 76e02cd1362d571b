-- Two rising lists of looks, compared up to one look of the first and one of the second.
use Rattle.std.proofs.Common.{◌≡◌, ℕ, ◌+◌, ◌<◌, ◌≤◌, true, false, List, length, slice_index_or, inl, inr, sym, ap, subst, ◌∙◌, arith, true≢false, Contains, ◌⊎◌}
use Rattle.std.proofs.lemmas.Bool.{cases_eq}
use Rattle.std.proofs.lemmas.List.{get_or_default}
use Rattle.std.proofs.lemmas.List.Elements.{Contains-get_or}
use Rattle.rev_contents.specs.declared.looks.Look.{Look}
use Rattle.rev_contents.specs.Rising.{IsRising}
use Rattle.rev_contents.specs.Runs.{DiffersAt, NoneDiffers, alike}

abbrev pub at : List Look → ℕ → Look → Look
at looks k d = slice_index_or looks k d

-- The looks of the second list before `j` are at lower places than those of the first from `i` on; those of the first
-- before `i` are alike to each look at the same place.
pub record Parted (one other : List Look) (i j : ℕ) : Type 0 where
  pub within : j ≤ length other
  pub passed : (k m : ℕ) (d e : Look) → k < j → i ≤ m → m < length one → (at other k d).place < (at one m e).place
  pub alike_before : (m k : ℕ) (d e : Look) → m < i → k < length other → (at one m e).place ≡ (at other k d).place
      → alike (at one m e).answer (at other k d).answer ≡ true

pub parted-start : (one other : List Look) → Parted one other 0 0
parted-start one other = record {
  within = omega arith;
  passed = λ k m d e below from to. absurd (omega (arith, below));
  alike_before = λ m k d e below to same. absurd (omega (arith, below));
}

-- the look at `i` is compared with that at `to`, the first of the second list that is not at a lower place
pub parted-next : (one other : List Look) (i j to : ℕ) → IsRising one → IsRising other → i < length one → Parted one other i j
    → to ≤ length other
    → ((k : ℕ) (d e : Look) → j ≤ k → k < to → (at other k d).place < (at one i e).place)
    → ((d e : Look) → to < length other → (at one i e).place ≤ (at other to d).place)
    → ((d e : Look) → to < length other → (at one i e).place ≡ (at other to d).place → alike (at one i e).answer (at other to d).answer ≡ true)
    → Parted one other (i + 1) to
parted-next one other i j to one-rises other-rises below parted within lower higher like = record {
  within = within;
  passed = λ k m d e k-below from m-below. elim (before k) [
    | inl early ↦ parted.passed k m d e early (omega (arith, from)) m-below
    | inr late ↦
        let first = lower k d e late k-below in
        let next = one-rises i m e (omega (arith, from)) m-below in
        omega (arith, first, next)
  ];
  alike_before = λ m k d e m-below k-below same. elim (cases_eq m i) [
    | inl is ↦ subst (λ x. alike (at one x e).answer (at other k d).answer ≡ true) (sym is)
        (at-i k d e k-below (subst (λ x. (at one x e).place ≡ (at other k d).place) is same))
    | inr apart ↦ parted.alike_before m k d e (omega (arith, m-below, apart)) k-below same
  ];
}
  where
    before : (k : ℕ) → (k < j) ⊎ (j ≤ k)
    before k = grind arith

    order : (k : ℕ) → (k < to) ⊎ ((k ≡ to) ⊎ (to < k))
    order k = grind arith

    at-i : (k : ℕ) (d e : Look) → k < length other → (at one i e).place ≡ (at other k d).place → alike (at one i e).answer (at other k d).answer ≡ true
    at-i k d e k-below same = elim (order k) [
      | inl low ↦ elim (before k) [
        | inl early ↦ let less = parted.passed k i d e early (omega arith) below in absurd (omega (arith, less, same))
        | inr late ↦ let less = lower k d e late low in absurd (omega (arith, less, same))
      ]
      | inr (inl is) ↦ subst (λ x. alike (at one i e).answer (at other x d).answer ≡ true) (sym is)
          (like d e (subst (λ x. x < length other) is k-below) (subst (λ x. (at one i e).place ≡ (at other x d).place) is same))
      | inr (inr high) ↦
          let less = other-rises to k d high k-below in
          let least = higher d e (omega (arith, high, k-below)) in
          absurd (omega (arith, less, least, same))
    ]

-- the same, where what is read past an end stands for one look alone
pub parted-step : (one other : List Look) (i j to : ℕ) (z : Look) → IsRising one → IsRising other → i < length one → Parted one other i j
    → to ≤ length other
    → ((k : ℕ) (d : Look) → j ≤ k → k < to → (at other k d).place < (at one i z).place)
    → ((d : Look) → to < length other → (at one i z).place ≤ (at other to d).place)
    → (to < length other → (at one i z).place ≡ (at other to z).place → alike (at one i z).answer (at other to z).answer ≡ true)
    → Parted one other (i + 1) to
parted-step one other i j to z one-rises other-rises below parted within lower higher like =
    parted-next one other i j to one-rises other-rises below parted within
    (λ k d e from before. subst (λ x. (at other k d).place < x.place) (here e) (lower k d from before))
    (λ d e before. subst (λ x. x.place ≤ (at other to d).place) (here e) (higher d before))
    (λ d e before same. subst (λ x. alike x.answer (at other to d).answer ≡ true) (here e)
    (subst (λ y. alike (at one i z).answer y.answer ≡ true) (there d before)
    (like before (ap (λ x. x.place) (here e) ∙ same ∙ ap (λ y. y.place) (sym (there d before))))))
  where
    here : (e : Look) → at one i z ≡ at one i e
    here e = get_or_default one i z e below

    there : (d : Look) → to < length other → at other to z ≡ at other to d
    there d before = get_or_default other to z d before

pub parted-end : (one other : List Look) (i j : ℕ) → length one ≤ i → Parted one other i j → NoneDiffers one other
parted-end one other i j all parted place differs = by differs.one_has differs.other_has
  where
    x : Look
    x = record { place = place; answer = differs.here }

    y : Look
    y = record { place = place; answer = differs.there }

    by : Contains one (record { place = place; answer = differs.here }) → Contains other (record { place = place; answer = differs.there }) → ⊥
    by (m, m-below, is) (k, k-below, are) = true≢false (sym like ∙ differs.unlike)
      where
        like : alike differs.here differs.there ≡ true
        like = subst (λ l. alike l.answer differs.there ≡ true) is
            (subst (λ r. alike (at one m (record { place = place; answer = differs.here })).answer r.answer ≡ true) are
            (parted.alike_before m k (record { place = place; answer = differs.there }) (record { place = place; answer = differs.here })
            (omega (arith, m-below, all)) k-below (ap (λ l. l.place) is ∙ sym (ap (λ r. r.place) are))))

-- two looks at one place that are not alike
pub found : (one other : List Look) (i k : ℕ) (d e : Look) → i < length one → k < length other → (at one i e).place ≡ (at other k d).place
    → alike (at one i e).answer (at other k d).answer ≡ false → DiffersAt one other (at one i e).place
found one other i k d e below k-below same unlike = record {
  here = (at one i e).answer;
  there = (at other k d).answer;
  one_has = Contains-get_or one i e below;
  other_has = subst (λ p. Contains other (record { place = p; answer = (at other k d).answer })) (sym same) (Contains-get_or other k d k-below);
  unlike = unlike;
}
