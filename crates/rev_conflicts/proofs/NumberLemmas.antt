-- Numbers of ranges, one after the other.
use Rattle.std.proofs.Common.{◌≡◌, ℕ, ◌+◌, ◌<◌, ◌≤◌, nat_le, Bool, true, ◌||◌, List, [], ◌∷◌, ◌++◌, length, get_or, take, ◌⊎◌, inl, inr, sym, ap, subst, ◌∙◌, arith, Contains}
use Rattle.std.specs.Prelude.{◌↔◌}
use Rattle.std.proofs.lemmas.Bool.{cases_eq, and_parts, and_from, leb-true, le-leb, or_cases, or_left, or_right}
use Rattle.std.proofs.lemmas.List.Elements.{Contains-append_left, Contains-push, Contains-push_cases}
use Rattle.std.proofs.lemmas.List.Folds.{list_any_more}
use Rattle.rev_conflicts.specs.Ranges.{has_path, is_in}
use Rattle.rev_observed.specs.declared.path_set.PathRange.{PathRange}
use Rattle.rev_conflicts.proofs.Some.{either-then}

pub none-in : {X : Type 0} (x : X) → Contains [] x → ⊥
none-in x (k, within, at) = omega (arith, within)

pub pushed : {X : Type 0} (xs all : List X) (y x : X) → all ≡ xs ++ y ∷ [] → Contains all x ↔ (Contains xs x ⊎ (x ≡ y))
pushed xs all y x is = (
  λ c. elim (Contains-push_cases xs y x (subst (λ l. Contains l x) is c)) [ inl old ↦ inl old | inr same ↦ inr (sym same) ],
  λ h. subst (λ l. Contains l x) (sym is) (elim h [
    | inl old ↦ Contains-append_left xs (y ∷ []) x old
    | inr same ↦ subst (λ z. Contains (xs ++ y ∷ []) z) (sym same) (Contains-push xs y)
  ]),
)

-- the numbers of a range that stand below another one
pub record IsPast (range : PathRange) (n p : ℕ) : Type 0 where
  pub from : range.first ≤ p
  pub to : p ≤ range.last
  pub below : p < n

pub past-more : {A B C : Type 0} (range : PathRange) (n p : ℕ) → range.first ≤ n → n < range.last + 1 → (B ↔ (A ⊎ IsPast range n p)) → (C ↔ (B ⊎ (p ≡ n))) → C ↔ (A ⊎ IsPast range (n + 1) p)
past-more range n p from to before step = either-then before step (
  λ r. elim (split p n r.below) [
    | inl same ↦ inr same
    | inr less ↦ inl (record { from = r.from; to = r.to; below = less })
  ],
  λ h. elim h [
    | inl r ↦ let b = r.below in record { from = r.from; to = r.to; below = omega (arith, b) }
    | inr same ↦ record { from = omega (arith, same, from); to = omega (arith, same, to); below = omega (arith, same) }
  ],
)
  where
    split : (p n : ℕ) → p < n + 1 → (p ≡ n) ⊎ (p < n)
    split p n h = elim (cases_eq p n) [ inl same ↦ inl same | inr other ↦ inr (omega (arith, h, other)) ]

pub past-none : {A : Type 0} (range : PathRange) (p : ℕ) → A ↔ (A ⊎ IsPast range range.first p)
past-none range p = (λ a. inl a, λ h. elim h [ inl a ↦ a | inr r ↦ let b = r.below in let f = r.from in absurd (omega (arith, b, f)) ])

pub past-all : (range : PathRange) (n p : ℕ) → range.last < n → IsPast range n p ↔ (is_in p range ≡ true)
past-all range n p all = (
  λ r. and_from (nat_le range.first p) (nat_le p range.last) (le-leb range.first p r.from) (le-leb p range.last r.to),
  λ h.
      let both = and_parts (nat_le range.first p) (nat_le p range.last) h in
      let to = leb-true p range.last both.1 in
      record { from = leb-true range.first p both.0; to = to; below = omega (arith, to, all) },
)

-- ranges, one after the other
pub ranges-more : {A B C : Type 0} (ranges : List PathRange) (i p : ℕ) (range : PathRange) → i < length ranges → range ≡ get_or ranges i range → (B ↔ (A ⊎ (has_path (take i ranges) p ≡ true)))
    → (C ↔ (B ⊎ (is_in p range ≡ true))) → C ↔ (A ⊎ (has_path (take (i + 1) ranges) p ≡ true))
ranges-more ranges i p range within is before step = either-then before step (
  λ h. elim (or_cases (has_path (take i ranges) p) (is_in p (get_or ranges i range)) (sym (list_any_more (is_in p) ranges i range within) ∙ h)) [
    | inl old ↦ inl old
    | inr new ↦ inr (ap (is_in p) is ∙ new)
  ],
  λ h. list_any_more (is_in p) ranges i range within ∙ elim h [
    | inl old ↦ or_left (has_path (take i ranges) p) (is_in p (get_or ranges i range)) old
    | inr new ↦ or_right (has_path (take i ranges) p) (is_in p (get_or ranges i range)) (ap (is_in p) (sym is) ∙ new)
  ],
)

-- either of two tests
pub or-iff : (a b : Bool) → ((a || b) ≡ true) ↔ ((a ≡ true) ⊎ (b ≡ true))
or-iff a b = (λ h. or_cases a b h, λ h. elim h [ inl x ↦ or_left a b x | inr y ↦ or_right a b y ])
