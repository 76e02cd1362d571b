-- What some number below another passes.
use Rattle.std.proofs.Common.{ℕ, ◌+◌, ◌⊎◌, inl, inr, subst, arith}
use Rattle.std.specs.Prelude.{◌↔◌, Result, Ok, Err, OnOk}
use Rattle.std.proofs.lemmas.Bool.{cases_eq}
use Rattle.rev_conflicts.specs.Tables.{SomeBelow}

pub some-none : {A : Type 0} (P : ℕ → Type 0) → A ↔ (A ⊎ SomeBelow P 0)
some-none P = (λ a. inl a, λ h. elim h [ inl a ↦ a | inr s ↦ let b = s.below in absurd (omega (arith, b)) ])

up : (P : ℕ → Type 0) (n : ℕ) → SomeBelow P n → SomeBelow P (n + 1)
up P n s = let b = s.below in record { number = s.number; below = omega (arith, b); holds = s.holds }

pub some-more : {A B C : Type 0} (P : ℕ → Type 0) (n : ℕ) → (B ↔ (A ⊎ SomeBelow P n)) → (C ↔ (B ⊎ P n)) → C ↔ (A ⊎ SomeBelow P (n + 1))
some-more {A} {B} {C} P n before step = (forth, back)
  where
    forth : C → A ⊎ SomeBelow P (n + 1)
    forth c = elim (step.0 c) [
      | inl b ↦ elim (before.0 b) [ inl a ↦ inl a | inr s ↦ inr (up P n s) ]
      | inr p ↦ inr (record { number = n; below = omega arith; holds = p })
    ]

    back : A ⊎ SomeBelow P (n + 1) → C
    back (inl a) = step.1 (inl (before.1 (inl a)))
    back (inr s) = elim (cases_eq s.number n) [
      | inl same ↦ step.1 (inr (subst P same s.holds))
      | inr other ↦ step.1 (inl (before.1 (inr (let b = s.below in record { number = s.number; below = omega (arith, b, other); holds = s.holds }))))
    ]

pub some-skip : {A B : Type 0} (P : ℕ → Type 0) (n : ℕ) → (B ↔ (A ⊎ SomeBelow P n)) → (P n → ⊥) → B ↔ (A ⊎ SomeBelow P (n + 1))
some-skip P n before none = some-more P n before (λ b. inl b, λ h. elim h [ inl b ↦ b | inr p ↦ absurd (none p) ])

pub either-more : {A C : Type 0} {P Q : Type 0} → (C ↔ (A ⊎ P)) → (P ↔ Q) → C ↔ (A ⊎ Q)
either-more {A} {C} {P} {Q} before same = (forth, back)
  where
    forth : C → A ⊎ Q
    forth c = elim (before.0 c) [ inl a ↦ inl a | inr p ↦ inr (same.0 p) ]

    back : A ⊎ Q → C
    back (inl a) = before.1 (inl a)
    back (inr q) = before.1 (inr (same.1 q))

-- one step after another
pub either-then : {A B C : Type 0} {P Q R : Type 0} → (B ↔ (A ⊎ P)) → (C ↔ (B ⊎ Q)) → (R ↔ (P ⊎ Q)) → C ↔ (A ⊎ R)
either-then {A} {B} {C} {P} {Q} {R} one two both = (forth, back)
  where
    forth : C → A ⊎ R
    forth c = elim (two.0 c) [
      | inl b ↦ elim (one.0 b) [ inl a ↦ inl a | inr p ↦ inr (both.1 (inl p)) ]
      | inr q ↦ inr (both.1 (inr q))
    ]

    back : A ⊎ R → C
    back (inl a) = two.1 (inl (one.1 (inl a)))
    back (inr r) = elim (both.0 r) [
      | inl p ↦ two.1 (inl (one.1 (inr p)))
      | inr q ↦ two.1 (inr q)
    ]

pub none-left : {A B : Type 0} {P : Type 0} → (A → ⊥) → (B ↔ (A ⊎ P)) → B ↔ P
none-left never both = (λ b. elim (both.0 b) [ inl a ↦ absurd (never a) | inr p ↦ p ], λ p. both.1 (inr p))

-- what holds where a call gives Ok
pub ok-then : {A E : Type 0} (P Q : Type 0) → (P → Q) → (r : Result A E) → OnOk r P → OnOk r Q
ok-then P Q f (Ok x) h = f h
ok-then P Q f (Err e) h = h
