-- What searches find: the least number that has a property.
use Rattle.std.proofs.Common.{◌≡◌, ℕ, ◌+◌, ◌<◌, ◌≤◌, zero, suc, nat_lt, get_or, Bool, true, false, cond, not, List, [], ◌∷◌, length, find, Option, Some, None, ◌⊎◌, inl, inr, refl, sym, ap, subst, ◌∙◌, arith, true≢false}
use Rattle.std.specs.List.{range_with_len, position, position_or_len}
use Rattle.std.proofs.lemmas.Bool.{cases_eq, cases_lt, ltb-true, lt-ltb}
use Rattle.std.proofs.lemmas.List.Quantifiers.{position-Some}
use Rattle.rev_plan.specs.Least.{IsLeast}
use Rattle.rev_plan.specs.Refusals.{NoneIs}

-- an option holds the least number that has a property, and nothing where none has it
pub record HoldsLeast (P : ℕ → Type 0) (o : Option ℕ) : Type 0 where
  pub some : (n : ℕ) → o ≡ Some n → IsLeast P n
  pub none : o ≡ None → NoneIs P

pub none-some : {A : Type 0} (x : A) → Some x ≡ None → ⊥
none-some x h =
    let no : Some x ≡ None = h in
    cc

pub one-least : {P : ℕ → Type 0} (n m : ℕ) → IsLeast P n → IsLeast P m → n ≡ m
one-least n m a b = elim (cases_lt n m) [
  | inl less ↦ absurd (b.least n less a.has)
  | inr other ↦ elim (cases_lt m n) [
    | inl less ↦ absurd (a.least m less b.has)
    | inr same ↦ (omega arith)
  ]
]

pub holds-some : {P : ℕ → Type 0} (o : Option ℕ) (n : ℕ) → HoldsLeast P o → IsLeast P n → o ≡ Some n
holds-some None n h l = absurd (h.none refl n l.has)
holds-some (Some m) n h l = ap Some (one-least m n (h.some m refl) l)

pub holds-none : {P : ℕ → Type 0} (o : Option ℕ) → HoldsLeast P o → NoneIs P → o ≡ None
holds-none None h none = refl
holds-none (Some m) h none = absurd (none m (h.some m refl).has)

-- AMONG THE NUMBERS OF EDGES
pub record Found (p : ℕ → Bool) (a n k : ℕ) : Type 0 where
  pub passes : p k ≡ true
  pub within : k < a + n
  pub before : (j : ℕ) → a ≤ j → j < k → p j ≡ false

found-by : (p : ℕ → Bool) (n a k : ℕ) → (find p (range_with_len (a + 1) n) ≡ Some k → Found p (a + 1) n k) → (b : Bool) → p a ≡ b → cond b (Some a) (find p (range_with_len (a + 1) n)) ≡ Some k → Found p a (suc n) k
found-by p n a k rest true e h =
    let same : a ≡ k = cc in
    record { passes = ap p (sym same) ∙ e; within = omega (arith, same); before = λ j low high. absurd (omega (arith, same)) }
found-by p n a k rest false e h =
    let r = rest h in
    record { passes = r.passes; within = omega (arith, r.within); before = λ j low high. elim (cases_eq a j) [ inl same ↦ ap p (sym same) ∙ e | inr other ↦ r.before j (omega arith) high ] }

pub found : (p : ℕ → Bool) (n a k : ℕ) → find p (range_with_len a n) ≡ Some k → Found p a n k
found p zero a k h =
    let no : None ≡ Some k = h in
    cc
found p (suc n) a k h = found-by p n a k (found p n (a + 1) k) (p a) refl h

missed-by : (p : ℕ → Bool) (n a k : ℕ) → a ≤ k → k < a + suc n → (find p (range_with_len (a + 1) n) ≡ None → a < k → p k ≡ false) → (b : Bool) → p a ≡ b → cond b (Some a) (find p (range_with_len (a + 1) n)) ≡ None → p k ≡ false
missed-by p n a k low high rest true e h =
    let no : Some a ≡ None = h in
    cc
missed-by p n a k low high rest false e h = elim (cases_eq a k) [ inl same ↦ ap p (sym same) ∙ e | inr other ↦ rest h (omega arith) ]

pub missed : (p : ℕ → Bool) (n a k : ℕ) → a ≤ k → k < a + n → find p (range_with_len a n) ≡ None → p k ≡ false
missed p zero a k low high h = absurd (omega arith)
missed p (suc n) a k low high h = missed-by p n a k low high (λ g less. missed p n (a + 1) k (omega arith) (omega arith) g) (p a) refl h

-- a number passes the test, and is one of the first n
pub record Passes (p : ℕ → Bool) (n k : ℕ) : Type 0 where
  pub within : k < n
  pub passes : p k ≡ true

pub find-holds : (p : ℕ → Bool) (n : ℕ) (P : ℕ → Type 0) → ((k : ℕ) → Passes p n k → P k) → ((k : ℕ) → P k → Passes p n k) → HoldsLeast P (find p (range_with_len 0 n))
find-holds p n P there back = record {
  some = λ k h.
      let f = found p n 0 k h in
      record { has = there k (record { within = omega (arith, f.within); passes = f.passes }); least = λ j less q. true≢false (sym (back j q).passes ∙ f.before j (omega arith) less) };
  none = λ h k q.
      let r = back k q in
      true≢false (sym r.passes ∙ missed p n 0 k (omega arith) (omega (arith, r.within)) h);
}

-- AMONG THE POSITIONS OF A LIST
passing-place : {X : Type 0} (p : X → Bool) (xs : List X) (k : ℕ) (d : X) → k < length xs → p (get_or xs k d) ≡ true → position_or_len p xs ≤ k
passing-place p [] k d within h = absurd (omega arith)
passing-place p (x ∷ xs) zero d within h =
    let first : position_or_len p (x ∷ xs) ≡ 0 = ap (λ b. cond (not b) (1 + position_or_len p xs) 0) h in
    omega (arith, first)
passing-place p (x ∷ xs) (suc k) d within h = by (p x) (passing-place p xs k d (omega arith) h)
  where
    by : (b : Bool) → position_or_len p xs ≤ k → cond (not b) (1 + position_or_len p xs) 0 ≤ suc k
    by true rest = omega arith
    by false rest = omega (arith, rest)

no-place : (n len : ℕ) → n < len → cond (nat_lt n len) (Some n) None ≡ None → ⊥
no-place n len less h = none-some n (sym (ap (λ b. cond b (Some n) None) (lt-ltb n len less)) ∙ h)

-- an element passes the test
pub record PassesAt {X : Type 0} (p : X → Bool) (xs : List X) (d : X) (k : ℕ) : Type 0 where
  pub within : k < length xs
  pub passes : p (get_or xs k d) ≡ true

pub position-holds : {X : Type 0} (p : X → Bool) (xs : List X) (d : X) (P : ℕ → Type 0) → ((k : ℕ) → PassesAt p xs d k → P k) → ((k : ℕ) → P k → PassesAt p xs d k) → HoldsLeast P (position p xs)
position-holds p xs d P there back = record {
  some = λ k h.
      let f = position-Some p xs k d h in
      record { has = there k (record { within = f.0; passes = f.1 }); least = λ j less q. true≢false (sym (back j q).passes ∙ f.2 j less) };
  none = λ h k q.
      let r = back k q in
      no-place (position_or_len p xs) (length xs) (omega (arith, passing-place p xs k d r.within r.passes, r.within)) h;
}
