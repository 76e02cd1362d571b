-- Races as numbers, as they are found.
use Rattle.std.proofs.Common.{◌≡◌, ℕ, ◌+◌, ◌<◌, List, [], ◌∷◌, length, get_or, Some, ◌⊎◌, inl, inr, sym, ap, subst, ◌∙◌, arith, Contains}
use Rattle.std.specs.Prelude.{◌↔◌, Result, Ok, Err, IfOk, OnOk}
use Rattle.std.proofs.lemmas.Bool.{cases_eq}
use Rattle.std.proofs.lemmas.List.{get_or_default}
use Rattle.std.proofs.lemmas.List.Elements.{Contains-get_or}
use Rattle.rev_manifest.specs.Manifest.{BuildValue, ManifestValue}
use Rattle.rev_history.specs.Timeline.{Timeline, kept_events}
use Rattle.rev_graph.specs.Graph.{Produces}
use Rattle.rev_waits.specs.Waits.{Makes}
use Rattle.rev_races.specs.Answer.{IsFirstPlace, IsToTell}
use Rattle.rev_races.specs.Keys.{SomeBelow, IsKeyBy, IsKeyAt, IsKeyAmong, IsKeyOf}
use Rattle.rev_races.specs.Races.{lists}

-- SOME NUMBER BELOW
pub some-none : {A : Type 0} (P : ℕ → Type 0) → A ↔ (A ⊎ SomeBelow P 0)
some-none P = (λ a. inl a, λ h. elim h [ inl a ↦ a | inr s ↦ let b = s.below in absurd (omega (arith, b)) ])

up : (P : ℕ → Type 0) (n : ℕ) → SomeBelow P n → SomeBelow P (n + 1)
up P n s = let b = s.below in record { number = s.number; below = omega (arith, b); holds = s.holds }

pub some-more : {A B C : Type 0} (P : ℕ → Type 0) (n : ℕ) → (B ↔ (A ⊎ SomeBelow P n)) → (C ↔ (B ⊎ P n)) → C ↔ (A ⊎ SomeBelow P (n + 1))
some-more {A} {B} {C} P n before step = (forth, back)
  where
    forth : C → A ⊎ SomeBelow P (n + 1)
    forth c = elim (step.0 c) [
      | inl b ↦ elim (before.0 b) [ inl a ↦ inl a | inr s ↦ inr (up P n s) ]
      | inr p ↦ inr (record { number = n; below = omega arith; holds = p })
    ]

    back : A ⊎ SomeBelow P (n + 1) → C
    back (inl a) = step.1 (inl (before.1 (inl a)))
    back (inr s) = elim (cases_eq s.number n) [
      | inl same ↦ step.1 (inr (subst P same s.holds))
      | inr other ↦ step.1 (inl (before.1 (inr (let b = s.below in record { number = s.number; below = omega (arith, b, other); holds = s.holds }))))
    ]

pub some-skip : {A B : Type 0} (P : ℕ → Type 0) (n : ℕ) → (B ↔ (A ⊎ SomeBelow P n)) → (P n → ⊥) → B ↔ (A ⊎ SomeBelow P (n + 1))
some-skip P n before none = some-more P n before (λ b. inl b, λ h. elim h [ inl b ↦ b | inr p ↦ absurd (none p) ])

pub either-more : {A C : Type 0} {P Q : Type 0} → (C ↔ (A ⊎ P)) → (P ↔ Q) → C ↔ (A ⊎ Q)
either-more {A} {C} {P} {Q} before same = (forth, back)
  where
    forth : C → A ⊎ Q
    forth c = elim (before.0 c) [ inl a ↦ inl a | inr p ↦ inr (same.0 p) ]

    back : A ⊎ Q → C
    back (inl a) = before.1 (inl a)
    back (inr q) = before.1 (inr (same.1 q))

-- ONE MAKER, AND ALL OF A PATH'S
pub key-by : (builds : List BuildValue) (files paths : List (List ℕ)) (user place maker : ℕ) (k : List ℕ) → IsToTell builds files user maker → IsFirstPlace paths place
    → (k ≡ maker ∷ user ∷ place ∷ []) ↔ IsKeyBy builds files paths user place maker k
key-by builds files paths user place maker k told first = (λ e. record { is = e; told = told; first = first }, λ key. key.is)

pub keys-at : (builds : List BuildValue) (files paths : List (List ℕ)) (user place : ℕ) (makers : List ℕ) (k : List ℕ)
    → ((maker : ℕ) → Contains makers maker ↔ Makes builds maker (get_or paths place []))
    → SomeBelow (λ i. IsKeyBy builds files paths user place (get_or makers i 0) k) (length makers) ↔ IsKeyAt builds files paths user place k
keys-at builds files paths user place makers k are = (
  λ s. let b = s.below in record { maker = get_or makers s.number 0; made = (are (get_or makers s.number 0)).0 (Contains-get_or makers s.number 0 b); key = s.holds },
  λ a.
      let c = (are a.maker).1 a.made in
      let at : get_or makers c.0 0 ≡ a.maker = get_or_default makers c.0 0 a.maker c.1 ∙ c.2 in
      record { number = c.0; below = c.1; holds = subst (λ m. IsKeyBy builds files paths user place m k) (sym at) a.key },
)

-- FILES THAT AN EDGE DOES NOT MAKE
pub none-more : (builds : List BuildValue) (edge : ℕ) (files : List (List ℕ)) (i : ℕ) (file : List ℕ) → i < length files → file ≡ get_or files i file → (Produces builds edge file → ⊥)
    → ((k : ℕ) → k < i → Produces builds edge (get_or files k []) → ⊥) → (k : ℕ) → k < i + 1 → Produces builds edge (get_or files k []) → ⊥
none-more builds edge files i file within is none before k below made = elim (cases_eq k i) [
  | inl same ↦ none (subst (λ p. Produces builds edge p) (ap (λ n. get_or files n []) same ∙ get_or_default files i [] file within ∙ sym is) made)
  | inr other ↦ before k (omega (arith, below, other)) made
]

-- ONE USER OF A HISTORY
pub keys-of : (t : Timeline) (files : List (List ℕ)) (user : ℕ) (paths : List (List ℕ)) (manifest : ManifestValue) → manifest ≡ t.manifest
    → lists t.manifest t.opening (kept_events t) user ≡ Some paths → (k : List ℕ) → IsKeyAmong manifest.builds files paths user k ↔ IsKeyOf t files user k
keys-of t files user paths manifest same are k = (
  λ a. record { paths = paths; lists_are = are; among = subst (λ (m : ManifestValue). IsKeyAmong m.builds files paths user k) same a },
  λ o.
      let both : Some o.paths ≡ Some paths = sym o.lists_are ∙ are in
      let one : o.paths ≡ paths = cc in
      subst (λ (m : ManifestValue). IsKeyAmong m.builds files paths user k) (sym same) (subst (λ ps. IsKeyAmong t.manifest.builds files ps user k) one o.among),
)

-- what holds where a call gives Ok
pub ok-then : {A E : Type 0} (P Q : Type 0) → (P → Q) → (r : Result A E) → OnOk r P → OnOk r Q
ok-then P Q f (Ok x) h = f h
ok-then P Q f (Err e) h = h

pub ok-both : {A E : Type 0} (P Q R : A → Type 0) → ((x : A) → P x → Q x → R x) → (r : Result A E) → IfOk r P → IfOk r Q → IfOk r R
ok-both P Q R f (Ok x) h k = f x h k
ok-both P Q R f (Err e) h k = h

-- THE MAKERS OF A PATH
pub makers-are : (builds : List BuildValue) (items made : List ℕ) (p q : List ℕ) → items ≡ made → p ≡ q → ((m : ℕ) → Contains made m ↔ Makes builds m p) → (m : ℕ) → Contains items m ↔ Makes builds m q
makers-are builds items made p q e f are m =
    subst (λ (xs : List ℕ). Contains xs m ↔ Makes builds m q) (sym e) (subst (λ (x : List ℕ). Contains made m ↔ Makes builds m x) f (are m))
