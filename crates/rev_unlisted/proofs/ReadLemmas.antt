-- Files that a command reads, one after the other.
use Rattle.std.proofs.Common.{◌≡◌, ℕ, ◌+◌, Bool, true, Option, ◌<◌, List, [], ◌∷◌, ◌++◌, length, get_or, inl, inr, sym, ap, subst, ◌∙◌, arith, Contains}
use Rattle.std.specs.Prelude.{◌↔◌}
use Rattle.std.proofs.lemmas.Bool.{cases_eq}
use Rattle.std.proofs.lemmas.List.{get_or_default}
use Rattle.std.proofs.lemmas.List.Elements.{Contains-get_or}
use Rattle.rev_manifest.specs.Manifest.{BuildValue}
use Rattle.rev_observed.specs.CommandValues.{CommandValue}
use Rattle.rev_observed.specs.declared.kind.Kind.TheVariants.{Reads}
use Rattle.rev_conflicts.specs.Places.{does}
use Rattle.rev_conflicts.proofs.NumberLemmas.{pushed}
use Rattle.rev_unlisted.specs.Found.{AreCountedOf, IsReadAt, IsReadByNumber, IsReadOf}

-- FILES, ONE AFTER THE OTHER
-- those of the first reads that pass
pub record IsAmong (reads : List ℕ) (n : ℕ) (P : ℕ → Type 0) (path : ℕ) : Type 0 where
  pub number : ℕ
  pub below : number < n
  pub is : get_or reads number 0 ≡ path
  pub passes : P path

pub among-none : (reads : List ℕ) (P : ℕ → Type 0) (path : ℕ) → Contains [] path ↔ IsAmong reads 0 P path
among-none reads P path = (λ c. let w = c.1 in absurd (omega (arith, w)), λ a. let b = a.below in absurd (omega (arith, b)))

pub among-skip : (reads found : List ℕ) (n : ℕ) (P : ℕ → Type 0) (path : ℕ) → (P (get_or reads n 0) → ⊥) → (Contains found path ↔ IsAmong reads n P path) → Contains found path ↔ IsAmong reads (n + 1) P path
among-skip reads found n P path none before = (
  λ c. let a = before.0 c in let b = a.below in record { number = a.number; below = omega (arith, b); is = a.is; passes = a.passes },
  λ a. before.1 (elim (cases_eq a.number n) [
    | inl same ↦ absurd (none (subst P (sym (ap (λ k. get_or reads k 0) (sym same) ∙ a.is)) a.passes))
    | inr other ↦ let b = a.below in record { number = a.number; below = omega (arith, b, other); is = a.is; passes = a.passes }
  ]),
)

pub among-more : (reads found all : List ℕ) (n : ℕ) (P : ℕ → Type 0) (path : ℕ) → P (get_or reads n 0) → all ≡ found ++ get_or reads n 0 ∷ [] → (Contains found path ↔ IsAmong reads n P path)
    → Contains all path ↔ IsAmong reads (n + 1) P path
among-more reads found all n P path passes is before = (
  λ c. elim ((pushed found all (get_or reads n 0) path is).0 c) [
    | inl old ↦ let a = before.0 old in let b = a.below in record { number = a.number; below = omega (arith, b); is = a.is; passes = a.passes }
    | inr same ↦ record { number = n; below = omega arith; is = sym same; passes = subst P (sym same) passes }
  ],
  λ a. (pushed found all (get_or reads n 0) path is).1 (elim (cases_eq a.number n) [
    | inl same ↦ inr (sym a.is ∙ ap (λ k. get_or reads k 0) same)
    | inr other ↦ inl (before.1 (let b = a.below in record { number = a.number; below = omega (arith, b, other); is = a.is; passes = a.passes }))
  ]),
)

pub among-all : (reads : List ℕ) (n : ℕ) (P Q : ℕ → Type 0) (path : ℕ) → n ≡ length reads → (Contains reads path ↔ Q path) → IsAmong reads n P path ↔ (Q path × P path)
among-all reads n P Q path all reads_are = (
  λ a. let b = a.below in (reads_are.0 (subst (Contains reads) a.is (Contains-get_or reads a.number 0 (omega (arith, b, all)))), a.passes),
  λ both.
      let c = reads_are.1 both.0 in
      let w = c.1 in
      record { number = c.0; below = omega (arith, w, all); is = get_or_default reads c.0 0 path c.1 ∙ c.2; passes = both.1 },
)

-- COMMAND BY COMMAND
module _ (builds : List BuildValue) (paths : List (List ℕ)) (hidden : List Bool) (sides : List BuildValue) (told : List (List ℕ)) (lists : List (List (List ℕ))) where
  -- what marks tell is what counts
  pub read-of : (marks : List (Option ℕ)) (user : ℕ) (used : CommandValue) (path : ℕ) → AreCountedOf builds lists paths user marks
      → IsReadAt builds paths hidden sides told marks user used path ↔ IsReadOf builds paths hidden sides told lists user used path
  read-of marks user used path are = (
    λ r. record { finds = r.finds; is_open = r.is_open; foreign = r.foreign; uncounted = λ c. r.uncounted ((are path r.is_open.named).1 c); alone = r.alone },
    λ r. record { finds = r.finds; is_open = r.is_open; foreign = r.foreign; uncounted = λ m. r.uncounted ((are path r.is_open.named).0 m); alone = r.alone },
  )

  pub read-by-number : (commands : List CommandValue) (edges found : List ℕ) (n : ℕ) (command : CommandValue) (path : ℕ) → n < length commands → command ≡ get_or commands n command
      → (Contains found path ↔ ((does Reads command path ≡ true) × IsReadOf builds paths hidden sides told lists (get_or edges n 0) command path))
      → Contains found path ↔ IsReadByNumber builds paths hidden sides told lists commands edges n path
  read-by-number commands edges found n command path within is both = (
    λ c. let b = both.0 c in record { command = command; is = sym is; reads = b.0; read = b.1 },
    λ r.
        let same : r.command ≡ command = sym r.is ∙ get_or_default commands n r.command command within ∙ sym is in
        both.1 (subst (λ (c : CommandValue). (does Reads c path ≡ true) × IsReadOf builds paths hidden sides told lists (get_or edges n 0) c path) same (r.reads, r.read)),
  )
