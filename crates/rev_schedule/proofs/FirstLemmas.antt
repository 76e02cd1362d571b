-- The edges that wait for nobody, one after the other.
use Rattle.std.proofs.Common.{◌≡◌, ℕ, ◌+◌, ◌<◌, ◌≤◌, cond, inl, inr, List, [], ◌∷◌, ◌++◌, sym, subst, refl, arith, eqb}
use Rattle.std.specs.List.{Contains, count_by}
use Rattle.std.specs.List.Sorted.{IsPermutation, IsSortedBy}
use Rattle.std.specs.Ordering.{nat_cmp, ordering_then, is_lt}
use Rattle.std.proofs.lemmas.Bool.{cases_eq}
use Rattle.std.proofs.lemmas.Bool.Decides.{nat_tests}
use Rattle.std.proofs.lemmas.List.Elements.{Contains-append_left, Contains-push, Contains-push_cases}
use Rattle.std.proofs.lemmas.List.Sums.{sum_by-append}
use Rattle.std.proofs.lemmas.List.Sorted.{Contains-permutation, IsPermutation-sym, sum_by-IsPermutation}
use Rattle.rev_schedule.specs.declared.job.Build.{Build}
use Rattle.rev_schedule.specs.Builds.{edges_of, makers_of, first_turn_of}
use Rattle.rev_schedule.specs.Ninja.{BecomeReady}
use Rattle.rev_schedule.specs.Turns.{Turn}
use Rattle.rev_schedule.proofs.LookLemmas.{count-none}
use Rattle.rev_schedule.proofs.TurnLemmas.{rising}

-- The turns of the first edges that wait for nobody.
pub record AreFirst (build : Build) (n : ℕ) (turns : List Turn) : Type 0 where
  pub each : (edge : ℕ) → edge < n → makers_of build edge ≡ [] → Contains turns (first_turn_of build edge)
  pub only : (turn : Turn) → Contains turns turn → (turn.1 < n) × (turn ≡ first_turn_of build turn.1) × (makers_of build turn.1 ≡ [])
  pub once : (edge : ℕ) → count_by (λ (turn : Turn). eqb turn.1 edge) turns ≤ 1

module _ (build : Build) where
  pub first-none : AreFirst build 0 []
  first-none = record { each = λ edge h e. absurd (omega arith); only = λ turn h. absurd (omega (arith, h.1)); once = λ edge. omega arith }

  module _ (n : ℕ) (turns : List Turn) (are : AreFirst build n turns) where
    only-still : (turn : Turn) → Contains turns turn → (turn.1 < n + 1) × (turn ≡ first_turn_of build turn.1) × (makers_of build turn.1 ≡ [])
    only-still turn h = let o = are.only turn h in (omega (arith, o.0), o.1, o.2)

    pub first-same : (makers_of build n ≡ [] → ⊥) → AreFirst build (n + 1) turns
    first-same not = record {
      each = λ edge h e. elim (cases_eq edge n) [
        | inl same ↦ absurd (not (subst (λ k. makers_of build k ≡ []) same e))
        | inr other ↦ are.each edge (omega arith) e
      ];
      only = only-still;
      once = are.once;
    }

    pub first-push : makers_of build n ≡ [] → AreFirst build (n + 1) (turns ++ first_turn_of build n ∷ [])
    first-push none = record {
      each = λ edge h e. elim (cases_eq edge n) [
        | inl same ↦ subst (λ k. Contains (turns ++ first_turn_of build n ∷ []) (first_turn_of build k)) (sym same) (Contains-push turns (first_turn_of build n))
        | inr other ↦ Contains-append_left turns (first_turn_of build n ∷ []) (first_turn_of build edge) (are.each edge (omega arith) e)
      ];
      only = λ turn h. elim (Contains-push_cases turns (first_turn_of build n) turn h) [
        | inl old ↦ only-still turn old
        | inr new ↦ subst (λ (t : Turn). (t.1 < n + 1) × (t ≡ first_turn_of build t.1) × (makers_of build t.1 ≡ [])) new (omega arith, refl, none)
      ];
      once = λ edge.
          let parts : count_by (λ (t : Turn). eqb t.1 edge) (turns ++ first_turn_of build n ∷ []) ≡ count_by (λ (t : Turn). eqb t.1 edge) turns + count_by (λ (t : Turn). eqb t.1 edge) (first_turn_of build n ∷ []) =
          sum_by-append (λ (t : Turn). cond (eqb t.1 edge) 1 0) turns (first_turn_of build n ∷ []) in
          let old : count_by (λ (t : Turn). eqb t.1 edge) turns ≤ 1 = are.once edge in
          elim (cases_eq n edge) [
            | inl same ↦
                let none : count_by (λ (t : Turn). eqb t.1 edge) turns ≡ 0 = count-none edge turns (λ t h e. let o = are.only t h in omega (arith, o.0)) in
                grind (arith, nat_tests)
            | inr other ↦ grind (arith, nat_tests)
          ];
    }

  pub first-all : (turns sorted : List Turn) → AreFirst build (edges_of build) turns → IsPermutation turns sorted
      → IsSortedBy (λ x y. is_lt (ordering_then (nat_cmp x.0 y.0) (nat_cmp x.1 y.1))) sorted → BecomeReady build (first_turn_of build) (λ edge. makers_of build edge ≡ []) sorted
  first-all turns sorted are perm up = record {
    each = λ u h e. Contains-permutation turns sorted (first_turn_of build u) perm (are.each u h e);
    only = λ t h. are.only t (Contains-permutation sorted turns t (IsPermutation-sym turns sorted perm) h);
    once = λ u. omega (arith, are.once u, sum_by-IsPermutation (λ (t : Turn). cond (eqb t.1 u) 1 0) turns sorted perm);
    in_turn = rising sorted up;
  }
