-- The runs of commands, one more number from the last down.
use Rattle.std.proofs.Common.{◌≡◌, ℕ, zero, suc, ◌<◌, ◌+◌, ◌-◌, List, [], ◌∷◌, length, get_or, replicate, Option, None, refl, sym, ap, subst, ◌∙◌, arith}
use Rattle.std.specs.Prelude.{reverse}
use Rattle.std.specs.List.{range_with_len}
use Rattle.std.proofs.lemmas.List.{length-replicate}
use Rattle.rev_history.specs.Timeline.{Timeline, last_of}
use Rattle.rev_runs.specs.declared.ran.Ends.{Ends}
use Rattle.rev_runs.specs.declared.ran.Run.{Run}
use Rattle.rev_runs.specs.Runs.{AreSized, IsFound, IsPartial, runs_in, runs_of}

range-step : (a n : ℕ) → range_with_len a (n + 1) ≡ a ∷ range_with_len (a + 1) n
range-step a n = ap (range_with_len a) (suc-is n)
  where
    suc-is : (n : ℕ) → n + 1 ≡ suc n
    suc-is n = omega arith

pub next-partial : (t : Timeline) (last passed : ℕ) (ends after : Ends) (runs more : List Run) → passed < last → AreSized t.manifest after
    → ((ns : List ℕ) → IsFound t ns ends runs → IsFound t ((last - passed) ∷ ns) after more) → IsPartial t last passed ends runs
    → IsPartial t last (passed + 1) after more
next-partial t last passed ends after runs more below sized grows before = record {
  sized = sized;
  found =
      let here : last - (passed + 1) + 1 ≡ last - passed = omega (arith, below) in
      let step : range_with_len (last - passed) (passed + 1) ≡ (last - passed) ∷ range_with_len (last - passed + 1) passed = range-step (last - passed) passed in
      subst (λ (ns : List ℕ). IsFound t ns after more) (sym (ap (λ k. range_with_len k (passed + 1)) here ∙ step))
      (grows (range_with_len (last - passed + 1) passed) before.found);
}

-- before the last number there is nothing
none-there : (n edge : ℕ) (none : Option ℕ) → get_or (replicate n none) edge none ≡ none
none-there zero edge none = refl
none-there (suc n) zero none = refl
none-there (suc n) (suc edge) none = none-there n edge none

pub first-partial : (t : Timeline) (last n : ℕ) (ends : Ends) (runs : List Run) → ends.kept.items ≡ replicate n None → ends.undone.items ≡ replicate n None → n ≡ length t.manifest.builds → runs ≡ []
    → IsPartial t last 0 ends runs
first-partial t last n ends runs kept undone each none = record {
  sized = record {
    kept = ap length kept ∙ length-replicate n None ∙ each;
    undone = ap length undone ∙ length-replicate n None ∙ each;
  };
  found = record {
    runs_are = ap reverse none;
    kept_are = λ edge. ap (λ (xs : List (Option ℕ)). get_or xs edge None) kept ∙ none-there n edge None;
    undone_are = λ edge. ap (λ (xs : List (Option ℕ)). get_or xs edge None) undone ∙ none-there n edge None;
  };
}

-- what was found of all numbers are all runs, the last one first
pub all-found : (t : Timeline) (passed : ℕ) (ends : Ends) (runs after : List Run) → passed ≡ last_of t.accepted → after ≡ reverse runs → IsPartial t (last_of t.accepted) passed ends runs → after ≡ runs_of t
all-found t passed ends runs after all turned part =
    let first : last_of t.accepted - passed + 1 ≡ 1 = omega (arith, all) in
    turned ∙ part.found.runs_are ∙ (λ i. runs_in t (range_with_len (first i) (all i)))
