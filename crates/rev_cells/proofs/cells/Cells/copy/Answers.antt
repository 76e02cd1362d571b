use Rattle.std.proofs.Common.{◌≡◌, List, sym, subst, ◌∙◌}
use Rattle.std.specs.List.{IsDistinct}
use Rattle.std.specs.Map.{keys_of}
use Rattle.std.specs.Ordering.{eq_by_cmp}
use Rattle.rev_cells.specs.declared.cell.Cell.{Cell}
use Rattle.rev_cells.specs.declared.value.Value.{Value}
use Rattle.rev_cells.specs.Keys.{cell_cmp}
use Rattle.rev_cells.specs.Sound.{AllFit, state_of}
use Rattle.rev_cells.proofs.EntryLemmas.{same_entries}
use Rattle.rev_cells.proofs.cells.Cells.copy.Goals as goal

pub invariant_of-result : goal.invariant_of-result
invariant_of-result c =
    let same : c.in_ok-clone.field-0.entries ≡ c.self.inside.entries.entries = same_entries _ _ c.in_ok-clone.ensures.cases in
    record {
      distinct = subst (λ (es : List (Cell × Value)). IsDistinct (eq_by_cmp cell_cmp) (keys_of es)) (sym same) c.self.invariant.distinct;
      fit = subst AllFit (sym same) c.self.invariant.fit;
    }

pub returns : goal.returns
returns c =
    let same : c.in_ok-clone.field-0.entries ≡ c.self.inside.entries.entries = same_entries _ _ c.in_ok-clone.ensures.cases in
    (λ i. record { jobs = c.self.inside.jobs; state = state_of (same i); places = keys_of (same i); writes = c.self.inside.writes }) ∙ c.self.view_is
