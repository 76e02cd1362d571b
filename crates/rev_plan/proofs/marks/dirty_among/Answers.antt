use Rattle.std.proofs.Common.{subst, sym, ◌∙◌}
use Rattle.rev_cells.specs.State.{State}
use Rattle.rev_graph.specs.Graph.{GraphValue}
use Rattle.rev_plan.specs.Plan.{edges_by}
use Rattle.rev_plan.specs.Steps.{AreDirty, listed_paths}
use Rattle.rev_plan.proofs.marks.dirty_among.Goals as goal

pub push_dirty-requires-clause-listed : goal.push_dirty-requires-clause-listed
push_dirty-requires-clause-listed c = record { are = c.requires.listed.are ∙ sym (λ i. edges_by (listed_paths (c.new-scan.ensures.state i)) (c.new-scan.ensures.graph i).manifest.builds) }

pub returns : goal.returns
returns c =
    subst (λ (state : State). AreDirty c.args.graph.now.manifest.builds state c.args.marks.now c.push_dirty.new.dirty.items) c.new-scan.ensures.state
    (subst (λ (graph : GraphValue). AreDirty graph.manifest.builds c.new-scan.result.state c.args.marks.now c.push_dirty.new.dirty.items) c.new-scan.ensures.graph c.in_ok-push_dirty.ensures)
