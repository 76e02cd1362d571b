use Rattle.std.proofs.Common.{◌≡◌, ◌∙◌}
use Rattle.rev_events.specs.declared.event.Event.TheVariants.{Start}
use Rattle.rev_witness.specs.Progress.{first_out}
use Rattle.rev_witness.proofs.edges.start_of.Goals as goal

pub returns : goal.returns
returns c =
    let out : c.in_ok-copy.field-0 ≡ first_out c.args.graph.now.manifest c.args.edge = c.in_ok-copy.ensures.equal ∙ c.first_output.ensures in
    λ i. Start (out i) 0 (c.first_slot-slot.ensures i)
