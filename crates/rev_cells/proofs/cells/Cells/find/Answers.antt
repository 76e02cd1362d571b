use Rattle.std.proofs.Common.{ap, sym, ◌∙◌}
use Rattle.rev_cells.specs.Asked.{asked_cell}
use Rattle.rev_cells.specs.State.{default_or, value_at}
use Rattle.rev_cells.proofs.EntryLemmas.{value_at-state_of}
use Rattle.rev_cells.proofs.cells.Cells.find.Goals as goal

pub returns : goal.returns
returns c =
    ap (default_or (asked_cell c.args.asked)) c.get.ensures.value
    ∙ sym (value_at-state_of c.self.inside.entries.entries (asked_cell c.args.asked) c.self.invariant.fit)
    ∙ ap (λ t. value_at t.state (asked_cell c.args.asked)) c.self.view_is
