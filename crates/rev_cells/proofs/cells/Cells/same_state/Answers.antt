use Rattle.std.proofs.Common.{sym, ◌∙◌, ap}
use Rattle.rev_cells.specs.Table.{Table}
use Rattle.rev_cells.proofs.AlikeLemmas.{state_told}
use Rattle.rev_cells.proofs.cells.Cells.same_state.Goals as goal

pub returns : goal.returns
returns c =
    let told = state_told c.self.inside.entries.entries c.other.inside.entries.entries c.self.invariant.fit c.other.invariant.fit in
    let s = ap (λ (t : Table). t.state) c.self.view_is in
    let u = ap (λ (t : Table). t.state) c.other.view_is in
    (λ h. sym u ∙ told.0 (sym c.same_entries.ensures ∙ h) ∙ s, λ e. c.same_entries.ensures ∙ told.1 (u ∙ e ∙ sym s))
