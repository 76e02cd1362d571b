use Rattle.std.proofs.Common.{IsSome, Contains, slice_get, ap, sym, ◌∙◌, subst, option_map}
use Rattle.std.proofs.lemmas.Option.{slice_get-map}
use Rattle.std.specs.FinMap as map
use Rattle.rev_cells.specs.declared.cell.Cell.{Cell}
use Rattle.rev_cells.specs.declared.value.Value.{Value}
use Rattle.rev_cells.specs.Table.{Table}
use Rattle.rev_cells.proofs.EntryLemmas.{placed}
use Rattle.rev_cells.proofs.cells.Cells.place.Goals as goal

pub returns-in_err-cell-clause-all : goal.returns-in_err-cell-clause-all
returns-in_err-cell-clause-all c =
    subst (λ (t : Table). (k : Cell) → IsSome (map.get t.state k) → Contains t.places k) c.self.view_is (placed c.self.inside.entries.entries)

pub returns-clause-place : goal.returns-clause-place
returns-clause-place c =
    ap (option_map (λ (e : Cell × Value). e.0)) c.in_ok-cell.ensures.entry
    ∙ sym (slice_get-map (λ (e : Cell × Value). e.0) c.self.inside.entries.entries c.args.index)
    ∙ ap (λ t. slice_get t.places c.args.index) c.self.view_is

pub returns-clause-all : goal.returns-clause-all
returns-clause-all c =
    subst (λ (t : Table). (k : Cell) → IsSome (map.get t.state k) → Contains t.places k) c.self.view_is (placed c.self.inside.entries.entries)

pub returns-then-index-len-clause-all : goal.returns-then-index-len-clause-all
returns-then-index-len-clause-all c =
    subst (λ (t : Table). (k : Cell) → IsSome (map.get t.state k) → Contains t.places k) c.self.view_is (placed c.self.inside.entries.entries)
