use Rattle.std.proofs.Common.{Contains, refl, subst}
use Rattle.rev_cells.specs.declared.cell.Cell.TheVariants as cell
use Rattle.rev_cells.specs.Table.{Records}
use Rattle.rev_witness.proofs.WitnessLemmas.{adds_there, opening_has}
use Rattle.rev_witness.proofs.opening.add_source.Goals as goal

-- a path that has a record has it among the sources
pub returns-in-Err-DoubleRecord-clause-adds : goal.returns-in-Err-DoubleRecord-clause-adds
returns-in-Err-DoubleRecord-clause-adds c =
    let paths = c.args.sources.now.paths.items in
    let double = rw c.in-Err-DoubleRecord.field-0-is at c.in-Err-DoubleRecord.ensures.double in
    let place : Contains c.args.sources.now.opening.places (cell.Stamp c.args.path.now) =
    subst (λ p. Contains c.args.sources.now.opening.places (cell.Stamp p)) c.in_ok-copy.ensures.equal (double.0 refl) in
    adds_there c.args.graph.now.manifest.builds c.args.path.now paths
    (opening_has paths c.args.path.now (subst (λ (r : Records). Contains r.places (cell.Stamp c.args.path.now)) c.requires.opening place))
