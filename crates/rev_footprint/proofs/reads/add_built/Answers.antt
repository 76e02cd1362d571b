use Rattle.std.proofs.Common.{◌+◌, ◌∷◌, ◌++◌, [], take, ap, ◌∙◌}
use Rattle.rev_cells.specs.declared.cell.Cell.TheVariants as cell
use Rattle.rev_dirty.specs.Seen.{built_cells}
use Rattle.rev_footprint.proofs.AddsLemmas.{adds-nothing, adds-next, map-next}
use Rattle.rev_footprint.proofs.reads.add_built.Goals as goal

pub loop-path-init : goal.loop-path-init
loop-path-init c = adds-nothing c.args.reads.now.keys

pub loop-path-preserved : goal.loop-path-preserved
loop-path-preserved c =
    let paths = c.args.paths.now in
    let i = c.loop-path.path-index in
    adds-next c.args.reads.now.keys c.loop-path.reads.keys c.add.new.reads.keys (built_cells (take i paths)) (cell.Built c.in_ok-copy.field-0 ∷ []) (built_cells (take (i + 1) paths))
    c.loop-path.invariant c.in_ok-add.ensures
    (ap (λ p. built_cells (take i paths) ++ cell.Built p ∷ []) c.in_ok-copy.ensures.equal ∙ map-next cell.Built paths i c.path-item.result c.path-item.result c.loop-path-test.true c.path-item.is)
