use Rattle.std.proofs.Common.{◌<◌, length, arith}
use Rattle.std.specs.Map.{lookup}
use Rattle.rev_cells.specs.Same.{cell_eq}
use Rattle.rev_held.proofs.FirstLemmas.{put-next, put-none}
use Rattle.rev_held.proofs.firsts.put_all.Goals as goal

pub loop-index-init : goal.loop-index-init
loop-index-init c q = put-none c.args.cells.now q c.args.number (lookup (cell_eq q) c.args.firsts.now.entries)

pub loop-index-preserved : goal.loop-index-preserved
loop-index-preserved c q =
    let within : c.loop-index.index < length c.args.cells.now = omega (arith, c.loop-index-test.true, c.len-index-end.ensures) in
    put-next c.args.cells.now c.loop-index.index c.at.result.now q c.args.number (lookup (cell_eq q) c.args.firsts.now.entries) (lookup (cell_eq q) c.loop-index.firsts.entries)
    (lookup (cell_eq q) c.put.new.firsts.entries) within c.at.ensures (c.loop-index.invariant q) (c.in_ok-put.ensures q)
