use Rattle.std.proofs.Common.{◌<◌, length, arith}
use Rattle.rev_ranks.specs.Graph.{graph_of}
use Rattle.rev_ranks.proofs.Ways.{nodes_are}
use Rattle.rev_ranks.proofs.WalkLemmas.{walk-starts}
use Rattle.rev_ranks.proofs.leaving.walk_from.Goals as goal

pub loop-node-init : goal.loop-node-init
loop-node-init c =
    let graph = graph_of c.args.successors.now in
    let within : c.args.root < length graph = omega (arith, nodes_are c.args.successors.now, c.requires.root) in
    let w = walk-starts graph c.args.met.now.items c.args.taken.now.items c.args.path.now.items c.args.left.now.items c.args.root c.requires.walk c.requires.path within c.meet.new.met.items c.meet.new.path.items c.in_ok-meet.ensures.met c.in_ok-meet.ensures.path in
    record { walk = w.0; root = w.1; keeps = w.2 }
