use Rattle.std.proofs.Common.{◌<◌, length}
use Rattle.rev_ranks.specs.Graph.{graph_of}
use Rattle.rev_undeclared.specs.Tables.{IsLookWhere}
use Rattle.rev_undeclared.proofs.LookLemmas.{looks-all}
use Rattle.rev_undeclared.proofs.looks.add_looks.Goals as goal

pub returns : goal.returns
returns c =
    looks-all c.args.graph.now.manifest.builds c.args.paths.now c.args.edges.now c.args.stronger.now (graph_of c.args.left.now.lists.items) c.args.user c.args.used_by c.args.used.now c.args.found.now c.add_ranges.new.found c.add_ranges-2.new.found
    c.add_ranges-3.new.found c.paths.result.now c.paths-2.result.now c.paths-3.result.now
    (IsLookWhere c.args.graph.now.manifest.builds c.args.paths.now c.args.edges.now c.args.stronger.now (graph_of c.args.left.now.lists.items) c.args.user c.args.used_by c.args.used.now (λ path. path < length c.args.paths.now))
    c.paths.ensures c.paths-2.ensures c.paths-3.ensures c.in_ok-add_ranges.ensures c.in_ok-add_ranges-2.ensures c.in_ok-add_ranges-3.ensures
