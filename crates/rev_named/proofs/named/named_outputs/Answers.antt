use Rattle.std.proofs.Common.{bytes_eq, map}
use Rattle.std.specs.Option.{option_copied}
use Rattle.indexmap.specs.IndexSet.{contains}
use Rattle.rev_named.proofs.NamedLemmas.{outputs-are}
use Rattle.rev_named.proofs.named.named_outputs.Goals as goal

pub returns : goal.returns
returns c =
    outputs-are c.args.graph.now.manifest.builds c.args.text.now (contains bytes_eq c.in_ok-found.found) (map option_copied c.in_ok-named.named.items) c.args.edges.now c.in_ok-found.ensures c.in_ok-named.ensures
