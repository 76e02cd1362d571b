use Rattle.std.proofs.Common.{◌<◌, length}
use Rattle.std.proofs.lemmas.List.Elements.{All-from_recursion}
use Rattle.rev_conflicts.proofs.KindLemmas.{joined-length}
use Rattle.rev_conflicts.specs.Tables.{scene}
use Rattle.rev_certified.proofs.WholeLemmas.{whole-ok}
use Rattle.rev_certified.proofs.certificate.whole_edges.Goals as goal

pub seen_whole-requires-clause-within : goal.seen_whole-requires-clause-within
seen_whole-requires-clause-within c = All-from_recursion (λ edge. edge < length c.args.graph.now.manifest.builds) c.args.edges.now c.requires.within

pub seen_whole-requires-clause-each : goal.seen_whole-requires-clause-each
seen_whole-requires-clause-each c = joined-length c.args.graph.now.manifest.builds c.args.edges.now c.args.observation.now.commands c.commands-commands.result.now c.commands-commands.ensures.same c.requires.edges

pub returns : goal.returns
returns c =
    whole-ok c.seen_whole.result
    (scene c.args.graph.now.manifest.builds c.args.files.now c.args.observation.now.paths c.args.observation.now.commands c.args.edges.now c.args.hidden.now)
    c.commands-commands.result.now c.commands-commands.ensures.same c.seen_whole.ensures.each c.seen_whole.ensures.whole
