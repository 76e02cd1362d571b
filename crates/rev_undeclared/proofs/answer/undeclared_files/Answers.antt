use Rattle.std.proofs.Common.{◌<◌, ℕ, List, length, subst}
use Rattle.std.specs.Global.{Vec}
use Rattle.std.proofs.lemmas.List.Elements.{All-from_recursion}
use Rattle.rev_observed.specs.CommandValues.{CommandValue}
use Rattle.rev_conflicts.specs.Tables.{scene}
use Rattle.rev_conflicts.proofs.KindLemmas.{joined-length}
use Rattle.rev_undeclared.specs.declared.kind.Undeclared.{Undeclared}
use Rattle.rev_undeclared.specs.Answer.{AreUndeclared}
use Rattle.rev_undeclared.specs.Tables.{AreFound}
use Rattle.rev_undeclared.proofs.AnswerLemmas.{are-undeclared, ok-more}
use Rattle.rev_undeclared.proofs.answer.undeclared_files.Goals as goal

pub returns : goal.returns
returns c =
    let builds = c.args.graph.now.manifest.builds in
    let files = c.args.files.now in
    let edges = c.args.edges.now in
    let hidden = c.args.hidden.now in
    let P = c.paths-paths.result.now in
    let C = c.commands-commands.result.now in
    ok-more (λ (v : Vec Undeclared). AreFound (scene builds files P C edges hidden) c.args.builds.now c.in_ok-stronger.stronger v.items)
    (λ (v : Vec Undeclared). AreUndeclared (scene builds files c.args.observation.now.paths c.args.observation.now.commands edges hidden) c.args.builds.now c.args.conflicts.now v.items)
    (λ v is.
    subst (λ (ps : List (List ℕ)). AreUndeclared (scene builds files ps c.args.observation.now.commands edges hidden) c.args.builds.now c.args.conflicts.now v.items) c.paths-paths.ensures.same
    (subst (λ (cs : List CommandValue). AreUndeclared (scene builds files P cs edges hidden) c.args.builds.now c.args.conflicts.now v.items) c.commands-commands.ensures.same
    (are-undeclared (scene builds files P C edges hidden) c.args.builds.now c.args.conflicts.now c.in_ok-stronger.stronger v.items c.in_ok-stronger.ensures is)))
    c.found_in.result c.found_in.ensures

pub found_in-requires-clause-edges : goal.found_in-requires-clause-edges
found_in-requires-clause-edges c = All-from_recursion (λ edge. edge < length c.args.graph.now.manifest.builds) c.args.edges.now c.requires.within

pub found_in-requires-clause-each : goal.found_in-requires-clause-each
found_in-requires-clause-each c = joined-length c.args.graph.now.manifest.builds c.args.edges.now c.args.observation.now.commands c.commands-commands.result.now c.commands-commands.ensures.same c.requires.edges
