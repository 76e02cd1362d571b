use Rattle.std.proofs.Common.{◌≡◌, ◌<◌, ◌++◌, None, Some, true, false, get_or, length, sym, ap, ◌∙◌, arith}
use Rattle.std.specs.Prelude.{◌==◌}
use Rattle.std.specs.List.{filter_map}
use Rattle.std.proofs.lemmas.List.{append-nil}
use Rattle.std.proofs.lemmas.Result.{on_ok_weaker}
use Rattle.rev_manifest.specs.Builds.{ManifestValue}
use Rattle.rev_looked.specs.Commands.{command_of}
use Rattle.rev_looked.specs.Needs.{ended_at, holds, scene}
use Rattle.rev_looked.specs.Users.{begun_at, user_by}
use Rattle.rev_looked.proofs.SeenLemmas.{command-is, left-within, own-users, seen-users, unkept-users, unseen-edge}
use Rattle.rev_looked.proofs.user.add_later.Goals as goal

pub returns-then-not-kept : goal.returns-then-not-kept
returns-then-not-kept c =
    let s = scene c.args.history.now.timeline c.args.observation.now.paths c.args.observation.now.commands c.args.edges.now in
    sym (append-nil c.args.users.now.items)
    ∙ ap (λ us. c.args.users.now.items ++ us) (sym (unkept-users s c.args.number c.args.later (sym c.requires.kept ∙ c.if-not-kept.true)))

pub returns-in_default-command_at : goal.returns-in_default-command_at
returns-in_default-command_at c =
    let s = scene c.args.history.now.timeline c.args.observation.now.paths c.args.observation.now.commands c.args.edges.now in
    let begun : Some c.in-Some.edge ≡ begun_at s.timeline c.args.later = c.in-Some.ensures.edge in
    let none : command_of s.edges s.commands c.in-Some.edge ≡ None =
    command-is s.edges s.commands c.commands.result.now c.in-Some.edge _ None c.commands.ensures.same c.in_default-command_at.ensures (c.requires.each c.in-Some.edge c.in-Some.ensures.within) in
    sym (append-nil c.args.users.now.items)
    ∙ ap (λ us. c.args.users.now.items ++ us) (sym (unseen-edge s c.args.number c.args.later c.in-Some.edge begun none))

pub returns-then-is_edge : goal.returns-then-is_edge
returns-then-is_edge c =
    let s = scene c.args.history.now.timeline c.args.observation.now.paths c.args.observation.now.commands c.args.edges.now in
    let begun : begun_at s.timeline c.args.later ≡ Some c.in-Some.edge = sym c.in-Some.ensures.edge in
    let is : command_of s.edges s.commands c.in-Some.edge ≡ Some c.in-Some-command_at.command.now =
    command-is s.edges s.commands c.commands.result.now c.in-Some.edge _ (Some c.in-Some-command_at.command.now) c.commands.ensures.same c.in-Some-command_at.ensures (c.requires.each c.in-Some.edge c.in-Some.ensures.within) in
    let own : holds (λ e. e == c.in-Some.edge) (ended_at s.timeline c.args.number) ≡ true =
    ap (holds (λ e. e == c.in-Some.edge)) (sym c.ended_at.ensures.edge) ∙ sym c.is_edge.ensures ∙ c.if-is_edge.true in
    sym (append-nil c.args.users.now.items)
    ∙ ap (λ us. c.args.users.now.items ++ us)
    (sym (own-users s c.args.number c.args.later c.in-Some.edge c.in-Some-command_at.command.now (sym c.is_kept.ensures ∙ c.if-not-is_kept.false) (omega arith) begun is own))

pub add_looks-requires-clause-paths : goal.add_looks-requires-clause-paths
add_looks-requires-clause-paths c =
    let s = scene c.args.history.now.timeline c.args.observation.now.paths c.args.observation.now.commands c.args.edges.now in
    left-within s c.args.number (length c.args.nexts.now) c.args.paths.now c.requires.paths c.requires.nexts_count

pub returns : goal.returns
returns c =
    let s = scene c.args.history.now.timeline c.args.observation.now.paths c.args.observation.now.commands c.args.edges.now in
    let begun : begun_at s.timeline c.args.later ≡ Some c.in-Some.edge = sym c.in-Some.ensures.edge in
    let is : command_of s.edges s.commands c.in-Some.edge ≡ Some c.in-Some-command_at.command.now =
    command-is s.edges s.commands c.commands.result.now c.in-Some.edge _ (Some c.in-Some-command_at.command.now) c.commands.ensures.same c.in-Some-command_at.ensures (c.requires.each c.in-Some.edge c.in-Some.ensures.within) in
    let own : holds (λ e. e == c.in-Some.edge) (ended_at s.timeline c.args.number) ≡ false =
    ap (holds (λ e. e == c.in-Some.edge)) (sym c.ended_at.ensures.edge) ∙ sym c.is_edge.ensures ∙ c.if-is_edge.false in
    let all = seen-users s c.args.number c.args.later c.in-Some.edge c.in-Some-command_at.command.now c.args.nexts.now c.kept-legal.ensures.legal.rising
    (sym c.requires.kept ∙ c.if-not-kept.false) c.requires.nexts (sym c.is_kept.ensures ∙ c.if-not-is_kept.false) (omega arith) begun is own in
    on_ok_weaker c.add_looks.result (λ added. added
    ∙ (λ j. c.args.users.now.items ++ filter_map (λ path. user_by (ap (λ (m : ManifestValue). m.builds) c.graph-graph.ensures j) (c.paths.ensures.same j)
    c.in-Some.edge c.in-Some-command_at.command.now c.args.later (get_or c.args.nexts.now path None) path) (c.requires.paths j))
    ∙ ap (λ us. c.args.users.now.items ++ us) (sym all)) c.add_looks.ensures
