use Rattle.std.proofs.Common.{◌<◌, ◌==◌, length, sym, ap, subst, ◌∙◌}
use Rattle.std.specs.Prelude.{IfSome}
use Rattle.rev_dirty.specs.Reasons.{holds}
use Rattle.rev_manifest.specs.Manifest.{ManifestValue}
use Rattle.rev_races.specs.Races.{starts}
use Rattle.rev_suspects.proofs.FailureLemmas.{starts-edge, starts-none, starts-nothing}
use Rattle.rev_suspects.proofs.failed.note_start.Goals as goal

pub returns-in_default : goal.returns-in_default
returns-in_default c = λ ks are. starts-none c.args.history.now.timeline ks c.args.number c.args.begins.now.items (sym c.in_default.ensures) are

pub returns-in_default-begun : goal.returns-in_default-begun
returns-in_default-begun c = λ ks are.
    let t = c.args.history.now.timeline in
    starts-nothing t ks c.args.number c.args.begins.now.items c.in-Some.event.now (sym c.in-Some.ensures)
    (λ edge. ap (holds (λ m. m == edge)) (sym c.in_default-begun.is) ∙ c.begun.ensures.edge edge ∙ ap (λ (m : ManifestValue). starts m edge c.in-Some.event.now) c.graph.ensures) are

pub returns : goal.returns
returns c = λ ks are.
    let t = c.args.history.now.timeline in
    let inside : c.in-Some-begun.edge < length c.args.history.now.timeline.manifest.builds =
    subst (λ (m : ManifestValue). c.in-Some-begun.edge < length m.builds) c.graph.ensures
    (subst (λ o. IfSome o (λ edge. edge < length c.graph.result.now.manifest.builds)) c.in-Some-begun.is c.begun.ensures.within) in
    starts-edge t ks c.args.number c.args.begins.now.items c.in-Some.event.now c.in-Some-begun.edge (sym c.in-Some.ensures)
    (λ edge. ap (holds (λ m. m == edge)) (sym c.in-Some-begun.is) ∙ c.begun.ensures.edge edge ∙ ap (λ (m : ManifestValue). starts m edge c.in-Some.event.now) c.graph.ensures) inside are
