use Rattle.std.proofs.Common.{◌≡◌, None, Some, refl, subst, sym}
use Rattle.std.specs.Result.{OnOk}
use Rattle.rev_manifest.specs.Manifest.{ManifestValue}
use Rattle.rev_events.specs.Machine.{after, refusal}
use Rattle.rev_prompt.proofs.PastLemmas.{is-accepted, led-next, where-accepted}
use Rattle.rev_prompt.proofs.past.follow_number.Goals as goal

pub returns-in-Some : goal.returns-in-Some
returns-in-Some c =
    let t = c.args.history.now.timeline in
    let e = c.in-Some.event.now in
    let old = c.args.cells.now in
    let more = c.follow.new.cells in
    where-accepted c.follow.result (refusal t.manifest old.jobs old.state e ≡ None) (more.state ≡ after t.manifest old.state e) _
    (subst (λ (m : ManifestValue). refusal m old.jobs old.state e ≡ None → OnOk c.follow.result (more.state ≡ after m old.state e)) c.graph.ensures c.follow.ensures.state)
    (λ state last ks not-past before.
    led-next t last c.args.number ks old more (Some e) (sym c.in-Some.ensures) not-past c.follow.ensures.jobs
    (state (is-accepted t c.args.number ks old e (sym c.in-Some.ensures) before.can)) before)

pub returns-in-None : goal.returns-in-None
returns-in-None c last ks not-past before =
    let t = c.args.history.now.timeline in
    led-next t last c.args.number ks c.args.cells.now c.args.cells.now None (sym c.in-None.ensures) not-past refl refl before
