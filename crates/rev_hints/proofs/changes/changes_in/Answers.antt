use Rattle.std.proofs.Common.{◌≡◌, ℕ, ◌+◌, ◌<◌, List, [], ◌∷◌, ◌++◌, length, get_or, take, sym, ap, subst, ◌∙◌}
use Rattle.std.specs.Option.{option_copied}
use Rattle.std.proofs.lemmas.List.{take_more}
use Rattle.rev_causal.specs.Chosen.{chosen}
use Rattle.rev_events.specs.declared.event.Event.{Event}
use Rattle.rev_hints.specs.declared.changes.Changed.{Changed}
use Rattle.rev_hints.specs.Changes.{AreNoted}
use Rattle.rev_hints.proofs.ChangeLemmas.{chosen-none, chosen-some}
use Rattle.rev_hints.proofs.changes.changes_in.Goals as goal
use Rattle.rev_hints.proofs.changes.changes_in.Goals.{in-Some+in_ok-note_event, in_default}

pub loop-number-preserved : goal.loop-number-preserved
loop-number-preserved c =
    let builds = c.graph-graph.result.now.manifest.builds in
    let names = c.args.names.now.entries in
    let accepted = c.args.history.now.timeline.accepted in
    let i = c.loop-number.number-index in
    let n : ℕ = get_or c.kept-number-items.result.now c.loop-number.number-index 0 in
    let ks = take i c.args.history.now.timeline.kept in
    let within : c.loop-number.number-index < length c.args.history.now.timeline.kept =
    subst (λ (xs : List ℕ). c.loop-number.number-index < length xs) c.kept-number-items.ensures.kept c.loop-number-test.true in
    let grown : take (c.loop-number.number-index + 1) c.args.history.now.timeline.kept
    ≡ take c.loop-number.number-index c.args.history.now.timeline.kept ++ get_or c.kept-number-items.result.now c.loop-number.number-index 0 ∷ [] =
    take_more c.args.history.now.timeline.kept i 0 within
    ∙ ap (λ (xs : List ℕ). ks ++ get_or xs i 0 ∷ []) (sym c.kept-number-items.ensures.kept) in
    let put : (events : List (ℕ × Event)) → events ≡ chosen c.args.history.now.timeline.accepted (take (c.loop-number.number-index + 1) c.args.history.now.timeline.kept)
    → (ran : List ℕ) (table : List (List ℕ × Changed)) → ran ≡ c.match-event.running.items → table ≡ c.match-event.changes.entries
    → AreNoted c.graph-graph.result.now.manifest.builds c.args.names.now.entries events ran table
    → AreNoted c.graph-graph.result.now.manifest.builds c.args.names.now.entries
    (chosen c.args.history.now.timeline.accepted (take (c.loop-number.number-index + 1) c.args.history.now.timeline.kept)) c.match-event.running.items c.match-event.changes.entries =
    λ events same ran table runs changes noted.
    subst (λ (es : List (ℕ × Event)). AreNoted builds names es c.match-event.running.items c.match-event.changes.entries) same
    (subst (λ (r : List ℕ). AreNoted builds names events r c.match-event.changes.entries) runs
    (subst (λ (t : List (List ℕ × Changed)). AreNoted builds names events ran t) changes noted)) in
    elim c.match-event.branch [
      | in-Some+in_ok-note_event w ↦
          put (chosen accepted ks ++ (n, w.in-Some.event.now) ∷ [])
          (sym (ap (chosen accepted) grown ∙ chosen-some accepted ks n w.in-Some.event.now (sym c.event.ensures ∙ ap option_copied w.in-Some.is)))
          w.note_event.new.running.items w.note_event.new.changes.entries (sym (ap (λ v. v.items) w.running-is)) (sym (ap (λ m. m.entries) w.changes-is))
          (w.in_ok-note_event.ensures (chosen accepted ks) c.loop-number.invariant)
      | in_default w ↦
          put (chosen accepted ks)
          (sym (ap (chosen accepted) grown ∙ chosen-none accepted ks n (sym c.event.ensures ∙ ap option_copied w.in_default.is)))
          c.loop-number.running.items c.loop-number.changes.entries (sym (ap (λ v. v.items) w.running-is)) (sym (ap (λ m. m.entries) w.changes-is))
          c.loop-number.invariant
    ]
