use Rattle.std.proofs.Common.{◌≡◌, ◌<◌, ℕ, List, Some, length, get_or, slice_get, ap, sym, subst, ◌∙◌, refl}
use Rattle.std.proofs.lemmas.Option.{slice_get-get_or}
use Rattle.rev_causal.specs.Chosen.{IsRising}
use Rattle.rev_desk.proofs.BreakLemmas.{AreSound-dropped, AreSound-same, bounds, number_at_place, rising_at}
use Rattle.rev_desk.proofs.Rising.{removed-dropped, removed-without}
use Rattle.rev_desk.proofs.breaks.Breaks.remove.Goals as goal

pub forget_at-requires : goal.forget_at-requires
forget_at-requires c = rising_at c.args.graph.now.manifest c.args.self.now c.requires.sound

pub returns-in_err-forget_at-clause-sound : goal.returns-in_err-forget_at-clause-sound
returns-in_err-forget_at-clause-sound c = AreSound-same c.args.graph.now.manifest c.args.self.now _ refl refl c.in_err-forget_at.ensures.err c.requires.sound

pub returns-clause-ok : goal.returns-clause-ok
returns-clause-ok c =
    let e = c.deref.ensures.value ∙ c.requires.sound.numbers in
    c.remove-2.ensures.items
    ∙ removed-dropped c.args.self.now.standing.items c.in-Some.place c.args.number c.requires.sound.rising
    (subst (λ (ks : List ℕ). c.in-Some.place < length ks) e c.in-Some.ensures.found)
    (subst (λ (ks : List ℕ). get_or ks c.in-Some.place 0 ≡ c.args.number) e c.in-Some.ensures.at)

pub returns-clause-sound : goal.returns-clause-sound
returns-clause-sound c =
    let e = c.deref.ensures.value ∙ c.requires.sound.numbers in
    let within : c.in-Some.place < length c.args.self.now.standing.items = bounds c.args.self.now.standing.items c.in-Some.place (subst (λ (ks : List ℕ). c.in-Some.place < length ks) e c.in-Some.ensures.found) in
    let at : slice_get c.args.self.now.standing.items c.in-Some.place ≡ Some c.index.result.now = slice_get-get_or c.args.self.now.standing.items c.in-Some.place c.index.result.now within ∙ ap Some (sym c.index.ensures) in
    AreSound-dropped c.args.graph.now.manifest c.args.self.now _ c.args.number c.in-Some.place c.index.result.now at
    (sym (number_at_place c.args.self.now.standing.items c.in-Some.place c.index.result.now at) ∙ subst (λ (ks : List ℕ). get_or ks c.in-Some.place 0 ≡ c.args.number) e c.in-Some.ensures.at)
    (returns-clause-ok c)
    (c.remove.ensures.items
    ∙ removed-without c.args.self.now.numbers.items c.in-Some.place c.args.number (subst IsRising (sym c.requires.sound.numbers) c.requires.sound.rising)
    (subst (λ (ks : List ℕ). c.in-Some.place < length ks) c.deref.ensures.value c.in-Some.ensures.found)
    (subst (λ (ks : List ℕ). get_or ks c.in-Some.place 0 ≡ c.args.number) c.deref.ensures.value c.in-Some.ensures.at))
    c.in_ok-forget_at.ensures.ok c.requires.sound
