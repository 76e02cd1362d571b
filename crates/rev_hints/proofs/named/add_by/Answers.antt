use Rattle.std.proofs.Common.{◌≡◌, ℕ, ◌+◌, List, length, get_or, Contains, ◌⊎◌, refl, sym, subst, ◌∙◌, arith, true≢false}
use Rattle.std.specs.Global.{Vec}
use Rattle.std.specs.Prelude.{◌↔◌}
use Rattle.std.proofs.lemmas.List.Elements.{Contains-get_or}
use Rattle.rev_races.specs.Keys.{SomeBelow}
use Rattle.rev_races.proofs.KeyLemmas.{either-more, makers-are, some-more, some-skip}
use Rattle.rev_races.proofs.RaceLemmas.{maker-command}
use Rattle.rev_hints.specs.declared.named.NameHint.{NameHint}
use Rattle.rev_hints.specs.Names.{IsHintOf}
use Rattle.rev_hints.proofs.NameLemmas.{hint-of, hints-by-makers}
use Rattle.rev_hints.proofs.named.add_by.Goals as goal
use Rattle.rev_hints.proofs.named.add_by.Goals.{then-is_due+in_ok-add, else-is_due}

pub is_due-requires-clause-maker : goal.is_due-requires-clause-maker
is_due-requires-clause-maker c =
    let are = makers-are c.args.graph.now.manifest.builds c.deref-maker-items.result.now c.in_ok-makers.makers.items c.args.output.now c.args.output.now c.deref-maker-items.ensures.value refl c.in_ok-makers.ensures.makers in
    (maker-command ((are (get_or c.deref-maker-items.result.now c.loop-maker.maker-index 0)).0 (Contains-get_or c.deref-maker-items.result.now c.loop-maker.maker-index 0 c.loop-maker-test.true))).0

pub loop-maker-preserved : goal.loop-maker-preserved
loop-maker-preserved c =
    let builds = c.args.graph.now.manifest.builds in
    let files = c.args.files.now in
    let whole = c.args.whole.now in
    let user = c.args.user in
    let place = c.args.place in
    let items = c.deref-maker-items.result.now in
    let i = c.loop-maker.maker-index in
    elim c.if-is_due.branch [
      | then-is_due+in_ok-add w ↦ λ h.
          subst (λ (hs : Vec NameHint). Contains hs.items h ↔ (Contains c.args.hints.now.items h ⊎ SomeBelow (λ j. IsHintOf builds files whole user place (get_or items j 0) h) (i + 1))) (sym w.hints-is)
          (some-more (λ j. IsHintOf builds files whole user place (get_or items j 0) h) i (c.loop-maker.invariant h)
          (either-more (w.in_ok-add.ensures h) (hint-of builds files whole user place (get_or items i 0) h (c.is_due.ensures.0 w.if-is_due.true))))
      | else-is_due w ↦ λ h.
          subst (λ (hs : Vec NameHint). Contains hs.items h ↔ (Contains c.args.hints.now.items h ⊎ SomeBelow (λ j. IsHintOf builds files whole user place (get_or items j 0) h) (i + 1))) (sym w.hints-is)
          (some-skip (λ j. IsHintOf builds files whole user place (get_or items j 0) h) i (c.loop-maker.invariant h)
          (λ o. true≢false (sym (c.is_due.ensures.1 o.due) ∙ w.if-is_due.false)))
    ]

pub returns-clause-hints : goal.returns-clause-hints
returns-clause-hints c = λ h.
    let builds = c.args.graph.now.manifest.builds in
    let files = c.args.files.now in
    let whole = c.args.whole.now in
    let user = c.args.user in
    let place = c.args.place in
    let items = c.deref-maker-items.result.now in
    let are = makers-are builds items c.in_ok-makers.makers.items c.args.output.now c.args.output.now c.deref-maker-items.ensures.value refl c.in_ok-makers.ensures.makers in
    let all : c.loop-maker.maker-index ≡ length c.deref-maker-items.result.now = omega (arith, c.loop-maker-test.false, c.loop-maker.auto.maker-index-end) in
    either-more
    (subst (λ n. Contains c.loop-maker.hints.items h ↔ (Contains c.args.hints.now.items h ⊎ SomeBelow (λ j. IsHintOf builds files whole user place (get_or items j 0) h) n)) all (c.loop-maker.invariant h))
    (hints-by-makers builds files whole user place items c.args.output.now h are)
