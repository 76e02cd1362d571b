use Rattle.std.proofs.Common.{◌≡◌, ℕ, ◌+◌, List, [], length, get_or, Contains, ◌⊎◌, true, false, sym, subst, ◌∙◌, arith, true≢false}
use Rattle.std.specs.Prelude.{◌↔◌}
use Rattle.std.proofs.lemmas.List.{get_or_default}
use Rattle.std.proofs.lemmas.List.Elements.{Contains-get_or}
use Rattle.rev_races.specs.Keys.{SomeBelow, IsKeyBy}
use Rattle.rev_races.proofs.KeyLemmas.{some-more, some-skip, either-more, key-by, keys-at, makers-are}
use Rattle.rev_races.proofs.RaceLemmas.{maker-command}
use Rattle.rev_races.proofs.answer.add_at.Goals as goal
use Rattle.rev_races.proofs.answer.add_at.Goals.{then-is_to_tell+in_ok-add, else-is_to_tell}

pub is_to_tell-requires-clause-maker : goal.is_to_tell-requires-clause-maker
is_to_tell-requires-clause-maker c =
    let are = makers-are c.args.graph.now.manifest.builds c.deref-maker-items.result.now c.in_ok-makers.makers.items c.index-paths-place.result (get_or c.args.paths.now c.args.place []) c.deref-maker-items.ensures.value
    (c.index-paths-place.is ∙ get_or_default c.args.paths.now c.args.place c.index-paths-place.result [] c.requires.place) c.in_ok-makers.ensures.makers in
    (maker-command ((are (get_or c.deref-maker-items.result.now c.loop-maker.maker-index 0)).0 (Contains-get_or c.deref-maker-items.result.now c.loop-maker.maker-index 0 c.loop-maker-test.true))).0

pub loop-maker-preserved : goal.loop-maker-preserved
loop-maker-preserved c =
    let builds = c.args.graph.now.manifest.builds in
    let files = c.args.files.now in
    let paths = c.args.paths.now in
    let user = c.args.user in
    let place = c.args.place in
    let items = c.deref-maker-items.result.now in
    let i = c.loop-maker.maker-index in
    let told = c.is_to_tell.ensures.0 in
    let made = (makers-are builds items c.in_ok-makers.makers.items c.index-paths-place.result (get_or paths place []) c.deref-maker-items.ensures.value
    (c.index-paths-place.is ∙ get_or_default paths place c.index-paths-place.result [] c.requires.place) c.in_ok-makers.ensures.makers (get_or items i 0)).0 (Contains-get_or items i 0 c.loop-maker-test.true) in
    elim c.if-is_to_tell.branch [
      | then-is_to_tell+in_ok-add w ↦ λ k.
          subst (λ (fs : List (List ℕ)). Contains fs k ↔ (Contains c.args.found.now k ⊎ SomeBelow (λ j. IsKeyBy builds files paths user place (get_or items j 0) k) (i + 1))) (sym w.found-is)
          (some-more (λ j. IsKeyBy builds files paths user place (get_or items j 0) k) i (c.loop-maker.invariant k)
          (either-more (w.in_ok-add.ensures k) (key-by builds files paths user place (get_or items i 0) k (told w.if-is_to_tell.true)
          (λ before less same. c.requires.first before (get_or items i 0) less same made (told w.if-is_to_tell.true)))))
      | else-is_to_tell w ↦ λ k.
          subst (λ (fs : List (List ℕ)). Contains fs k ↔ (Contains c.args.found.now k ⊎ SomeBelow (λ j. IsKeyBy builds files paths user place (get_or items j 0) k) (i + 1))) (sym w.found-is)
          (some-skip (λ j. IsKeyBy builds files paths user place (get_or items j 0) k) i (c.loop-maker.invariant k)
          (λ key. true≢false (sym (c.is_to_tell.ensures.1 key.told) ∙ w.if-is_to_tell.false)))
    ]

pub returns-clause-found : goal.returns-clause-found
returns-clause-found c = λ k.
    let builds = c.args.graph.now.manifest.builds in
    let files = c.args.files.now in
    let paths = c.args.paths.now in
    let user = c.args.user in
    let place = c.args.place in
    let items = c.deref-maker-items.result.now in
    let are = makers-are builds items c.in_ok-makers.makers.items c.index-paths-place.result (get_or paths place []) c.deref-maker-items.ensures.value
    (c.index-paths-place.is ∙ get_or_default paths place c.index-paths-place.result [] c.requires.place) c.in_ok-makers.ensures.makers in
    let all : c.loop-maker.maker-index ≡ length c.deref-maker-items.result.now = omega (arith, c.loop-maker-test.false, c.loop-maker.auto.maker-index-end) in
    either-more
    (subst (λ n. Contains c.loop-maker.found k ↔ (Contains c.args.found.now k ⊎ SomeBelow (λ j. IsKeyBy builds files paths user place (get_or items j 0) k) n)) all (c.loop-maker.invariant k))
    (keys-at builds files paths user place items k are)
