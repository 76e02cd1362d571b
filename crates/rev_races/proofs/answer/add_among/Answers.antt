use Rattle.std.proofs.Common.{◌≡◌, length, get_or, Contains, ◌⊎◌, subst, arith}
use Rattle.std.specs.Prelude.{◌↔◌}
use Rattle.rev_races.specs.Keys.{SomeBelow, IsKeyAt}
use Rattle.rev_races.proofs.KeyLemmas.{either-more, some-more}
use Rattle.rev_races.proofs.SearchLemmas.{keys-among}
use Rattle.rev_races.proofs.answer.add_among.Goals as goal

pub loop-place-preserved : goal.loop-place-preserved
loop-place-preserved c = record {
  found = λ k.
      some-more (λ i. IsKeyAt c.args.graph.now.manifest.builds c.args.files.now c.args.paths.now c.args.user (get_or c.args.places.now i 0) k) c.loop-place.place-index (c.loop-place.invariant.found k)
      (c.in_ok-add_at.ensures.found k);
  behind = c.in_ok-add_at.ensures.behind;
}

pub returns-clause-found : goal.returns-clause-found
returns-clause-found c = λ k.
    let builds = c.args.graph.now.manifest.builds in
    let files = c.args.files.now in
    let paths = c.args.paths.now in
    let places = c.args.places.now in
    let all : c.loop-place.place-index ≡ length places = omega (arith, c.loop-place-test.false, c.loop-place.auto.place-index-end) in
    either-more
    (subst (λ n. Contains c.loop-place.found k ↔ (Contains c.args.found.now k ⊎ SomeBelow (λ i. IsKeyAt builds files paths c.args.user (get_or places i 0) k) n)) all (c.loop-place.invariant.found k))
    (keys-among builds files paths c.args.user places c.requires.within c.requires.rest k)
