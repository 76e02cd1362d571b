use Rattle.std.proofs.Common.{◌∷◌, ◌++◌, [], refl, ap₂, ◌∙◌}
use Rattle.rev_footprint.proofs.AddsLemmas.{map-next}
use Rattle.rev_races.specs.Stories.{story_of}
use Rattle.rev_races.proofs.story.stories.Goals as goal

pub loop-race-init : goal.loop-race-init
loop-race-init c = record { stories = c.new-stories.ensures.items; cones = c.no_cones-cones.ensures c.args.history.now.timeline }

pub loop-race-preserved : goal.loop-race-preserved
loop-race-preserved c = record {
  stories =
      c.in_ok-push.ensures.items
      ∙ ap₂ (λ ss s. ss ++ s ∷ []) c.loop-race.invariant.stories c.in_ok-one_story.ensures.story
      ∙ map-next (story_of c.args.history.now.timeline) c.args.races.now c.loop-race.race-index _ _ c.loop-race-test.true refl;
  cones = c.in_ok-one_story.ensures.cones;
}
