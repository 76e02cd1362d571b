use Rattle.std.proofs.Common.{◌≡◌, map, take}
use Rattle.rev_races.specs.Stories.{AreCones, story_of}
use Rattle.rev_races.proofs.story.stories.Given as goal

abbrev pub invariant-loop-race : goal.invariant-loop-race
invariant-loop-race l = record {
  stories : l.stories.items ≡ map (story_of l.history.timeline) (take l.race-index l.races);
  cones : AreCones l.history.timeline l.cones;
}
