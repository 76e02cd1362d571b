-- How many builds are of a kind.
use Rattle.std.specs.Prelude.{◌≡◌, ℕ, ◌<◌, Bool, List, length, slice_index_or, count_by}
use Rattle.rev_separation.specs.declared.build.Build.{Build}
use Rattle.rev_separation.specs.declared.pair.Pair.{Pair}
use Rattle.rev_separation.specs.declared.tally.Tally.{Tally}
use Rattle.rev_separation.specs.Pairs.{both_ran, had_not_begun, had_not_ended, ran_alone}

-- of each way in which the pair can stand how many of the builds have it so
unfoldable pub tally_of : Pair → List Build → Tally
tally_of pair builds = record {
  both = count_by (both_ran pair) builds;
  not_ended = count_by (had_not_ended pair) builds;
  not_begun = count_by (had_not_begun pair) builds;
  alone = count_by (ran_alone pair) builds;
}

abbrev pub pair_of : Bool → ℕ → ℕ → ℕ → Pair
pair_of failed anchor other after = record { failed = failed; anchor = anchor; other = other; after = after }

-- Each command has one tally beside the anchor, by its number.
pub record AreTallies (builds : List Build) (commands : ℕ) (failed : Bool) (anchor after : ℕ) (tallies : List Tally)
    : Type 0 where
  pub each : length tallies ≡ commands
  pub exact : (other : ℕ) (d : Tally) → other < commands
      → slice_index_or tallies other d ≡ tally_of (pair_of failed anchor other after) builds
