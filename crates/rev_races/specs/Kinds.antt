-- The kind of what is told of two edges.
use Rattle.std.specs.Prelude.{ℕ, ◌<◌, ◌==◌, List, length, if◌then◌else◌}
use Rattle.rev_manifest.specs.Manifest.{BuildValue}
use Rattle.rev_waits.specs.Waits.{waits}
use Rattle.rev_races.specs.declared.race.Kind.{Kind}
use Rattle.rev_races.specs.declared.race.Kind.TheVariants as kind
use Rattle.rev_races.specs.declared.race.Race.{Race}
use Rattle.rev_races.specs.declared.told.Told.{Told}

-- where a makes what b lists: b's own, where they are one; a cycle, where a waits for b; else a race
abbrev pub kind_of : List BuildValue → ℕ → ℕ → Kind
kind_of builds b a = if a == b then kind.Own else if waits builds a b then kind.Cycle else kind.Race

abbrev pub with_kind : List BuildValue → Told → Race
with_kind builds told =
    record {
      kind = kind_of builds told.user told.maker;
      maker = told.maker;
      user = told.user;
      place = told.place;
    }

-- both are edges
pub record IsBetween (builds : List BuildValue) (told : Told) : Type 0 where
  pub maker : told.maker < length builds
  pub user : told.user < length builds
