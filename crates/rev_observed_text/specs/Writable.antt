-- What is known of the parts of an observation as they are written.
use Rattle.std.specs.Prelude.{◌<◌, ◌^◌}
use Rattle.std.specs.List.{AllByRecursion}
use Rattle.std.specs.Option.{ForSome}
use Rattle.rev_paths.specs.Canonical.{IsCanonical}
use Rattle.rev_observed.specs.declared.command.Uses.{Uses}
use Rattle.rev_observed.specs.CommandValues.{AreUses, CommandValue}
use Rattle.rev_observed.specs.PathSets.{AreRising}
use Rattle.rev_observed.specs.Texts.{IsRange}

-- ranges that rise, of numbers of 32 bits
pub record IsWritableUses (u : Uses) : Type 0 where
  pub rising : AreRising u.paths
  pub ranges : AllByRecursion IsRange u.paths

-- a canonical output, each kind once, and a count of 64 bits
pub record IsWritable (c : CommandValue) : Type 0 where
  pub canonical : IsCanonical c.output
  pub uses : AreUses c.uses
  pub each : AllByRecursion IsWritableUses c.uses
  pub outside : ForSome c.outside (λ n. n < 2 ^ 64)
