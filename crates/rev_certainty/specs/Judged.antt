-- What stands in the way, and what a user trusts.
use Rattle.std.specs.Prelude.{ℕ, Bool, true, false, not, ◌||◌, List, Option, filter, if◌then◌else◌, option_and_then, slice_get}
use Rattle.std.specs.List.{list_any}
use Rattle.std.specs.Option.{option_map_or}
use Rattle.rev_observation.specs.declared.flag.Flag.{Flag}
use Rattle.rev_observation.specs.Blocks.{CommandValue}
use Rattle.rev_observation.specs.Observations.{ObservationValue}
use Rattle.rev_trusted.specs.Trusts.{is_trusted}
use Rattle.rev_trusted.specs.declared.line.Line.{Line}
use Rattle.rev_certificate.specs.declared.assumption.Assumption.{Assumption}
use Rattle.rev_certificate.specs.declared.assumption.Assumption.TheVariants as assumed
use Rattle.rev_certificate.specs.declared.obstacle.Obstacle.{Obstacle}
use Rattle.rev_certificate.specs.declared.obstacle.Obstacle.TheVariants as obstacle

-- a flag of a command, by both numbers
abbrev pub flag_of : ObservationValue → ℕ → ℕ → Option Flag
flag_of o command number = option_and_then (λ (c : CommandValue). slice_get c.flags number) (slice_get o.commands command)

-- Lines take an obstacle out of the way: it is a flag of a command, and one of the lines trusts that.
abbrev pub is_taken : ObservationValue → List Line → Obstacle → Bool
is_taken o lines (obstacle.Flagged command number) = option_map_or (is_trusted lines) (flag_of o command number) false
is_taken o lines _ = false

-- the obstacles that no line takes out of the way
abbrev pub untaken : ObservationValue → List Line → List Obstacle → List Obstacle
untaken o lines obstacles = filter (λ one. not (is_taken o lines one)) obstacles

-- What stands in the way. A strict certificate trusts no flag.
abbrev pub in_the_way : Bool → ObservationValue → List Line → List Obstacle → List Obstacle
in_the_way strict o lines obstacles = if strict then obstacles else untaken o lines obstacles

-- A strict certificate refuses each assumption but two.
abbrev pub is_refused : Assumption → Bool
is_refused assumed.Targets = false
is_refused assumed.SeesTheSame = false
is_refused _ = true

-- no assumption is refused
abbrev pub grants : Bool → List Assumption → Bool
grants strict assumptions = not strict || not (list_any is_refused assumptions)
