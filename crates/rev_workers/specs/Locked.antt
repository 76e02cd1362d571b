-- What contracts see of what lies under the lock.
use Rattle.std.specs.Prelude.{ℕ, ◌≡◌, Bool, List, Option, Some, None, refl}
use Rattle.std.specs.Coded.{Coded, code_by, coded×, coded_list, coded_option, coded_bool, coded_ℕ}
use Rattle.rev_commands.specs.declared.command.Command.{Command}
use Rattle.rev_desk.specs.Codes.{coded_command}
use Rattle.rev_desk.specs.Machine.{DeskValue, desk_code}
use Rattle.rev_workers.specs.declared.standing.Standing.{Standing}
use Rattle.rev_workers.specs.declared.standing.Standing.TheVariants as standing

-- a desk, and how each of its lanes stands
pub record Locked : Type 0 where
  pub desk : DeskValue
  pub standings : List Standing

abbrev pub StandingParts : Type 0
StandingParts = Option (Option (ℕ × (Bool × Command)))

abbrev pub standing_parts : Standing → StandingParts
standing_parts standing.Going = None
standing_parts (standing.Waiting refused_at for_input asked) = Some (Some (refused_at, (for_input, asked.value)))
standing_parts standing.Ended = Some None

abbrev pub standing_of : StandingParts → Standing
standing_of None = standing.Going
standing_of (Some None) = standing.Ended
standing_of (Some (Some p)) = standing.Waiting p.0 p.1.0 (record { marker = record {}; value = p.1.1 })

pub standing_of-standing_parts : (s : Standing) → standing_of (standing_parts s) ≡ s
standing_of-standing_parts standing.Going = refl
standing_of-standing_parts (standing.Waiting refused_at for_input asked) = refl
standing_of-standing_parts standing.Ended = refl

abbrev pub coded_standing : Coded Standing
coded_standing =
    code_by StandingParts (coded_option (coded_option (coded× coded_ℕ (coded× coded_bool coded_command))))
    standing_parts standing_of standing_of-standing_parts

abbrev pub coded_locked : Coded Locked
coded_locked =
    code_by (DeskValue × List Standing) (coded× desk_code (coded_list coded_standing))
    (λ h. (h.desk, h.standings)) (λ p. record { desk = p.0; standings = p.1 }) (λ _. refl)
