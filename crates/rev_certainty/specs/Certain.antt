-- When a build is certain.
use Rattle.std.specs.Prelude.{ℕ, ◌==◌, Bool, true, false, not, ◌&&◌, List, [], ◌∷◌, Option, Some, None, if◌then◌else◌}
use Rattle.rev_observation.specs.Observations.{ObservationValue}
use Rattle.rev_races_text.specs.Status.{is_whole}
use Rattle.rev_trusted.specs.declared.line.Line.{Line}
use Rattle.rev_certificate.specs.declared.certificate.Certificate.{Certificate}
use Rattle.rev_certainty.specs.Judged.{grants, in_the_way}
use Rattle.rev_certainty.specs.declared.certainty.Beside.{Beside}
use Rattle.rev_certainty.specs.declared.certainty.Certainty.{Certainty}

abbrev pub is_empty : {T : Type 0} → List T → Bool
is_empty [] = true
is_empty (x ∷ xs) = false

-- Nothing stands in the way beside the certificate: the recording counts whole, a command ran, an observation shows no
-- finding about an order, no list and no error names a race, and no two commands have one depfile or response file.
abbrev pub is_clear : Beside → Bool
is_clear b = is_whole b.replayed && (not (b.commands == 0) && (b.findings == 0 && (b.races == 0 && b.side_files == 0)))

-- Nothing stands in the way: not beside the certificate, no obstacle of the certificate that no line takes out of the
-- way, and no assumption that is refused.
abbrev pub is_certain : Beside → Bool → ObservationValue → List Line → Certificate → Bool
is_certain b strict o lines c =
    is_clear b && (is_empty (in_the_way strict o lines c.obstacles.items) && grants strict c.assumptions.items)

-- of how many commands that is said
abbrev pub certainty_if : Bool → ℕ → Option Certainty
certainty_if certain commands = if certain then Some (record { commands = commands }) else None
