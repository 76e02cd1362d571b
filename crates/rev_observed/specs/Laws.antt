-- Each text says one observation, or has one first fault.
use Rattle.std.specs.Prelude.{◌≡◌, ◌⊎◌, ℕ, List}
use Rattle.rev_observed.specs.declared.faults.Fault.{Fault}
use Rattle.rev_observed.specs.Observations.{ObservationValue}
use Rattle.rev_observed.specs.Says.{IsFirstFault, LinesSay}
use Rattle.rev_observed.specs.Texts.{IsObservation, lines_text}

-- lines say an observation or have a first fault, one alone of these
abbrev pub OneOrTheOther : Type 0
OneOrTheOther =
    (lines : List (List ℕ))
    → ((o : ObservationValue) × LinesSay lines o × ((p : ObservationValue) → LinesSay lines p → p ≡ o)
    × ((f : Fault) → IsFirstFault lines f → ⊥))
    ⊎ ((f : Fault) × IsFirstFault lines f × ((g : Fault) → IsFirstFault lines g → g ≡ f)
    × ((o : ObservationValue) → LinesSay lines o → ⊥))

-- the lines that say an observation are read as it
abbrev pub SaidLinesAreRead : Type 0
SaidLinesAreRead = (o : ObservationValue) → IsObservation o → LinesSay (lines_text o) o
