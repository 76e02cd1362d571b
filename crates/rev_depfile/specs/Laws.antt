-- What holds of every depfile.
use Rattle.std.specs.Prelude.{◌≡◌, ℕ, ◌↔◌, List, [], ◌∷◌, bytes_eq, Some, None}
use Rattle.std.specs.List.{AllByRecursion, IsDistinct}
use Rattle.rev_depfile.specs.declared.fault.DepfileFault.{DepfileFault}
use Rattle.rev_depfile.specs.Grammar.{LineValue, IsDepfile, lines_said}
use Rattle.rev_depfile.specs.Reading.{Gives, Refuses}
use Rattle.rev_depfile.specs.Spelling.{CanBeListed, LineHolds, spelling}
use Rattle.rev_depfile.specs.Value.{first_fault, prerequisites}

-- a text is a depfile of certain lines exactly where it is read as these
abbrev pub LinesAreRead : Type 0
LinesAreRead = (text : List ℕ) (lines : List LineValue) → (lines_said text ≡ lines) ↔ IsDepfile text lines

-- the paths that are answered are those of a reading, and each reading is answered
abbrev pub PathsAreRead : Type 0
PathsAreRead =
    (outputs : List (List ℕ)) (text : List ℕ) (paths : List (List ℕ))
    → ((first_fault outputs text ≡ None) × (prerequisites text ≡ paths)) ↔ Gives outputs text paths

-- the fault that is answered is that of the first line that gives no paths
abbrev pub FaultsAreRead : Type 0
FaultsAreRead =
    (outputs : List (List ℕ)) (text : List ℕ) (fault : DepfileFault)
    → (first_fault outputs text ≡ Some fault) ↔ Refuses outputs text fault

-- a text has a fault exactly where it has no reading
abbrev pub NoReadingIsAFault : Type 0
NoReadingIsAFault =
    (outputs : List (List ℕ)) (text : List ℕ)
    → ((paths : List (List ℕ)) → Gives outputs text paths → ⊥) ↔ ((fault : DepfileFault) × Refuses outputs text fault)

-- every list of paths that a depfile can list, for every output that it can, has a spelling that reads back as that
-- list
abbrev pub ListsAreSpelled : Type 0
ListsAreSpelled =
    (output : List ℕ) (paths : List (List ℕ)) → CanBeListed output → AllByRecursion CanBeListed paths
    → IsDistinct bytes_eq paths
    → Gives (output ∷ []) (spelling output paths) paths

-- and no word of a depfile is empty or has a tab or LF
abbrev pub WordsAreHeld : Type 0
WordsAreHeld = (text : List ℕ) (lines : List LineValue) → IsDepfile text lines → AllByRecursion LineHolds lines
