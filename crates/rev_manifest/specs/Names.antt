-- Paths as they are expanded, and their canonical names.
use Rattle.std.specs.Prelude.{ℕ, Bool, not, List, [], ◌∷◌, length, filter, Option, Some, None, Result, Ok, bytes_eq, nat_lt, if◌then◌else◌}
use Rattle.std.specs.List.{list_any}
use Rattle.rev_paths.specs.Canonical.{canonical}
pub use Rattle.rev_syntax.specs.Bytes.{is_empty}
use Rattle.rev_syntax.specs.Texts.{PieceValue}
use Rattle.rev_scopes.specs.Expansion.{expanded}
use Rattle.rev_manifest.specs.declared.fault.FaultKind.{FaultKind}
use Rattle.rev_manifest.specs.declared.fault.FaultKind.TheVariants.{EmptyPath, LongPath}
use Rattle.rev_manifest.specs.declared.fault.ManifestFault.{ManifestFault}
use Rattle.rev_manifest.specs.declared.fault.Place.{Place}
use Rattle.rev_manifest.specs.Answers.{and_then, unless}
use Rattle.rev_paths.specs.declared.name.TheConstants.Name.{MAX_BYTES}

-- whether a path stands among others
abbrev pub has_path : List (List ℕ) → List ℕ → Bool
has_path paths path = list_any (bytes_eq path) paths

-- the paths that are not among others
abbrev pub without : List (List ℕ) → List (List ℕ) → List (List ℕ)
without others paths = filter (λ path. not (has_path others path)) paths

-- the fault of a path: it is empty, or has more than 4,096 bytes
abbrev pub path_fault : List ℕ → Option FaultKind
path_fault path = if is_empty path then Some EmptyPath else (if nat_lt MAX_BYTES (length path) then Some LongPath else None)

-- the canonical name of a path
abbrev pub name_of : Place → List ℕ → Result (List ℕ) ManifestFault
name_of place path = unless place (path_fault path) (canonical path)

-- the canonical names of texts, whose variables are looked up, or the fault of the leftmost path that has one
abbrev pub names_of : Place → (List ℕ → List ℕ) → List (List PieceValue) → Result (List (List ℕ)) ManifestFault
names_of place look_up [] = Ok []
names_of place look_up (text ∷ texts) =
    and_then (name_of place (expanded look_up text))
    (λ name. and_then (names_of place look_up texts) (λ names. Ok (name ∷ names)))
