-- The entries of depfiles and response files.
use Rattle.std.specs.Prelude.{ℕ, List, [], ◌∷◌, Option, Some, None, option_and_then, slice_get}
use Rattle.std.specs.Option.{option_or}
use Rattle.rev_paths.specs.Paths.{place_of}
use Rattle.rev_manifest.specs.Builds.{BuildValue}
use Rattle.rev_clashes.specs.declared.side_file.SideFile.{SideFile}
use Rattle.rev_clashes.specs.Clashes.{file_at}
use Rattle.rev_observation.specs.Observations.{ObservationValue}
use Rattle.rev_entry_conflicts.specs.declared.deed.Deed.{Deed as Act}
use Rattle.rev_entry_conflicts.specs.declared.word.Word.TheVariants as word

-- the entry that a path names: by its own path, or by a further name
abbrev pub entry_of : ObservationValue → List ℕ → Option ℕ
entry_of o path =
    option_or (place_of path o.entries.paths)
    (option_and_then (slice_get o.names.entries) (place_of path o.names.names))

-- the entry of an edge's file of a kind
abbrev pub side_of : SideFile → List BuildValue → ObservationValue → ℕ → Option ℕ
side_of kind builds o edge = option_and_then (entry_of o) (file_at kind builds edge)

-- a file that is made for a command, and taken away
abbrev pub temp_at : Option ℕ → List Act
temp_at None = []
temp_at (Some entry) = record { word = word.Temp; first = entry; last = entry } ∷ []
