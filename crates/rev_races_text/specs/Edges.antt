-- What an edge is called, and where its build statement stands.
use Rattle.std.specs.Prelude.{ℕ, List, [], ◌++◌, Option, Some, None, codes, decimal, slice_get, option_and_then}
use Rattle.std.specs.Option.{option_map}
use Rattle.rev_dyndep.specs.Origins.{output_file}
use Rattle.rev_dyndep.specs.declared.origins.Added.{Added}
use Rattle.rev_manifest.specs.Manifest.{BuildValue, outputs_of}
use Rattle.rev_races_text.specs.Names.{name_if}
use Rattle.rev_races_text.specs.declared.edges.Edge.{Edge}
use Rattle.rev_races_text.specs.declared.names.Shown.{Shown}
use Rattle.rev_shown.specs.Shown.{shown}

-- the bytes of a name, where there is one
abbrev pub bytes_if : Option Shown → Option (List ℕ)
bytes_if name = option_map (λ (s : Shown). s.0.now) name

-- the first output of an edge; none where there is no such edge
abbrev pub first_output : Option BuildValue → Option (List ℕ)
first_output build = option_and_then (λ (b : BuildValue). slice_get (outputs_of b) 0) build

-- the name of the file in which a build statement stands, where that was given
abbrev pub file_of : List (List ℕ × List ℕ) → Option BuildValue → Option (List ℕ)
file_of files build =
    option_and_then (λ (b : BuildValue). option_map (λ (f : List ℕ × List ℕ). f.0) (slice_get files b.file)) build

-- the dyndep file that adds an output to an edge, where it is known what these files add
abbrev pub file_in : Option (List (Option Added)) → ℕ → List ℕ → Option (List ℕ)
file_in origins edge path = option_and_then (λ (rows : List (Option Added)). output_file rows edge path) origins

abbrev pub line_if : Option ℕ → List ℕ
line_if None = []
line_if (Some line) = codes ":" ++ decimal line

-- its first output and its place, as `main.o (build.ninja:19)`
unfoldable pub placed : Edge → List ℕ
placed edge = name_if edge.output ++ codes " (" ++ name_if edge.file ++ line_if edge.line ++ codes ")"

-- THE SAME BY NUMBERS
abbrev pub words_if : Option (List ℕ) → List ℕ
words_if None = []
words_if (Some name) = shown name

-- an edge by its first output alone, as `main.o`
abbrev pub named_at : List BuildValue → ℕ → List ℕ
named_at builds number = words_if (first_output (slice_get builds number))

-- and with its place, as `main.o (build.ninja:19)`
abbrev pub placed_at : List BuildValue → List (List ℕ × List ℕ) → ℕ → List ℕ
placed_at builds files number =
    named_at builds number ++ codes " (" ++ words_if (file_of files (slice_get builds number))
    ++ line_if (option_map (λ (b : BuildValue). b.line) (slice_get builds number)) ++ codes ")"
