-- What the file `output` of a recording says of the commands that failed.
use Rattle.std.specs.Prelude.{ℕ, ◌^◌, List, [], ◌∷◌, Option, None, bytes_eq, codes, option_and_then, if◌then◌else◌}
use Rattle.std.specs.List.{filter_map}
use Rattle.std.specs.Option.{option_map}
use Rattle.std.specs.Result.{result_ok}
use Rattle.rev_fields.specs.Fields.{texts_of}
use Rattle.rev_fields.specs.Lines.{lines_of, path_of}
use Rattle.rev_fields.specs.Numbers.{number_below}
use Rattle.rev_graph.specs.Graph.{producer_of}
use Rattle.rev_manifest.specs.Manifest.{BuildValue}
use Rattle.rev_printed.specs.declared.entry.Entry.{Entry}

-- what a command printed that failed: its edge, how many bytes more there were than are kept, and the first bytes
pub record EntryValue : Type 0 where
  pub edge : ℕ
  pub left : ℕ
  pub text : List ℕ

abbrev pub entry_value : Entry → EntryValue
entry_value entry = record { edge = entry.edge; left = entry.left; text = entry.text.items }

-- the edge that has the output which a field names
abbrev pub edge_by : List BuildValue → List ℕ → Option ℕ
edge_by builds output = option_and_then (producer_of builds) (result_ok (path_of output))

-- what an edge printed, by the field that says how many bytes are left out, and that of the bytes
abbrev pub entry_by : List ℕ → List ℕ → ℕ → Option EntryValue
entry_by left text edge =
    option_map (λ n. record { edge = edge; left = n; text = text }) (result_ok (number_below (2 ^ 64) left))

-- the five fields of a line: `failed OUTPUT NUMBER LEFT TEXT`
abbrev pub entry_in : List BuildValue → List (List ℕ) → Option EntryValue
entry_in builds [] = None
entry_in builds (word ∷ []) = None
entry_in builds (word ∷ output ∷ []) = None
entry_in builds (word ∷ output ∷ number ∷ []) = None
entry_in builds (word ∷ output ∷ number ∷ left ∷ []) = None
entry_in builds (word ∷ output ∷ number ∷ left ∷ text ∷ []) =
    if bytes_eq word (codes "failed") then option_and_then (entry_by left text) (edge_by builds output) else None
entry_in builds (word ∷ output ∷ number ∷ left ∷ text ∷ more ∷ rest) = None

-- what a line says; nothing where it says something else
abbrev pub entry_of : List BuildValue → List ℕ → Option EntryValue
entry_of builds line = option_and_then (entry_in builds) (texts_of line)

-- what lines say, of which the first names the format
abbrev pub entries_behind : List BuildValue → List (List ℕ) → List EntryValue
entries_behind builds [] = []
entries_behind builds (head ∷ lines) =
    if bytes_eq head (codes "rebug-output 1") then filter_map (entry_of builds) lines else []

abbrev pub entries_of : List BuildValue → List ℕ → List EntryValue
entries_of builds text = entries_behind builds (lines_of text)
