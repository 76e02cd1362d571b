-- Names of one file. `names` has other names of files, each with the own name of its file.
use Rattle.std.specs.Prelude.{ℕ, Bool, List, ◌++◌, map, Option, None, Some, bytes_eq, unwrap_or, if◌then◌else◌}
use Rattle.std.specs.List.{filter_map, list_any}
use Rattle.std.specs.Map.{lookup}

-- the own name of the file to which a path leads, where the path is another name
abbrev pub own_of : List (List ℕ × List ℕ) → List ℕ → Option (List ℕ)
own_of names path = lookup (bytes_eq path) names

-- the own name of the file to which a path leads
abbrev pub own_name_of : List (List ℕ × List ℕ) → List ℕ → List ℕ
own_name_of names path = unwrap_or (own_of names path) path

-- the own names of the files to which those of these paths lead that are other names
abbrev pub own_names_in : List (List ℕ × List ℕ) → List (List ℕ) → List (List ℕ)
own_names_in names paths = filter_map (own_of names) paths

-- a name is another name of a file that has one of these own names
abbrev pub is_other_of : List (List ℕ) → List ℕ × List ℕ → Bool
is_other_of owns entry = list_any (λ own. bytes_eq own entry.1) owns

abbrev pub other_of : List (List ℕ) → List ℕ × List ℕ → Option (List ℕ)
other_of owns entry = if is_other_of owns entry then Some entry.0 else None

abbrev pub other_names_of : List (List ℕ) → List (List ℕ × List ℕ) → List (List ℕ)
other_names_of owns names = filter_map (other_of owns) names

-- ALL NAMES of the files to which these paths lead: their own names, and then each other name of these files
abbrev pub all_names_of : List (List ℕ × List ℕ) → List (List ℕ) → List (List ℕ)
all_names_of names paths =
    let owns = map (own_name_of names) paths in owns ++ other_names_of owns names
