-- Entries by number, each with the number of its folder, and further names of entries.
use Rattle.std.specs.Prelude.{ℕ, ◌+◌, ◌<◌, nat_lt, bytes_eq, Bool, true, if◌then◌else◌, List, [], ◌∷◌, ◌++◌, Option, Some, None, Result, Ok, Err}
use Rattle.std.specs.List.{list_any}
use Rattle.rev_observed.specs.declared.faults.FaultKind.{FaultKind}
use Rattle.rev_observed.specs.declared.faults.FaultKind.TheVariants.{Double}

-- the path of each entry, and the number of its folder
pub record EntriesValue : Type 0 where
  pub paths : List (List ℕ)
  pub folders : List (Option ℕ)

-- further names, and the number of each one's entry
pub record NamesValue : Type 0 where
  pub names : List (List ℕ)
  pub entries : List ℕ

abbrev pub no_entries : EntriesValue
no_entries = record { paths = []; folders = [] }

abbrev pub no_names : NamesValue
no_names = record { names = []; entries = [] }

-- whether a folder's number, if there is a folder, is below this
abbrev pub is_below : ℕ → Option ℕ → Bool
is_below count None = true
is_below count (Some folder) = nat_lt folder count

-- a folder's number is below this, if there is a folder
abbrev pub IsBelow : ℕ → Option ℕ → Type 0
IsBelow count None = Unit {0}
IsBelow count (Some folder) = folder < count

-- the folder of each entry has a lower number than the entry, of which the first has this one
abbrev pub AreBelow : ℕ → List (Option ℕ) → Type 0
AreBelow number [] = Unit {0}
AreBelow number (folder ∷ folders) = IsBelow number folder × AreBelow (number + 1) folders

-- whether a name is one of these
abbrev pub has_name : List (List ℕ) → List ℕ → Bool
has_name names name = list_any (bytes_eq name) names

-- one more entry, whose path has no number yet
abbrev pub entry_put : EntriesValue → List ℕ → Option ℕ → Result EntriesValue FaultKind
entry_put e path folder =
    if has_name e.paths path then Err Double
    else Ok (record { paths = e.paths ++ path ∷ []; folders = e.folders ++ folder ∷ [] })

-- one more name, which is not among these yet
abbrev pub name_put : NamesValue → List ℕ → ℕ → Result NamesValue FaultKind
name_put n name entry =
    if has_name n.names name then Err Double
    else Ok (record { names = n.names ++ name ∷ []; entries = n.entries ++ entry ∷ [] })
