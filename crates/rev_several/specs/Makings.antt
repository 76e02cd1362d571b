-- What recordings show of a command and of a folder that the command has made where it is missing.
use Rattle.std.specs.Prelude.{ℕ, ◌==◌, Bool, true, not, ◌&&◌, ◌||◌, List, [], ◌∷◌, map, filter, nat_eq, Option, Some, None, if◌then◌else◌}
use Rattle.std.specs.List.{list_all}
use Rattle.rev_several.specs.declared.folders.Making.{Making}
use Rattle.rev_several.specs.declared.folders.Seen.{Seen}

-- one recording shows one of the two ways
abbrev pub seen_first : Making → Seen
seen_first m = record { made = not m.found; found = m.found; same = true; besides = m.besides }

-- a further recording
abbrev pub seen_again : Seen → Making → Seen
seen_again s m = record {
  made = s.made || not m.found;
  found = s.found || m.found;
  same = s.same && (m.besides.0 == s.besides.0);
  besides = s.besides;
}

abbrev pub seen_by : Option Seen → Making → Seen
seen_by None m = seen_first m
seen_by (Some s) m = seen_again s m

-- a folder and a command
abbrev pub Key : Type 0
Key = ℕ × ℕ

abbrev pub key_of : Making → Key
key_of m = (m.folder.0, m.maker)

abbrev pub key_eq : Key → Key → Bool
key_eq one other = nat_eq one.0 other.0 && nat_eq one.1 other.1

-- what is seen of a folder and a command with one recording more, where this is what was seen of each before
abbrev pub seen_with : (Key → Option Seen) → Making → Key → Option Seen
seen_with before m key = if key_eq (key_of m) key then Some (seen_by (before (key_of m)) m) else before key

-- The command does the same whether it makes the folder or finds it: it was seen both ways, and did the same besides.
abbrev pub is_shown : Seen → Bool
is_shown s = s.made && (s.found && s.same)

-- what is seen of each command that came to a folder
abbrev pub makers_of : ℕ → List (Key × Seen) → List Seen
makers_of folder entries = map (λ (e : Key × Seen). e.1) (filter (λ (e : Key × Seen). nat_eq e.0.0 folder) entries)

-- whether each of them does the same whether it makes the folder or finds it; none where no command came to the folder
abbrev pub are_shown : List Seen → Option Bool
are_shown [] = None
are_shown (s ∷ ss) = Some (list_all is_shown (s ∷ ss))

-- the same with one command more
abbrev pub and_shown : Option Bool → Seen → Bool
and_shown None s = is_shown s
and_shown (Some before) s = before && is_shown s
