-- Which edges race.
use Rattle.std.specs.Prelude.{ℕ, Bool, ◌==◌, ◌||◌, List}
use Rattle.std.specs.List.{list_any}
use Rattle.rev_conflicts.specs.declared.conflict.Conflict.{Conflict}
use Rattle.rev_races.specs.declared.race.Race.{Race}

-- the edge is one of the two
abbrev pub is_among : ℕ → ℕ → ℕ → Bool
is_among maker user edge = (maker == edge) || (user == edge)

-- the edge is the maker or the user of one of the races
abbrev pub is_in_race : List Race → ℕ → Bool
is_in_race races edge = list_any (λ (r : Race). is_among r.maker r.user edge) races

-- the same of conflicts that were observed
abbrev pub is_in_conflict : List Conflict → ℕ → Bool
is_in_conflict conflicts edge = list_any (λ (c : Conflict). is_among c.maker c.user edge) conflicts

-- the edge is red
abbrev pub is_racing : List Race → List Conflict → ℕ → Bool
is_racing races conflicts edge = is_in_race races edge || is_in_conflict conflicts edge
