-- Races that no filter hides.
use Rattle.std.specs.Prelude.{ℕ, Bool, true, false, not, ◌||◌, List, filter}
use Rattle.std.specs.List.{list_any}
use Rattle.rev_filters.specs.Patterns.{is_hidden}
use Rattle.rev_races_text.specs.declared.race.Evidence.{Evidence}
use Rattle.rev_races_text.specs.declared.race.Evidence.TheVariants as evidence
use Rattle.rev_races_text.specs.declared.race.RaceFinding.{RaceFinding}

-- the error of a failed command names the race
abbrev pub is_error : Evidence → Bool
is_error (evidence.Error progress) = true
is_error _ = false

-- A race is left where no filter hides its path. One that an error names is left always.
abbrev pub is_left : List (List (List ℕ)) → RaceFinding → Bool
is_left filters race =
    is_error race.evidence || not (list_any (λ (patterns : List (List ℕ)). is_hidden patterns race.path.now) filters)

abbrev pub left : List (List (List ℕ)) → List RaceFinding → List RaceFinding
left filters races = filter (is_left filters) races
