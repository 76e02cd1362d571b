-- Hints: an edge lists a file that changed while other commands ran, and waits for none of them.
use Rattle.std.specs.Prelude.{◌≡◌, ◌≢◌, ◌↔◌, ◌⊎◌, ℕ, ◌<◌, Bool, false, ◌||◌, not, nat_lt, List, [], ◌∷◌, length, Option, None, Some, slice_get, slice_index_or, unwrap_or, if◌then◌else◌}
use Rattle.std.specs.List.{AllPairs, Contains, list_any}
use Rattle.rev_causal.specs.Chosen.{without}
use Rattle.rev_manifest.specs.Manifest.{BuildValue, ManifestValue}
use Rattle.rev_graph.specs.Graph.{build_at}
use Rattle.rev_cells.specs.State.{State}
use Rattle.rev_dirty.specs.Inputs.{deps_record, paths_in}
use Rattle.rev_history.specs.Timeline.{Numbered}
use Rattle.rev_waits.specs.Waits.{Waits}
use Rattle.rev_races.specs.Races.{lists}
use Rattle.rev_hints.specs.declared.hints.ChangeHint.{ChangeHint}
use Rattle.rev_hints.specs.Changes.{ChangeValue, change_of}

-- A hint: the edge that lists the file, the place of its path in that list, the number of the event that changed it,
-- and the other edges whose commands ran then.
pub record HintValue : Type 0 where
  pub user : ℕ
  pub place : ℕ
  pub number : ℕ
  pub ran : List ℕ

abbrev pub hint_value : ChangeHint → HintValue
hint_value hint = record { user = hint.user; place = hint.place; number = hint.number; ran = hint.ran.items }

-- what an edge lists in a history, as for races, and nothing where it has no list
abbrev pub listed : ManifestValue → State → Numbered → ℕ → List (List ℕ)
listed manifest opening events edge = unwrap_or (lists manifest opening events edge) []

-- A hint is due, where edges list these paths: the user lists at this place, and at none before it, a path of which a
-- change counts; other commands than its own ran then, and the user waits for none of them.
pub record IsHint
    (builds : List BuildValue) (paths : ℕ → List (List ℕ)) (changes : List ℕ → Option ChangeValue) (h : HintValue)
    : Type 0 where
  pub path : List ℕ
  pub change : ChangeValue
  pub stands : slice_get (paths h.user) h.place ≡ Some path
  pub first : (before : ℕ) → before < h.place → slice_get (paths h.user) before ≢ Some path
  pub changed : changes path ≡ Some change
  pub number_is : h.number ≡ change.number
  pub ran_are : h.ran ≡ without h.user change.ran
  pub others_ran : 0 < length h.ran
  pub unordered : (edge : ℕ) → Contains h.ran edge → Waits builds h.user edge → ⊥

-- one hint comes before another: by the number of the user, and then by the place in its list
abbrev pub ComesBefore : HintValue → HintValue → Type 0
ComesBefore h other = (h.user < other.user) ⊎ (h.user ≡ other.user) × (h.place < other.place)

-- exactly the hints that are due, each once, in this order
pub record AreHintsBy
    (builds : List BuildValue) (paths : ℕ → List (List ℕ)) (changes : List ℕ → Option ChangeValue)
    (hints : List HintValue)
    : Type 0 where
  pub exact : (h : HintValue) → Contains hints h ↔ IsHint builds paths changes h
  pub rising : AllPairs ComesBefore hints

-- the same of what edges list and what changed in a history, beside the other names of outputs
abbrev pub AreHints : ManifestValue → List (List ℕ × List ℕ) → State → Numbered → List HintValue → Type 0
AreHints manifest names opening events hints =
    AreHintsBy manifest.builds (listed manifest opening events) (change_of manifest.builds names events) hints

-- AS THEY ARE FOUND
-- what the deps record of an edge's first output has in a state, where the edge keeps deps
abbrev pub recorded_paths : List BuildValue → State → ℕ → List (List ℕ)
recorded_paths builds state edge = paths_in (deps_record state (build_at builds edge))

-- what a change gives at a place of a user's list, by the marks of what the user waits for
abbrev pub hint_by : List Bool → ℕ → ℕ → ChangeValue → List HintValue
hint_by waited user place change =
    let ran = without user change.ran in
    if not (nat_lt 0 (length ran)) || list_any (λ edge. slice_index_or waited edge false) ran
    then []
    else record { user = user; place = place; number = change.number; ran = ran } ∷ []

-- what a path gives at a place, unless it was seen at an earlier one
abbrev pub hint_at : List Bool → ℕ → ℕ → Bool → Option ChangeValue → List HintValue
hint_at waited user place seen None = []
hint_at waited user place seen (Some change) = if seen then [] else hint_by waited user place change

-- the hint stands before this place of this user's list
abbrev pub StandsBefore : ℕ → ℕ → HintValue → Type 0
StandsBefore user place h = (h.user < user) ⊎ (h.user ≡ user) × (h.place < place)

-- exactly the hints before this place, each once, in their order
pub record AreHintsBefore
    (builds : List BuildValue) (paths : ℕ → List (List ℕ)) (changes : List ℕ → Option ChangeValue) (user place : ℕ)
    (hints : List HintValue)
    : Type 0 where
  pub exact : (h : HintValue) → Contains hints h ↔ (StandsBefore user place h × IsHint builds paths changes h)
  pub rising : AllPairs ComesBefore hints
