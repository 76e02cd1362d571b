-- Hints by other names: an edge lists another name of an output, and nothing orders the edge that makes it before.
use Rattle.std.specs.Prelude.{◌≡◌, ◌≢◌, ◌↔◌, ℕ, ◌<◌, Bool, false, ◌&&◌, List, Option, Some, bytes_eq, length, slice_get, slice_index_or}
use Rattle.std.specs.List.{Contains}
use Rattle.std.specs.Map.{lookup}
use Rattle.rev_manifest.specs.Manifest.{BuildValue}
use Rattle.rev_history.specs.Timeline.{Timeline, kept_events}
use Rattle.rev_waits.specs.Waits.{Makes}
use Rattle.rev_races.specs.Answer.{IsUnordered}
use Rattle.rev_hints.specs.declared.named.NameHint.{NameHint}
use Rattle.rev_hints.specs.Hints.{listed}

-- the output of which a path is another name; `names` has the other names of outputs, each with its output
abbrev pub output_of : List (List ℕ × List ℕ) → List ℕ → Option (List ℕ)
output_of names path = lookup (bytes_eq path) names

-- Nothing orders the maker before the user, as for races, and not both of their commands were observed whole: of two
-- such ones the observation tells.
pub record IsDue (builds : List BuildValue) (files : List (List ℕ)) (whole : List Bool) (user maker : ℕ) : Type 0 where
  pub unordered : IsUnordered builds files user maker
  pub unseen : (slice_index_or whole user false && slice_index_or whole maker false) ≡ false

-- A hint, where its user lists these paths: at its place, and at none before it, stands another name of an output that
-- its maker makes.
pub record IsHintIn
    (builds : List BuildValue) (files : List (List ℕ)) (names : List (List ℕ × List ℕ)) (whole : List Bool)
    (paths : List (List ℕ)) (h : NameHint)
    : Type 0 where
  pub path : List ℕ
  pub output : List ℕ
  pub stands : slice_get paths h.place ≡ Some path
  pub first : (before : ℕ) → before < h.place → slice_get paths before ≢ Some path
  pub named : output_of names path ≡ Some output
  pub made : Makes builds h.maker output
  pub due : IsDue builds files whole h.user h.maker

-- a hint of a history, whose manifest was read from these files
abbrev pub IsNameHint : Timeline → List (List ℕ) → List (List ℕ × List ℕ) → List Bool → NameHint → Type 0
IsNameHint t files names whole h =
    (h.user < length t.manifest.builds)
    × IsHintIn t.manifest.builds files names whole (listed t.manifest t.opening (kept_events t) h.user) h

-- exactly the hints of a history
abbrev pub AreNameHints : Timeline → List (List ℕ) → List (List ℕ × List ℕ) → List Bool → List NameHint → Type 0
AreNameHints t files names whole hints = (h : NameHint) → Contains hints h ↔ IsNameHint t files names whole h

-- AS THEY ARE FOUND
-- those of a user by this output, another name of which stands at this place
pub record IsHintBy
    (builds : List BuildValue) (files : List (List ℕ)) (whole : List Bool) (user place : ℕ) (output : List ℕ)
    (h : NameHint)
    : Type 0 where
  pub user_is : h.user ≡ user
  pub place_is : h.place ≡ place
  pub made : Makes builds h.maker output
  pub due : IsDue builds files whole user h.maker

-- the one of this maker
pub record IsHintOf
    (builds : List BuildValue) (files : List (List ℕ)) (whole : List Bool) (user place maker : ℕ) (h : NameHint)
    : Type 0 where
  pub is : h ≡ record { user = user; place = place; maker = maker }
  pub due : IsDue builds files whole user maker

-- those of a user by a path at a place
pub record IsHintAt
    (builds : List BuildValue) (files : List (List ℕ)) (names : List (List ℕ × List ℕ)) (whole : List Bool)
    (user place : ℕ) (path : List ℕ) (h : NameHint)
    : Type 0 where
  pub output : List ℕ
  pub named : output_of names path ≡ Some output
  pub by : IsHintBy builds files whole user place output h

-- those of a user at a place of what it lists
pub record IsHintHere
    (builds : List BuildValue) (files : List (List ℕ)) (names : List (List ℕ × List ℕ)) (whole : List Bool) (user : ℕ)
    (paths : List (List ℕ)) (place : ℕ) (h : NameHint)
    : Type 0 where
  pub user_is : h.user ≡ user
  pub place_is : h.place ≡ place
  pub hint : IsHintIn builds files names whole paths h

-- those of a user, which lists these paths
pub record IsHintAmong
    (builds : List BuildValue) (files : List (List ℕ)) (names : List (List ℕ × List ℕ)) (whole : List Bool) (user : ℕ)
    (paths : List (List ℕ)) (h : NameHint)
    : Type 0 where
  pub user_is : h.user ≡ user
  pub hint : IsHintIn builds files names whole paths h

-- those of a user in a history
abbrev pub IsHintOfUser : Timeline → List (List ℕ) → List (List ℕ × List ℕ) → List Bool → ℕ → NameHint → Type 0
IsHintOfUser t files names whole user h =
    IsHintAmong t.manifest.builds files names whole user (listed t.manifest t.opening (kept_events t) user) h
