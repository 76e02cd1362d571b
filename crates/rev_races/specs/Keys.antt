-- What is told as numbers, as they are found: those of a maker, of a place, of a user, and of all users.
use Rattle.std.specs.Prelude.{◌≡◌, ℕ, ◌<◌, ◌^◌, ◌↔◌, List, [], ◌∷◌, map, length, Some, slice_index_or}
use Rattle.std.specs.List.{Contains}
use Rattle.std.specs.List.Sorted.{IsStrictlySortedBy}
use Rattle.std.specs.Ordering.{nat_cmp}
use Rattle.std.specs.Cmp.Lexicographic.{slice_cmp}
use Rattle.rev_manifest.specs.Manifest.{BuildValue}
use Rattle.rev_history.specs.Timeline.{Timeline, kept_events}
use Rattle.rev_waits.specs.Waits.{Makes}
use Rattle.rev_races.specs.Answer.{IsFirstPlace, IsOwnAt, IsRaceAt, IsToTell}
use Rattle.rev_races.specs.declared.told.Told.{Told}
use Rattle.rev_races.specs.Races.{lists}

-- it holds of some number below this one
pub record SomeBelow (P : ℕ → Type 0) (n : ℕ) : Type 0 where
  pub number : ℕ
  pub below : number < n
  pub holds : P number

-- the numbers of what is told of the user with this maker, where the path stands at this place of the list
pub record IsKeyBy
    (builds : List BuildValue) (files paths : List (List ℕ)) (user place maker : ℕ) (k : List ℕ)
    : Type 0 where
  pub is : k ≡ maker ∷ user ∷ place ∷ []
  pub told : IsToTell builds files user maker
  pub first : IsFirstPlace paths place

-- those of what is told of the user at this place of its list
pub record IsKeyAt (builds : List BuildValue) (files paths : List (List ℕ)) (user place : ℕ) (k : List ℕ) : Type 0 where
  pub maker : ℕ
  pub made : Makes builds maker (slice_index_or paths place [])
  pub key : IsKeyBy builds files paths user place maker k

-- those of what is told of the user, whose list has these paths
abbrev pub IsKeyAmong : List BuildValue → List (List ℕ) → List (List ℕ) → ℕ → List ℕ → Type 0
IsKeyAmong builds files paths user k = SomeBelow (λ place. IsKeyAt builds files paths user place k) (length paths)

-- those of what is told of the user in a history
pub record IsKeyOf (t : Timeline) (files : List (List ℕ)) (user : ℕ) (k : List ℕ) : Type 0 where
  pub paths : List (List ℕ)
  pub lists_are : lists t.manifest t.opening (kept_events t) user ≡ Some paths
  pub among : IsKeyAmong t.manifest.builds files paths user k

-- those of what is told of one of the first users
abbrev pub IsKeyBelow : Timeline → List (List ℕ) → ℕ → List ℕ → Type 0
IsKeyBelow t files n k = SomeBelow (λ user. IsKeyOf t files user k) n

abbrev pub told_key : Told → List ℕ
told_key t = t.maker ∷ t.user ∷ t.place ∷ []

-- three numbers, of which the first two fit those of edges
pub record IsOfEdges (k : List ℕ) : Type 0 where
  pub three : length k ≡ 3
  pub maker : slice_index_or k 0 0 < 2 ^ 32
  pub user : slice_index_or k 1 0 < 2 ^ 32

-- What is told of a user, a maker and a place, whichever its kind: a race, or the user's own.
pub data IsToldAt (t : Timeline) (files : List (List ℕ)) (user maker place : ℕ) : Type 0 where
  raced : IsRaceAt t.manifest files t.opening (kept_events t) user maker place → IsToldAt t files user maker place
  owned : maker ≡ user → IsOwnAt t.manifest t.opening (kept_events t) user place → IsToldAt t files user maker place

-- exactly what is told, each once, in the order of these numbers
pub record AreTold (t : Timeline) (files : List (List ℕ)) (told : List Told) : Type 0 where
  pub exact : (r : Told) → Contains told r ↔ IsToldAt t files r.user r.maker r.place
  pub rising : IsStrictlySortedBy (slice_cmp nat_cmp) (map told_key told)
