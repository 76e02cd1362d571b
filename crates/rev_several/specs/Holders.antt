-- Which recordings have which things.
use Rattle.std.specs.Prelude.{◌≡◌, ℕ, ◌<◌, List, [], ◌∷◌, ◌++◌, length, map, filter, nat_eq, set, slice_index_or}
use Rattle.std.specs.Global.{Vec}
use Rattle.rev_several.specs.declared.shared.Note.{Note}

-- one note more: a recording has the thing of a place
abbrev pub noted : List Note → ℕ → ℕ → List Note
noted notes place recording = notes ++ (record { place = place; recording = recording } ∷ [])

-- the recordings that have the thing of a place, in the order of the notes
abbrev pub holders : List Note → ℕ → List ℕ
holders notes place = map (λ (n : Note). n.recording) (filter (λ (n : Note). nat_eq n.place place) notes)

-- the lists as a caller sees them
abbrev pub lists_of : List (Vec ℕ) → List (List ℕ)
lists_of lists = map (λ (list : Vec ℕ). list.items) lists

-- one recording more in the list of a place
abbrev pub with_holder : List (List ℕ) → ℕ → ℕ → List (List ℕ)
with_holder lists place recording = set lists place (slice_index_or lists place [] ++ (recording ∷ []))

-- there is a list for each thing, and it has the recordings that have the thing
pub record AreHolders (notes : List Note) (things : ℕ) (lists : List (List ℕ)) : Type 0 where
  pub each : length lists ≡ things
  pub exact : (place : ℕ) → place < things → slice_index_or lists place [] ≡ holders notes place
