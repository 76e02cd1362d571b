-- Events that are taken out of the fields of a history: first out of the access lists, then what stands beside them,
-- then their numbers.
use Rattle.std.specs.Prelude.{◌≡◌, ℕ, List, None}
use Rattle.rev_accesses.specs.Thinned.{prints_without}
use Rattle.rev_causal.specs.Chosen.{without}
use Rattle.rev_causal.specs.History as causal
use Rattle.rev_cells.specs.declared.cell.Cell.{Cell}
use Rattle.rev_cells.specs.Table.{Table, raised_by}
use Rattle.rev_numbers.specs.Taken.{without_all}
use Rattle.rev_history.specs.declared.history.History.TheInside.{Inside}
use Rattle.rev_history.specs.Sound.{timeline_of, kept_prints, ArePlacedIn, IsSound}
use Rattle.rev_history.specs.Steps.{Placed}
use Rattle.rev_history.specs.Timeline.{Numbered, cone_numbers, coned, undo_refusal, undone}
use Rattle.rev_history.specs.Value.{cells_written}

-- a history has these fields
pub record HasFields (a : Inside) (es : Numbered) (stored : List Placed) (table : Table) : Type 0 where
  pub accepted : a.accepted.entries ≡ es
  pub steps : a.steps.items ≡ stored
  pub cells : a.cells ≡ table

-- and another one has the same fields besides, but for the lists under cells and the kept numbers
pub record IsSameBesides (a b : Inside) : Type 0 where
  pub graph : b.graph ≡ a.graph
  pub opening : b.opening ≡ a.opening
  pub last : b.last ≡ a.last

-- the fields are those of a history that can undo n
pub record IsFreeHere (n : ℕ) (es : Numbered) (steps : List Placed) (cells : Table) : Type 0 where
  pub inside : Inside
  pub has : HasFields inside es steps cells
  pub sound : IsSound inside
  pub placed : ArePlacedIn inside.cells.places inside.steps.items
  pub free : undo_refusal (timeline_of inside) n ≡ None

-- b is a without n, but for the access lists
pub record IsWithout (a b : Inside) (n : ℕ) : Type 0 where
  pub sound : IsSound b
  pub timeline : timeline_of b ≡ undone n (timeline_of a)
  pub writes : b.cells.writes ≡ raised_by (cells_written n (timeline_of a)) a.cells.writes
  pub prints : kept_prints b ≡ causal.without n (kept_prints a)
  pub places : b.cells.places ≡ a.cells.places
  pub placed : (cells : List Cell) → ArePlacedIn cells a.steps.items → ArePlacedIn cells b.steps.items

-- a history that has the old fields and can undo n is that history without n when it has the new ones, and n is no
-- longer among its kept numbers
abbrev pub TakesOut : ℕ → Numbered → List Placed → Table → List Placed → Table → Type 0
TakesOut n es steps cells new_steps new_cells =
    (a b : Inside) → HasFields a es steps cells → IsSound a → undo_refusal (timeline_of a) n ≡ None
    → IsSameBesides a b → HasFields b es new_steps new_cells → b.kept.items ≡ without n a.kept.items
    → IsWithout a b n

-- the fields are those of a history in which the members are a cone
pub record IsConeHere (members : List ℕ) (es : Numbered) (steps : List Placed) (cells : Table) : Type 0 where
  pub inside : Inside
  pub has : HasFields inside es steps cells
  pub sound : IsSound inside
  pub placed : ArePlacedIn inside.cells.places inside.steps.items
  pub number : ℕ
  pub members_are : members ≡ cone_numbers number (timeline_of inside)

-- b is a without the cone of n, which has these members, but for the access lists
pub record IsWithoutCone (a b : Inside) (n : ℕ) (members : List ℕ) : Type 0 where
  pub sound : IsSound b
  pub timeline : timeline_of b ≡ coned n (timeline_of a)
  pub prints : kept_prints b ≡ prints_without members (kept_prints a)
  pub places : b.cells.places ≡ a.cells.places
  pub placed : (cells : List Cell) → ArePlacedIn cells a.steps.items → ArePlacedIn cells b.steps.items

-- a history that has the old fields, in which the members are the cone of n, is that history without the cone when it
-- has the new ones, and the members are no longer among its kept numbers
abbrev pub TakesConeOut : List ℕ → Numbered → List Placed → Table → List Placed → Table → Type 0
TakesConeOut members es steps cells new_steps new_cells =
    (a b : Inside) (n : ℕ) → HasFields a es steps cells → IsSound a → members ≡ cone_numbers n (timeline_of a)
    → IsSameBesides a b → HasFields b es new_steps new_cells → b.kept.items ≡ without_all members a.kept.items
    → IsWithoutCone a b n members
