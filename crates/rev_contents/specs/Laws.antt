-- What two runs of a command say of it, and where the differences of two recordings come from.
use Rattle.std.specs.Prelude.{◌≡◌, ◌≢◌, ◌⊎◌, ◌↔◌, ◌<◌, ℕ, Option, Some, None}
use Rattle.rev_contents.specs.Commands.{Command, Explains}
use Rattle.rev_contents.specs.Runs.{Agree, Differ, DiffersAt, IsFirstCause, IsServedBy, Run, Same}

-- some command does both runs
pub record IsExplained (one other : Run) : Type 0 where
  pub command : Command
  pub does_one : Explains command one
  pub does_other : Explains command other

-- Some command does both runs exactly where they are the same, or a question has another reply in one than in the other.
abbrev pub ExplainedTogether : Type 0
ExplainedTogether = (one other : Run) → IsExplained one other ↔ (Same one other ⊎ Differ one other)

-- Answers of places are alike exactly where no question has another reply.
abbrev pub PlacesDecide : Type 0
PlacesDecide = (one other : Run) → Differ one other ↔ ((place : ℕ) × DiffersAt one.looks other.looks place)

-- No command does both runs exactly where they agree and are not the same.
abbrev pub AgreeingRefute : Type 0
AgreeingRefute = (one other : Run) → (IsExplained one other → ⊥) ↔ (Agree one other × (Same one other → ⊥))

-- A first cause refutes that the command does the same where it sees the same.
abbrev pub FirstCauseRefutes : Type 0
FirstCauseRefutes = (one other : Run) → IsFirstCause one other → IsExplained one other → ⊥

-- What is served, and does the same where it sees the same, leaves what the earlier run left.
abbrev pub ServedLeavesTheSame : Type 0
ServedLeavesTheSame =
    (earlier now : Run) → IsServedBy earlier now → IsExplained earlier now → now.left ≡ earlier.left

-- TWO RECORDINGS
-- Edges have numbers, in an order in which each comes behind those that leave what it looks at. Each has a run in both
-- recordings. `maker` has of a place the edge that leaves it.
pub record Recordings : Type 0 where
  pub one : ℕ → Run
  pub other : ℕ → Run
  pub maker : ℕ → Option ℕ

-- the place answered the edge otherwise in one recording than in the other
abbrev pub DiffersFor : Recordings → ℕ → ℕ → Type 0
DiffersFor all edge place = DiffersAt (all.one edge).looks (all.other edge).looks place

abbrev pub LeftOthers : Recordings → ℕ → Type 0
LeftOthers all edge = (all.one edge).left ≢ (all.other edge).left

-- A place that answered an edge otherwise and that some edge leaves: that edge comes before, and left other contents.
abbrev pub ComeFromMakers : Recordings → Type 0
ComeFromMakers all =
    (edge place maker : ℕ) → DiffersFor all edge place → all.maker place ≡ Some maker
    → (maker < edge) × LeftOthers all maker

-- Where an edge's difference comes from: it is a first cause; or a place that answered it otherwise is left by no edge, as
-- a source or a tool; or such a place's maker has a difference that comes from somewhere.
pub data ComesFrom (all : Recordings) : ℕ → Type 0 where
  Itself : (edge : ℕ) → IsFirstCause (all.one edge) (all.other edge) → ComesFrom all edge
  Source : (edge place : ℕ) → DiffersFor all edge place → all.maker place ≡ None → ComesFrom all edge
  Through : (edge place maker : ℕ) → DiffersFor all edge place → all.maker place ≡ Some maker → ComesFrom all maker
      → ComesFrom all edge

-- First causes and differing sources reach every difference.
abbrev pub FirstCausesReach : Type 0
FirstCausesReach = (all : Recordings) → ComeFromMakers all → (edge : ℕ) → LeftOthers all edge → ComesFrom all edge
