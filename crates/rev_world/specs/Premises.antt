-- Why the law has each of its premises: without one of them the same statement is false.
use Rattle.std.specs.Prelude.{ℕ, zero, suc, Bool, false, not, ◌&&◌, ◌||◌, List, [], ◌∷◌}
use Rattle.std.specs.List.{list_any}
use Rattle.rev_world.specs.Commands.{Act.Ask, Act.Leave, Act.Ensure, Act.End, Command, Look.Entry, Place, Step, Value.File, Value.Nothing, is_look}
use Rattle.rev_world.specs.Schedules.{IsLegal, NoneConflict, NoneConflictBy, World, asks, ensures_at, leaves, opening, passes, run, uses}
use Rattle.rev_world.specs.Laws.{By, GoesThrough, OneOutcomeBy}

-- the law, where steps conflict by other tests of what they use and ask for
abbrev pub OneOutcomeWith : (Place → List Step → Bool) → (Place → List Step → Bool) → Type 0
OneOutcomeWith uses asks =
    (waits : ℕ → ℕ → Bool) → GoesThrough waits → OneOutcomeBy (IsLegal (By waits)) (NoneConflictBy uses asks (By waits))

-- a look at a place that another edge leaves does not count
abbrev pub uses_but_looks : Place → List Step → Bool
uses_but_looks place steps = leaves place steps || ensures_at place steps

abbrev pub LooksCount : Type 0
LooksCount = OneOutcomeWith uses_but_looks asks → ⊥

-- a look at a folder that another edge ensures does not count
abbrev pub none_asks : Place → List Step → Bool
none_asks place steps = false

abbrev pub FoldersCount : Type 0
FoldersCount = OneOutcomeWith uses none_asks → ⊥

-- a link on the way to a place below does not count
abbrev pub uses_but_links : Place → List Step → Bool
uses_but_links place steps = leaves place steps || (ensures_at place steps || asks place steps)

abbrev pub LinksCount : Type 0
LinksCount = OneOutcomeWith uses_but_links asks → ⊥

-- to ensure a place that another edge leaves does not count
abbrev pub uses_but_ensured : Place → List Step → Bool
uses_but_ensured place steps = leaves place steps || (asks place steps || passes place steps)

abbrev pub EnsuredCounts : Type 0
EnsuredCounts = OneOutcomeWith uses_but_ensured asks → ⊥

-- A look at a folder does not count where the command ensures it at any time, also later. Since the law is false then, an
-- observation has to say which came first.
abbrev pub asks_at_all : Place → List Step → Bool
asks_at_all place steps = list_any (is_look place) steps && not (ensures_at place steps)

abbrev pub FirstCounts : Type 0
FirstCounts = OneOutcomeWith uses asks_at_all → ⊥

-- Each schedule is legal: a command does not wait for what its edge waits for.
abbrev pub IsAny : (ℕ → Command) → World → List ℕ → Type 0
IsAny commands world edges = Unit {0}

abbrev pub OrderCounts : Type 0
OrderCounts = ((waits : ℕ → ℕ → Bool) → GoesThrough waits → OneOutcomeBy IsAny (NoneConflict (By waits))) → ⊥

-- NOT EMPTY
-- Two commands make the folder, look at it, and each leave a file of its own in it. They need not wait.
abbrev pub making : List ℕ → Command
making name [] = Ensure ((0 ∷ []) ∷ [])
making name (_ ∷ []) = Ask (Entry ((0 ∷ []) ∷ []))
making name (_ ∷ _ ∷ []) = Leave (name ∷ (0 ∷ []) ∷ []) (File name)
making name (_ ∷ _ ∷ _ ∷ steps) = End 0

abbrev pub both_making : ℕ → Command
both_making zero = making (1 ∷ [])
both_making (suc zero) = making (2 ∷ [])
both_making (suc (suc n)) = λ steps. End 0

abbrev pub MakersNeedNoOrder : Type 0
MakersNeedNoOrder =
    NoneConflict (λ a b. ⊥) (run both_making (opening (λ place. Nothing)) (0 ∷ 1 ∷ 1 ∷ 0 ∷ 0 ∷ 1 ∷ [])).steps
