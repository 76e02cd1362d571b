-- What events ask of an edge, and what they write.
use Rattle.std.specs.Prelude.{◌≡◌, ℕ, ◌==◌, Bool, true, not, ◌||◌, List, [], ◌∷◌, ◌++◌, map, Option, Some, None, if◌then◌else◌}
use Rattle.std.specs.List.{All, position}
use Rattle.rev_manifest.specs.Manifest.{BuildValue}
use Rattle.rev_graph.specs.Graph.{outputs_of, producer_of}
use Rattle.rev_cells.specs.declared.cell.Cell.{Cell}
use Rattle.rev_cells.specs.declared.cell.Cell.TheVariants as cell
use Rattle.rev_cells.specs.declared.mark.Mark.{Mark}
use Rattle.rev_cells.specs.declared.mark.Mark.TheVariants as mark
use Rattle.rev_cells.specs.declared.value.Value.{Value}
use Rattle.rev_cells.specs.declared.value.Value.TheVariants as value
use Rattle.rev_cells.specs.Values.{Fits, unless_default}
use Rattle.rev_cells.specs.State.{State, mark_of, slot_of}
use Rattle.rev_dirty.specs.Chosen.{positions}
use Rattle.rev_dirty.specs.Inputs.{InputValue, inputs}
use Rattle.rev_dirty.specs.Reasons.{holds, positions_in}
use Rattle.rev_depfile.specs.Value.{first_mentions, prerequisites}
use Rattle.rev_events.specs.declared.event.Listing.{Listing}
use Rattle.rev_events.specs.declared.event.Listing.TheVariants.{Nothing, Depfile, Paths}
use Rattle.rev_events.specs.declared.words.Run.{Run}
use Rattle.rev_events.specs.Refusal.{is_settled, is_wanted_mark}

-- the cells that are written, with what they then hold
abbrev pub Effect : Type 0
Effect = List (Cell × Option Value)

abbrev pub write : Cell → Value → Cell × Option Value
write c v = (c, unless_default v)

-- the effect of writing these values to these cells
abbrev pub stored : List (Cell × Value) → Effect
stored writes = map (λ (w : Cell × Value). write w.0 w.1) writes

-- each value is of the kind that its cell holds
abbrev pub AllFit : List (Cell × Value) → Type 0
AllFit writes = All (λ (w : Cell × Value). Fits w.0 w.1) writes

-- writes come to be others with this effect behind theirs
pub record Adds (old new : List (Cell × Value)) (added : Effect) : Type 0 where
  pub values : stored new ≡ stored old ++ added
  pub fit : AllFit old → AllFit new

-- THE INPUTS
-- the edges that produce the inputs of an edge, of all kinds in their order
abbrev pub producers_of_inputs : List BuildValue → State → BuildValue → List (Option ℕ)
producers_of_inputs builds state build =
    map (λ (input : InputValue). producer_of builds input.path) (inputs state build)

-- the edge that produces an input, where one does, is not settled
abbrev pub is_waiting : State → Option ℕ → Bool
is_waiting state producer = holds (λ edge. not (is_settled (mark_of state edge))) producer

abbrev pub is_blocking : List BuildValue → State → InputValue → Bool
is_blocking builds state input = is_waiting state (producer_of builds input.path)

abbrev pub first_blocking : List BuildValue → State → List InputValue → Option ℕ
first_blocking builds state all = position (is_blocking builds state) all

-- JOBS AND SLOTS
-- the slot of an edge's pool that is named
abbrev pub slot_cells : Option (ℕ × ℕ) → Option ℕ → List Cell
slot_cells (Some pool) (Some slot) = cell.Slot pool.0 slot ∷ []
slot_cells _ _ = []

-- the edge that has it
abbrev pub slot_holder : State → Option (ℕ × ℕ) → Option ℕ → Option ℕ
slot_holder state (Some pool) (Some slot) = slot_of state pool.0 slot
slot_holder state _ _ = None

abbrev pub write_slot : Option (ℕ × ℕ) → Option ℕ → Option ℕ → Effect
write_slot (Some pool) (Some slot) holder = write (cell.Slot pool.0 slot) (value.Slot holder) ∷ []
write_slot _ _ holder = []

-- the job and the slot that a running edge holds
abbrev pub held_cells : Option (ℕ × ℕ) → Mark → List Cell
held_cells pool (mark.Running job slot seen) = cell.Job job ∷ slot_cells pool slot
held_cells pool _ = []

abbrev pub free_held : Option (ℕ × ℕ) → Mark → Effect
free_held pool (mark.Running job slot seen) = write (cell.Job job) (value.Job None) ∷ write_slot pool slot None
free_held pool _ = []

-- what an edge has whose command runs
abbrev pub run_of : Mark → Option Run
run_of (mark.Running job slot seen) = Some (record { job = job; slot = slot; seen = seen })
run_of _ = None

abbrev pub seen_by : Mark → ℕ
seen_by (mark.Running job slot seen) = seen
seen_by _ = 0

-- OUTPUTS
abbrev pub first_of : {A : Type 0} → A → List A → A
first_of d [] = d
first_of d (x ∷ xs) = x

abbrev pub rest_of : {A : Type 0} → List A → List A
rest_of [] = []
rest_of (x ∷ xs) = xs

-- each output gets its given stamp
abbrev pub write_stamps : List (List ℕ) → List ℕ → Effect
write_stamps [] stamps = []
write_stamps (path ∷ paths) stamps =
    write (cell.Stamp path) (value.Stamp (first_of 0 stamps)) ∷ write_stamps paths (rest_of stamps)

-- for each output whether it changed: always, or under restat where its stamp is another one
abbrev pub changes : Bool → List ℕ → List ℕ → List Bool
changes restat [] stamps = []
changes restat (before ∷ befores) stamps =
    (not restat || not (before == first_of 0 stamps)) ∷ changes restat befores (rest_of stamps)

abbrev pub where_true : List Bool → List ℕ
where_true flags = positions (λ flag. flag) flags

-- the record that an output gets: with its given stamp, or, where it did not change, with the stamp that the command
-- has seen
abbrev pub built_with : List ℕ → ℕ → Bool → ℕ → Value
built_with command seen changed stamp =
    value.Built (Some (record { command = command; stamp = if changed then stamp else seen }))

-- Each output gets a built record.
abbrev pub write_built : List ℕ → ℕ → List (List ℕ) → List Bool → List ℕ → Effect
write_built command seen [] flags stamps = []
write_built command seen (path ∷ paths) flags stamps =
    write (cell.Built path) (built_with command seen (first_of true flags) (first_of 0 stamps))
    ∷ write_built command seen paths (rest_of flags) (rest_of stamps)

-- the paths that a command read, by what is said of them
abbrev pub listed : Listing → List (List ℕ)
listed Nothing = []
listed (Depfile text) = prerequisites text
listed (Paths paths) = first_mentions paths

abbrev pub write_first_deps : List (List ℕ) → List ℕ → Listing → Effect
write_first_deps [] stamps listing = []
write_first_deps (path ∷ paths) stamps listing =
    write (cell.Deps path) (value.Deps (Some (record { stamp = first_of 0 stamps; paths = listed listing }))) ∷ []

-- an edge that keeps deps gets a deps record on its first output
abbrev pub write_deps : BuildValue → List ℕ → Listing → Effect
write_deps build stamps listing = if build.keeps_deps then write_first_deps (outputs_of build) stamps listing else []

-- PASS

-- what a phony edge that is wanted changes: without inputs its missing outputs, else all of them where an input that
-- counts was changed
abbrev pub passed_on : List InputValue → Bool → List Bool → List ℕ
passed_on [] rebuilt missing = where_true missing
passed_on (input ∷ all) rebuilt missing = if rebuilt then positions_in missing else []

abbrev pub pass_changes : Mark → List InputValue → Bool → List Bool → List ℕ
pass_changes m all rebuilt missing = if is_wanted_mark m then passed_on all rebuilt missing else []
