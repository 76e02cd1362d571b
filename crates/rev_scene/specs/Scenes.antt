-- The scene of an observation.
use Rattle.std.specs.Prelude.{ℕ, ◌<◌, ◌^◌, ◌==◌, Bool, false, List, [], ◌∷◌, ◌++◌, length, map, Option, None, slice_index_or, if◌then◌else◌}
use Rattle.std.specs.Global.{Vec}
use Rattle.std.specs.List.{range_with_len}
use Rattle.std.specs.Option.{option_or}
use Rattle.rev_manifest.specs.Builds.{BuildValue}
use Rattle.rev_graph.specs.Graph.{producer_of, successor_lists}
use Rattle.rev_clashes.specs.declared.side_file.SideFile.TheVariants.{Depfile, ResponseFile}
use Rattle.rev_observation.specs.Blocks.{CommandValue, new_command}
use Rattle.rev_observation.specs.Observations.{ObservationValue}
use Rattle.rev_entry_conflicts.specs.declared.deed.Command.{Command}
use Rattle.rev_entry_conflicts.specs.declared.deed.Deed.{Deed as Act}
use Rattle.rev_entry_conflicts.specs.declared.deed.Entry.{Entry}
use Rattle.rev_entry_conflicts.specs.Orders.{AreEdges, AreOfEdges}
use Rattle.rev_scene.specs.Lines.{acts_of, ninja_acts}
use Rattle.rev_scene.specs.Sides.{side_of, temp_at}

-- ENTRIES
abbrev pub first_some : List (Option ℕ) → Option ℕ
first_some [] = None
first_some (o ∷ os) = option_or o (first_some os)

-- the edge that has a further name of the entry as an output, by the number of the name
abbrev pub maker_by_name : List BuildValue → ObservationValue → ℕ → ℕ → Option ℕ
maker_by_name builds o entry number =
    if slice_index_or o.names.entries number 0 == entry then producer_of builds (slice_index_or o.names.names number [])
    else None

-- the edge that has the entry as an output: by the entry's path, or by the first of its further names that is one
abbrev pub maker_of : List BuildValue → ObservationValue → ℕ → Option ℕ
maker_of builds o entry =
    option_or (producer_of builds (slice_index_or o.entries.paths entry []))
    (first_some (map (maker_by_name builds o entry) (range_with_len 0 (length o.names.names))))

abbrev pub entry_at : List BuildValue → ObservationValue → List Bool → ℕ → Entry
entry_at builds o hidden entry = record {
  folder = slice_index_or o.entries.folders entry None;
  maker = maker_of builds o entry;
  hidden = slice_index_or hidden entry false;
}

-- an entry for each of the observation's, under its number
abbrev pub entries_of : List BuildValue → ObservationValue → List Bool → List Entry
entries_of builds o hidden = map (entry_at builds o hidden) (range_with_len 0 (length o.entries.paths))

-- COMMANDS
pub record Run : Type 0 where
  pub edge : ℕ
  pub early : Bool
  pub deeds : List Act

abbrev pub run_value : Command → Run
run_value c = record { edge = c.edge; early = c.early; deeds = c.deeds.items }

-- what a command of an edge did: its lines, and that its response file and its depfile are its own temporaries
abbrev pub run_of : List BuildValue → ObservationValue → List Bool → ℕ → CommandValue → Run
run_of builds o early edge command = record {
  edge = edge;
  early = slice_index_or early edge false;
  deeds = acts_of command.lines ++ temp_at (side_of ResponseFile builds o edge)
      ++ temp_at (side_of Depfile builds o edge);
}

abbrev pub run_at : List BuildValue → ObservationValue → List ℕ → List Bool → ℕ → Run
run_at builds o edges early number =
    run_of builds o early (slice_index_or edges number 0) (slice_index_or o.commands number (new_command []))

-- what Ninja itself did, where that was observed: one more edge's, with the number behind the last
abbrev pub ninja_runs : ℕ → ObservationValue → List Run
ninja_runs edge o =
    if o.has_ninja then record { edge = edge; early = false; deeds = ninja_acts o.ninja } ∷ [] else []

-- a run for each command, under its number, and then Ninja's
abbrev pub runs_of : ℕ → List BuildValue → ObservationValue → List ℕ → List Bool → List Run
runs_of count builds o edges early =
    map (run_at builds o edges early) (range_with_len 0 (length o.commands)) ++ ninja_runs count o

-- STEPS
-- for each edge the edges that make its inputs; Ninja waits for none
abbrev pub steps_of : List BuildValue → List (List ℕ)
steps_of builds = successor_lists builds ++ [] ∷ []

-- what `rev_entry_conflicts` asks of a scene
pub record IsScene (steps : List (Vec ℕ)) (entries : List Entry) (commands : List Command) : Type 0 where
  pub inside : AreEdges steps
  pub few_steps : length steps < 2 ^ 32
  pub edges : AreOfEdges steps commands
  pub few_entries : length entries < 2 ^ 32
  pub few_commands : length commands < 2 ^ 32
