-- Races have witnesses.
use Rattle.std.proofs.Common.{ℕ, List, Option}
use Rattle.std.specs.Prelude.{◌↔◌, IfOk, IsSome, Result, Ok, Err}
use Rattle.rev_cells.specs.State.{State}
use Rattle.rev_graph.specs.Graph.{GraphValue, IsGraph}
use Rattle.rev_history.specs.Timeline.{Numbered}
use Rattle.rev_races.specs.Races.{IsRace}
use Rattle.rev_races.proofs.RaceLemmas.{maker-command, user-command}
use Rattle.rev_waits.specs.Waits.{Waits}
use Rattle.rev_witness.specs.Witness.{IsCommand}

-- a race is between two edges with commands, of which the one does not wait for the other
pub race_has_one : {W E : Type 0} (graph : GraphValue) → IsGraph graph → (files : List (List ℕ)) (opening : State) (events : Numbered) (b a : ℕ) (path : List ℕ) (r : Result (Option W) E)
    → (IsCommand graph.manifest b → IsCommand graph.manifest a → IfOk r (λ found. IsSome found ↔ (Waits graph.manifest.builds b a → ⊥)))
    → IsRace graph.manifest files opening events b a path → IfOk r (λ found. IsSome found)
race_has_one graph is files opening events b a path (Ok found) exact race =
    let user = user-command graph is opening events b race.all race.lists_are in
    let maker = maker-command race.made in
    (exact (record { is_edge = user.0; plain = user.1 }) (record { is_edge = maker.0; plain = maker.1 })).1 race.unordered
race_has_one graph is files opening events b a path (Err e) exact race = tt
