-- What each kind of event writes, and what it reads besides.
use Rattle.std.proofs.Common.{◌≡◌, ◌∷◌, ◌++◌, [], ℕ, List, Option, map, refl}
use Rattle.rev_manifest.specs.Manifest.{ManifestValue}
use Rattle.rev_cells.specs.declared.cell.Cell.TheVariants as cell
use Rattle.rev_cells.specs.State.{State}
use Rattle.rev_events.specs.declared.event.Listing.{Listing}
use Rattle.rev_events.specs.declared.event.Event.TheVariants.{Plan, Start, Finish, Fail, Abort, Clean, Pass, Touch, Interrupt, Resize}
use Rattle.rev_events.specs.Machine.{of_edge, edge_of}
use Rattle.rev_events.specs.Written.{written, start_writes, finish_writes, end_writes, mark_writes}
use Rattle.rev_footprint.specs.Reads.{reads_besides, start_reads, clean_reads, pass_reads, resize_reads}
use Rattle.rev_plan.specs.Plan.{edge_numbers}

module _ (m : ManifestValue) (s : State) where
  pub written-plan : (targets : List (List ℕ)) → written m s (Plan targets) ≡ map cell.Mark (edge_numbers m.builds) ++ cell.Halted ∷ []
  unfolding written
  written-plan targets = refl

  pub written-start : (out : List ℕ) (job : ℕ) (slot : Option ℕ) → written m s (Start out job slot) ≡ of_edge [] (λ edge. start_writes m edge job slot s) (edge_of m out)
  unfolding written
  written-start out job slot = refl

  pub written-finish : (out stamps : List ℕ) (listing : Listing) → written m s (Finish out stamps listing) ≡ of_edge [] (λ edge. finish_writes m edge s) (edge_of m out)
  unfolding written
  written-finish out stamps listing = refl

  pub written-fail : (out stamps : List ℕ) → written m s (Fail out stamps) ≡ of_edge [] (λ edge. end_writes m edge s) (edge_of m out)
  unfolding written
  written-fail out stamps = refl

  pub written-abort : (out stamps : List ℕ) → written m s (Abort out stamps) ≡ of_edge [] (λ edge. end_writes m edge s) (edge_of m out)
  unfolding written
  written-abort out stamps = refl

  pub written-clean : (out : List ℕ) → written m s (Clean out) ≡ of_edge [] (λ edge. mark_writes m edge s) (edge_of m out)
  unfolding written
  written-clean out = refl

  pub written-pass : (out : List ℕ) → written m s (Pass out) ≡ of_edge [] (λ edge. mark_writes m edge s) (edge_of m out)
  unfolding written
  written-pass out = refl

  pub written-touch : (path : List ℕ) (stamp : ℕ) → written m s (Touch path stamp) ≡ cell.Stamp path ∷ []
  unfolding written
  written-touch path stamp = refl

  pub written-interrupt : written m s Interrupt ≡ cell.Halted ∷ []
  unfolding written
  written-interrupt = refl

  pub written-resize : (pool depth : ℕ) → written m s (Resize pool depth) ≡ cell.Depth pool ∷ []
  unfolding written
  written-resize pool depth = refl

  pub besides-plan : (targets : List (List ℕ)) → reads_besides m s (Plan targets) ≡ []
  unfolding reads_besides
  besides-plan targets = refl

  pub besides-start : (out : List ℕ) (job : ℕ) (slot : Option ℕ) → reads_besides m s (Start out job slot) ≡ of_edge [] (λ edge. start_reads m edge slot s) (edge_of m out)
  unfolding reads_besides
  besides-start out job slot = refl

  pub besides-finish : (out stamps : List ℕ) (listing : Listing) → reads_besides m s (Finish out stamps listing) ≡ []
  unfolding reads_besides
  besides-finish out stamps listing = refl

  pub besides-fail : (out stamps : List ℕ) → reads_besides m s (Fail out stamps) ≡ []
  unfolding reads_besides
  besides-fail out stamps = refl

  pub besides-abort : (out stamps : List ℕ) → reads_besides m s (Abort out stamps) ≡ cell.Halted ∷ []
  unfolding reads_besides
  besides-abort out stamps = refl

  pub besides-clean : (out : List ℕ) → reads_besides m s (Clean out) ≡ of_edge [] (λ edge. clean_reads m edge s) (edge_of m out)
  unfolding reads_besides
  besides-clean out = refl

  pub besides-pass : (out : List ℕ) → reads_besides m s (Pass out) ≡ of_edge [] (λ edge. pass_reads m edge s) (edge_of m out)
  unfolding reads_besides
  besides-pass out = refl

  pub besides-touch : (path : List ℕ) (stamp : ℕ) → reads_besides m s (Touch path stamp) ≡ []
  unfolding reads_besides
  besides-touch path stamp = refl

  pub besides-interrupt : reads_besides m s Interrupt ≡ []
  unfolding reads_besides
  besides-interrupt = refl

  pub besides-resize : (pool depth : ℕ) → reads_besides m s (Resize pool depth) ≡ resize_reads m pool depth s
  unfolding reads_besides
  besides-resize pool depth = refl
