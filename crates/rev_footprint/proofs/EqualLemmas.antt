-- Accepted events that are equal conflict: each writes a cell of its own, or is whole.
use Rattle.std.proofs.Common.{◌≡◌, ℕ, Bool, true, false, List, [], Option, Some, None, unwrap_or, inl, inr, refl}
use Rattle.rev_manifest.specs.Manifest.{ManifestValue}
use Rattle.rev_graph.specs.Graph.{producer_of}
use Rattle.rev_cells.specs.declared.cell.Cell.{Cell}
use Rattle.rev_cells.specs.declared.cell.Cell.TheVariants as cell
use Rattle.rev_cells.specs.Keys.{cell_cmp}
use Rattle.rev_cells.specs.State.{State}
use Rattle.rev_cells.proofs.EntryLemmas.{cells_total, cells_exact}
use Rattle.rev_causal.specs.Order.{Has}
use Rattle.rev_causal.specs.OrderCheck.{AlwaysWrites}
use Rattle.rev_causal.specs.Store.{is_written}
use Rattle.rev_causal.proofs.Store as store
use Rattle.rev_causal.proofs.Occurrence as occurrence
use Rattle.rev_events.specs.declared.event.Event.{Event}
use Rattle.rev_events.specs.declared.event.Event.TheVariants.{Plan, Start, Finish, Fail, Abort, Clean, Pass, Touch, Interrupt, Resize}
use Rattle.rev_events.specs.declared.refusal.Refusal.{Refusal}
use Rattle.rev_events.specs.declared.refusal.Refusal.TheVariants.{NoSuchEdge}
use Rattle.rev_events.specs.Kinds.{start_refusal, finish_refusal, fail_refusal, abort_refusal, clean_refusal, pass_refusal}
use Rattle.rev_events.specs.Machine.{of_edge, refusal}
use Rattle.rev_events.specs.Written.{start_writes, mark_writes, finish_writes, end_writes, written}
use Rattle.rev_footprint.specs.Footprint.{footprint, is_plan}
use Rattle.rev_footprint.specs.Value.{print_of, footprint_by}
use Rattle.rev_footprint.specs.Laws.{EqualConflict}
use Rattle.rev_footprint.specs.Machine.{table}
use Rattle.rev_footprint.specs.Reads.{reads_besides}

is-written : (b : Bool) (besides writes : List Cell) (k : Cell) → Has writes k → is_written cell_cmp (print_of (footprint_by b besides writes)) k ≡ true
is-written true besides writes k h = refl
is-written false besides writes k h = store.among_has cells_total cells_exact writes k h

at-mark : (o : Option ℕ) (r : ℕ → Option Refusal) (w : ℕ → List Cell) → of_edge (Some NoSuchEdge) r o ≡ None → ((edge : ℕ) → Has (w edge) (cell.Mark edge)) → Has (of_edge [] w o) (cell.Mark (unwrap_or o 0))
at-mark None r w acc each =
    let no : Some NoSuchEdge ≡ None = acc in
    cc
at-mark (Some edge) r w acc each = each edge

module _ (manifest : ManifestValue) (jobs : ℕ) where
  named : List ℕ → Cell
  named out = cell.Mark (unwrap_or (producer_of manifest.builds out) 0)

  writes-cell : (s : State) (e : Event) (k : Cell) → Has (written manifest s e) k → is_written cell_cmp (print_of (footprint manifest s e)) k ≡ true
  unfolding footprint
  writes-cell s e k h = is-written (is_plan e) (reads_besides manifest s e) (written manifest s e) k h

  always : (e : Event) → AlwaysWrites (table manifest jobs) e
  unfolding refusal footprint written start_writes mark_writes finish_writes end_writes named
  always (Plan targets) = inl (λ s acc. refl)
  always (Start out job slot) = inr (
    named out,
    λ s acc. writes-cell s (Start out job slot) (named out)
        (at-mark (producer_of manifest.builds out) (λ edge. start_refusal manifest jobs edge job slot s) (λ edge. start_writes manifest edge job slot s) acc (λ edge. inl refl)),
  )
  always (Finish out stamps listing) = inr (
    named out,
    λ s acc. writes-cell s (Finish out stamps listing) (named out)
        (at-mark (producer_of manifest.builds out) (λ edge. finish_refusal manifest edge stamps listing s) (λ edge. finish_writes manifest edge s) acc (λ edge. inl refl)),
  )
  always (Fail out stamps) = inr (
    named out,
    λ s acc. writes-cell s (Fail out stamps) (named out)
        (at-mark (producer_of manifest.builds out) (λ edge. fail_refusal manifest edge stamps s) (λ edge. end_writes manifest edge s) acc (λ edge. inl refl)),
  )
  always (Abort out stamps) = inr (
    named out,
    λ s acc. writes-cell s (Abort out stamps) (named out)
        (at-mark (producer_of manifest.builds out) (λ edge. abort_refusal manifest edge stamps s) (λ edge. end_writes manifest edge s) acc (λ edge. inl refl)),
  )
  always (Clean out) = inr (
    named out,
    λ s acc. writes-cell s (Clean out) (named out)
        (at-mark (producer_of manifest.builds out) (λ edge. clean_refusal manifest edge s) (λ edge. mark_writes manifest edge s) acc (λ edge. inl refl)),
  )
  always (Pass out) = inr (
    named out,
    λ s acc. writes-cell s (Pass out) (named out)
        (at-mark (producer_of manifest.builds out) (λ edge. pass_refusal manifest edge s) (λ edge. mark_writes manifest edge s) acc (λ edge. inl refl)),
  )
  always (Touch path stamp) = inr (cell.Stamp path, λ s acc. writes-cell s (Touch path stamp) (cell.Stamp path) (inl refl))
  always Interrupt = inr (cell.Halted, λ s acc. writes-cell s Interrupt cell.Halted (inl refl))
  always (Resize pool depth) = inr (cell.Depth pool, λ s acc. writes-cell s (Resize pool depth) (cell.Depth pool) (inl refl))

pub equal-conflict : EqualConflict
equal-conflict manifest jobs = occurrence.equal_events_conflict_of cells_total cells_exact (table manifest jobs) (always manifest jobs)
