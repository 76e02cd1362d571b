-- The machine of builds is local.
use Rattle.std.proofs.Common.{◌≡◌, ℕ, Bool, true, false, ◌||◌, List, [], ◌∷◌, ◌++◌, Option, Some, None, inl, refl, sym, ap, ◌∙◌, true≢false}
use Rattle.std.specs.FinMap.{get}
use Rattle.std.specs.FinSet as cells
use Rattle.rev_manifest.specs.Manifest.{ManifestValue}
use Rattle.rev_graph.specs.Graph.{producer_of}
use Rattle.rev_cells.specs.declared.cell.Cell.{Cell}
use Rattle.rev_cells.specs.declared.cell.Cell.TheVariants as cell
use Rattle.rev_cells.specs.Keys.{cell_cmp}
use Rattle.rev_cells.specs.State.{State}
use Rattle.rev_cells.proofs.EntryLemmas.{cells_total, cells_exact}
use Rattle.rev_causal.specs.Order.{Has}
use Rattle.rev_causal.specs.Store.{among, is_accessed, keys_of, WritesAre, IsLocalEvent}
use Rattle.rev_causal.proofs.Store as store
use Rattle.rev_dirty.proofs.ListLemmas.{in-front, in-back}
use Rattle.rev_dirty.proofs.SeenLemmas.{Agree}
use Rattle.rev_events.specs.declared.event.Listing.{Listing}
use Rattle.rev_events.specs.declared.event.Event.{Event}
use Rattle.rev_events.specs.declared.event.Event.TheVariants.{Plan, Start, Finish, Fail, Abort, Clean, Pass, Touch, Interrupt, Resize}
use Rattle.rev_events.specs.declared.refusal.Refusal.{Refusal}
use Rattle.rev_events.specs.declared.refusal.Refusal.TheVariants.{NoSuchEdge}
use Rattle.rev_events.specs.Edge.{Effect}
use Rattle.rev_events.specs.Machine.{of_edge, refusal, effect}
use Rattle.rev_events.specs.Refusal.{already_halted}
use Rattle.rev_events.specs.Written.{written}
use Rattle.rev_footprint.specs.Footprint.{is_plan, footprint}
use Rattle.rev_footprint.specs.Value.{print_of, footprint_by}
use Rattle.rev_footprint.specs.Laws.{EventsAreLocal, MachineIsLocal, RefusalsAreLocal}
use Rattle.rev_footprint.specs.Machine.{table}
use Rattle.rev_footprint.specs.Reads.{reads_besides}
use Rattle.rev_footprint.proofs.KindLemmas.{IsLocalKind, halted-same, start-local, clean-local, pass-local, finish-local, fail-local, abort-local, resize-local}

-- WHERE AN EVENT NAMES AN EDGE
pub at-edge : (o : Option ℕ) (r : ℕ → State → Option Refusal) (e : ℕ → State → Effect) (reads writes : ℕ → State → List Cell) → ((edge : ℕ) → IsLocalKind (r edge) (e edge) (reads edge) (writes edge))
    → IsLocalKind (λ s. of_edge (Some NoSuchEdge) (λ edge. r edge s) o) (λ s. of_edge [] (λ edge. e edge s) o) (λ s. of_edge [] (λ edge. reads edge s) o) (λ s. of_edge [] (λ edge. writes edge s) o)
at-edge None r e reads writes each = record { same_refusal = λ s u a b. refl; same_effect = λ s u a b. refl; same_reads = λ s u a b. refl; written = λ s. refl }
at-edge (Some edge) r e reads writes each = each edge

-- the same, where it reads these cells besides whatever the edge
pub at-edge-with : (besides : List Cell) (o : Option ℕ) (r : ℕ → State → Option Refusal) (e : ℕ → State → Effect) (writes : ℕ → State → List Cell) → ((edge : ℕ) → IsLocalKind (r edge) (e edge) (λ s. besides) (writes edge))
    → IsLocalKind (λ s. of_edge (Some NoSuchEdge) (λ edge. r edge s) o) (λ s. of_edge [] (λ edge. e edge s) o) (λ s. besides) (λ s. of_edge [] (λ edge. writes edge s) o)
at-edge-with besides None r e writes each = record { same_refusal = λ s u a b. refl; same_effect = λ s u a b. refl; same_reads = λ s u a b. refl; written = λ s. refl }
at-edge-with besides (Some edge) r e writes each = each edge

-- FROM LISTS OF CELLS TO FOOTPRINTS
or-right : (a b : Bool) → b ≡ true → (a || b) ≡ true
or-right true b h = refl
or-right false b h = h

-- the set of a list has the list's cells
in-set : (ks : List Cell) (k : Cell) → Has ks k → among cell_cmp (cells.items (cells.from_list {R = cell_cmp} ks)) k ≡ true
in-set ks k h = sym (cells.contains-items (cells.from_list {R = cell_cmp} ks) k) ∙ cells.contains-from_list cells_total ks k ∙ store.among_has cells_total cells_exact ks k h

is-accessed : (b : Bool) (besides writes : List Cell) (k : Cell) → Has (writes ++ besides) k → is_accessed cell_cmp (print_of (footprint_by b besides writes)) k ≡ true
is-accessed true besides writes k h = refl
is-accessed false besides writes k h = or-right (among cell_cmp writes k) (among cell_cmp (cells.items (cells.from_list (writes ++ besides))) k) (in-set (writes ++ besides) k h)

writes-are : (b : Bool) (besides writes ks : List Cell) → ks ≡ writes → WritesAre (print_of (footprint_by b besides writes)) ks
writes-are true besides writes ks h = tt
writes-are false besides writes ks h = h

module _ (manifest : ManifestValue) (jobs : ℕ) where
  abbrev pub Kind : Event → Type 0
  Kind e = IsLocalKind (λ s. refusal manifest jobs s e) (λ s. effect manifest s e) (λ s. reads_besides manifest s e) (λ s. written manifest s e)

  -- a kind that is local is a local event of the table
  of_kind : (e : Event) → Kind e → IsLocalEvent (table manifest jobs) e
  unfolding footprint
  of_kind e k =
      let reads_on : (s u : State) → ((c : Cell) → is_accessed cell_cmp (print_of (footprint manifest s e)) c ≡ true → get u c ≡ get s c) → Agree s u (reads_besides manifest s e) =
      λ s u on c h. on c (is-accessed (is_plan e) (reads_besides manifest s e) (written manifest s e) c (in-back (written manifest s e) (reads_besides manifest s e) c h)) in
      let writes_on : (s u : State) → ((c : Cell) → is_accessed cell_cmp (print_of (footprint manifest s e)) c ≡ true → get u c ≡ get s c) → Agree s u (written manifest s e) =
      λ s u on c h. on c (is-accessed (is_plan e) (reads_besides manifest s e) (written manifest s e) c (in-front (written manifest s e) (reads_besides manifest s e) c h)) in
      record {
        accepted = λ s u acc named on. k.same_refusal s u (reads_on s u on) (writes_on s u on) ∙ acc;
        same_effect = λ s u acc named on. k.same_effect s u (reads_on s u on) (writes_on s u on);
        same_footprint = λ s u acc named on.
            let reads : reads_besides manifest u e ≡ reads_besides manifest s e = k.same_reads s u (reads_on s u on) (writes_on s u on) in
            let writes : written manifest u e ≡ written manifest s e = sym (k.written u) ∙ ap keys_of (k.same_effect s u (reads_on s u on) (writes_on s u on)) ∙ k.written s in
            λ i. print_of (footprint_by (is_plan e) (reads i) (writes i));
        writes = λ s acc named. writes-are (is_plan e) (reads_besides manifest s e) (written manifest s e) (keys_of (effect manifest s e)) (k.written s);
      }

  -- also its refusal is the same
  pub refusal-same : (e : Event) → Kind e → (s u : State) → ((c : Cell) → is_accessed cell_cmp (print_of (footprint manifest s e)) c ≡ true → get u c ≡ get s c) → refusal manifest jobs u e ≡ refusal manifest jobs s e
  unfolding footprint
  refusal-same e k s u on =
      k.same_refusal s u
      (λ c h. on c (is-accessed (is_plan e) (reads_besides manifest s e) (written manifest s e) c (in-back (written manifest s e) (reads_besides manifest s e) c h)))
      (λ c h. on c (is-accessed (is_plan e) (reads_besides manifest s e) (written manifest s e) c (in-front (written manifest s e) (reads_besides manifest s e) c h)))

  abbrev edge_of : List ℕ → Option ℕ
  edge_of out = producer_of manifest.builds out

  pub start-event : (out : List ℕ) (job : ℕ) (slot : Option ℕ) → Kind (Start out job slot)
  unfolding refusal effect reads_besides written
  start-event out job slot = at-edge (edge_of out) _ _ _ _ (λ edge. start-local manifest edge jobs job slot)

  pub clean-event : (out : List ℕ) → Kind (Clean out)
  unfolding refusal effect reads_besides written
  clean-event out = at-edge (edge_of out) _ _ _ _ (λ edge. clean-local manifest edge)

  pub pass-event : (out : List ℕ) → Kind (Pass out)
  unfolding refusal effect reads_besides written
  pass-event out = at-edge (edge_of out) _ _ _ _ (λ edge. pass-local manifest edge)

  pub finish-event : (out stamps : List ℕ) (listing : Listing) → Kind (Finish out stamps listing)
  unfolding refusal effect reads_besides written
  finish-event out stamps listing = at-edge-with [] (edge_of out) _ _ _ (λ edge. finish-local manifest edge stamps listing)

  pub fail-event : (out stamps : List ℕ) → Kind (Fail out stamps)
  unfolding refusal effect reads_besides written
  fail-event out stamps = at-edge-with [] (edge_of out) _ _ _ (λ edge. fail-local manifest edge stamps)

  pub abort-event : (out stamps : List ℕ) → Kind (Abort out stamps)
  unfolding refusal effect reads_besides written
  abort-event out stamps = at-edge-with (cell.Halted ∷ []) (edge_of out) _ _ _ (λ edge. abort-local manifest edge stamps)

  pub touch-event : (path : List ℕ) (stamp : ℕ) → Kind (Touch path stamp)
  unfolding refusal effect reads_besides written
  touch-event path stamp = record { same_refusal = λ s u a b. refl; same_effect = λ s u a b. refl; same_reads = λ s u a b. refl; written = λ s. refl }

  pub interrupt-event : Kind Interrupt
  unfolding refusal effect reads_besides written
  interrupt-event = record {
    same_refusal = λ s u reads writes. ap already_halted (halted-same s u (cell.Halted ∷ []) writes (inl refl));
    same_effect = λ s u a b. refl;
    same_reads = λ s u a b. refl;
    written = λ s. refl;
  }

  pub resize-event : (pool depth : ℕ) → Kind (Resize pool depth)
  unfolding refusal effect reads_besides written
  resize-event pool depth = resize-local manifest pool depth

  -- a plan is whole, and owes nothing
  plan-event : (targets : List (List ℕ)) → IsLocalEvent (table manifest jobs) (Plan targets)
  unfolding footprint
  plan-event targets = store.whole_event cells_total cells_exact (table manifest jobs) (Plan targets) (λ s. refl)

  each-event : (e : Event) → IsLocalEvent (table manifest jobs) e
  each-event (Plan targets) = plan-event targets
  each-event (Start out job slot) = of_kind (Start out job slot) (start-event out job slot)
  each-event (Finish out stamps listing) = of_kind (Finish out stamps listing) (finish-event out stamps listing)
  each-event (Fail out stamps) = of_kind (Fail out stamps) (fail-event out stamps)
  each-event (Abort out stamps) = of_kind (Abort out stamps) (abort-event out stamps)
  each-event (Clean out) = of_kind (Clean out) (clean-event out)
  each-event (Pass out) = of_kind (Pass out) (pass-event out)
  each-event (Touch path stamp) = of_kind (Touch path stamp) (touch-event path stamp)
  each-event Interrupt = of_kind Interrupt interrupt-event
  each-event (Resize pool depth) = of_kind (Resize pool depth) (resize-event pool depth)

pub table-local : EventsAreLocal
table-local manifest jobs = store.table_of_events cells_total cells_exact (table manifest jobs) (each-event manifest jobs)

pub machine-local : MachineIsLocal
machine-local manifest jobs = store.local_of cells_total cells_exact (table manifest jobs) (table-local manifest jobs)

pub refusals-are-local : RefusalsAreLocal
refusals-are-local manifest jobs s u (Plan targets) named on = absurd (true≢false named)
refusals-are-local manifest jobs s u (Start out job slot) named on = refusal-same manifest jobs (Start out job slot) (start-event manifest jobs out job slot) s u on
refusals-are-local manifest jobs s u (Finish out stamps listing) named on = refusal-same manifest jobs (Finish out stamps listing) (finish-event manifest jobs out stamps listing) s u on
refusals-are-local manifest jobs s u (Fail out stamps) named on = refusal-same manifest jobs (Fail out stamps) (fail-event manifest jobs out stamps) s u on
refusals-are-local manifest jobs s u (Abort out stamps) named on = refusal-same manifest jobs (Abort out stamps) (abort-event manifest jobs out stamps) s u on
refusals-are-local manifest jobs s u (Clean out) named on = refusal-same manifest jobs (Clean out) (clean-event manifest jobs out) s u on
refusals-are-local manifest jobs s u (Pass out) named on = refusal-same manifest jobs (Pass out) (pass-event manifest jobs out) s u on
refusals-are-local manifest jobs s u (Touch path stamp) named on = refusal-same manifest jobs (Touch path stamp) (touch-event manifest jobs path stamp) s u on
refusals-are-local manifest jobs s u Interrupt named on = refusal-same manifest jobs Interrupt (interrupt-event manifest jobs) s u on
refusals-are-local manifest jobs s u (Resize pool depth) named on = refusal-same manifest jobs (Resize pool depth) (resize-event manifest jobs pool depth) s u on
