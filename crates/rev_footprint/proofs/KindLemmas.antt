-- Each kind of event asks and does what the cells that it reads and writes decide.
use Rattle.std.proofs.Common.{◌≡◌, ℕ, ◌==◌, not, List, [], ◌∷◌, ◌++◌, map, Option, Some, None, unwrap_or, inl, inr, refl, ap, ◌∙◌}
use Rattle.std.specs.List.{list_any}
use Rattle.std.specs.Option.{option_map}
use Rattle.rev_manifest.specs.Manifest.{BuildValue, ManifestValue}
use Rattle.rev_graph.specs.Graph.{build_at, depth_of, outputs_of, pool_of}
use Rattle.rev_cells.specs.declared.cell.Cell.{Cell}
use Rattle.rev_cells.specs.declared.cell.Cell.TheVariants as cell
use Rattle.rev_cells.specs.declared.mark.Mark.{Mark}
use Rattle.rev_cells.specs.declared.mark.Mark.TheVariants as mark
use Rattle.rev_cells.specs.declared.value.Value.TheVariants as value
use Rattle.rev_cells.specs.State.{State, stamp_of, mark_of, job_of, slot_of, given_depth_of, is_halted, default_or, job_in, slot_in, depth_in, halted_in}
use Rattle.rev_causal.specs.Order.{Has}
use Rattle.rev_causal.specs.Store.{keys_of}
use Rattle.rev_dirty.specs.Inputs.{InputValue, inputs}
use Rattle.rev_dirty.specs.Reasons.{is_rebuilt, is_missing, newest_stamp, reasons_of}
use Rattle.rev_events.specs.declared.event.Listing.{Listing}
use Rattle.rev_events.specs.declared.refusal.Refusal.{Refusal}
use Rattle.rev_events.specs.Refusal.{is_settled, phony_edge, halted, not_wanted, blocked, not_dirty, no_such_job, job_busy, pool_slot, slot_busy}
use Rattle.rev_events.specs.Pools.{present_depth, at_present, present_pool, slots_lost, first_held}
use Rattle.rev_plan.specs.Options.{first_some}
use Rattle.rev_dirty.specs.Seen.{stamp_cells, built_cells, producer_marks, seen_stamps, deps_cells, joined, reason_cells}
use Rattle.rev_events.specs.Edge.{Effect, write, is_blocking, first_blocking, slot_cells, slot_holder, write_slot, held_cells, free_held, seen_by, write_stamps, changes, write_built, write_deps, pass_changes}
use Rattle.rev_events.specs.Kinds.{start_refusal, start_effect, clean_tests, clean_refusal, clean_effect, pass_tests, pass_refusal, pass_effect, finish_tests, finish_refusal, finish_by, finish_effect, fail_tests, fail_refusal, abort_tests, abort_refusal, end_effect, resize_tests, resize_refusal, resize_effect}
use Rattle.rev_events.specs.Written.{start_writes, mark_writes, finish_writes, end_writes}
use Rattle.rev_events.proofs.WrittenLemmas.{keys-append, keys-slot, keys-held, keys-stamps, keys-built, keys-deps}
use Rattle.rev_footprint.specs.Reads.{depth_cells, start_reads, clean_reads, pass_reads, resize_reads}
use Rattle.rev_dirty.proofs.ListLemmas.{in-front, in-back, in-map, map-same, any-same, position-same}
use Rattle.rev_dirty.proofs.SeenLemmas.{Agree, SameStamps}
use Rattle.rev_dirty.proofs.SameReasons.{SameProducers, stamps-same, mark-same, inputs-same, producers-same, tested-same, rebuilt-same, newest-stamp-same, reasons-same, agree-part, agree-front, agree-back, facts}

-- What a kind of event owes: what it asks, does and reads is the same in states that agree on what it reads and writes, also
-- where it is refused; and its effect writes the cells that it says.
pub record IsLocalKind (refusal : State → Option Refusal) (effect : State → Effect) (reads writes : State → List Cell) : Type 0 where
  pub same_refusal : (s u : State) → Agree s u (reads s) → Agree s u (writes s) → refusal u ≡ refusal s
  pub same_effect : (s u : State) → Agree s u (reads s) → Agree s u (writes s) → effect u ≡ effect s
  pub same_reads : (s u : State) → Agree s u (reads s) → Agree s u (writes s) → reads u ≡ reads s
  pub written : (s : State) → keys_of (effect s) ≡ writes s

-- SINGLE CELLS
pub halted-same : (s u : State) (cells : List Cell) → Agree s u cells → Has cells cell.Halted → is_halted u ≡ is_halted s
halted-same s u cells on h = ap (λ o. halted_in (default_or cell.Halted o)) (on cell.Halted h)

job-same : (s u : State) (cells : List Cell) (job : ℕ) → Agree s u cells → Has cells (cell.Job job) → job_of u job ≡ job_of s job
job-same s u cells job on h = ap (λ o. job_in (default_or (cell.Job job) o)) (on (cell.Job job) h)

holder-same : (s u : State) (pool : Option (ℕ × ℕ)) (slot : Option ℕ) → Agree s u (slot_cells pool slot) → slot_holder u pool slot ≡ slot_holder s pool slot
holder-same s u None None on = refl
holder-same s u None (Some slot) on = refl
holder-same s u (Some pool) None on = refl
holder-same s u (Some pool) (Some slot) on = ap (λ o. slot_in (default_or (cell.Slot pool.0 slot) o)) (on (cell.Slot pool.0 slot) (inl refl))

depth-same : (s u : State) (cells : List Cell) (pool : ℕ) → Agree s u cells → Has cells (cell.Depth pool) → given_depth_of u pool ≡ given_depth_of s pool
depth-same s u cells pool on h = ap (λ o. depth_in (default_or (cell.Depth pool) o)) (on (cell.Depth pool) h)

-- whether a slot can be named depends on the present depth of the pool where one is named, and else on no cell
placed-same : (s u : State) (pool : Option (ℕ × ℕ)) (slot : Option ℕ) → Agree s u (depth_cells pool slot) → pool_slot (at_present u pool) slot ≡ pool_slot (at_present s pool) slot
placed-same s u None None on = refl
placed-same s u None (Some slot) on = refl
placed-same s u (Some pool) None on = refl
placed-same s u (Some pool) (Some slot) on =
    ap (λ given. pool_slot (Some (pool.0, unwrap_or given pool.1)) (Some slot)) (depth-same s u (depth_cells (Some pool) (Some slot)) pool.0 on (inl refl))

blocking-same : (builds : List BuildValue) (s u : State) (all all' : List InputValue) → all' ≡ all → SameProducers builds s u all → first_blocking builds u all' ≡ first_blocking builds s all
blocking-same builds s u all all' e same =
    ap (first_blocking builds u) e
    ∙ position-same (is_blocking builds u) (is_blocking builds s) all (λ input h. tested-same builds s u input (λ edge m. not (is_settled m)) (same input h))

module _ (manifest : ManifestValue) where
  module _ (edge : ℕ) where
    abbrev build : BuildValue
    build = build_at manifest.builds edge

    pub start-local : (jobs job : ℕ) (slot : Option ℕ) → IsLocalKind (start_refusal manifest jobs edge job slot) (start_effect manifest edge job slot) (start_reads manifest edge slot) (start_writes manifest edge job slot)
    unfolding start_refusal start_effect start_reads start_writes
    start-local jobs job slot = record {
      same_refusal = λ s u reads writes.
          let pool = pool_of manifest edge in
          let same = facts manifest.builds s u edge (agree-back s u (cell.Halted ∷ depth_cells pool slot) (joined (reason_cells manifest.builds s edge)) reads) in
          let front = agree-front s u (cell.Halted ∷ depth_cells pool slot) (joined (reason_cells manifest.builds s edge)) reads in
          let is : is_halted u ≡ is_halted s = halted-same s u (cell.Halted ∷ depth_cells pool slot) front (inl refl) in
          let placed : pool_slot (present_pool manifest u edge) slot ≡ pool_slot (present_pool manifest s edge) slot = placed-same s u pool slot (λ c h. front c (inr h)) in
          let m : mark_of u edge ≡ mark_of s edge = mark-same s u (cell.Mark edge ∷ cell.Job job ∷ slot_cells pool slot) edge writes (inl refl) in
          let blocking : first_blocking manifest.builds u (inputs u build) ≡ first_blocking manifest.builds s (inputs s build) =
          blocking-same manifest.builds s u (inputs s build) (inputs u build) same.all same.producers in
          let reasons : reasons_of manifest.builds u edge ≡ reasons_of manifest.builds s edge = reasons-same manifest.builds s u edge same in
          let holder : job_of u job ≡ job_of s job = job-same s u (cell.Mark edge ∷ cell.Job job ∷ slot_cells pool slot) job writes (inr (inl refl)) in
          let other : slot_holder u pool slot ≡ slot_holder s pool slot = holder-same s u pool slot (λ c h. writes c (inr (inr h))) in
          λ i. first_some (phony_edge build ∷ halted (is i) ∷ not_wanted (m i) ∷ blocked (blocking i) ∷ not_dirty (reasons i) ∷ no_such_job jobs job ∷ job_busy (holder i) ∷ placed i ∷ slot_busy (other i) ∷ []);
      same_effect = λ s u reads writes.
          let same = facts manifest.builds s u edge (agree-back s u (cell.Halted ∷ depth_cells (pool_of manifest edge) slot) (joined (reason_cells manifest.builds s edge)) reads) in
          ap (λ seen. write (cell.Mark edge) (value.Mark (mark.Running job slot seen)) ∷ write (cell.Job job) (value.Job (Some edge)) ∷ write_slot (pool_of manifest edge) slot (Some edge))
          (ap (newest_stamp manifest.builds u) same.all ∙ newest-stamp-same manifest.builds s u (inputs s build) same.shown);
      same_reads = λ s u reads writes.
          let front = cell.Halted ∷ depth_cells (pool_of manifest edge) slot in
          let same = facts manifest.builds s u edge (agree-back s u front (joined (reason_cells manifest.builds s edge)) reads) in
          ap (λ all. joined (front ∷ producer_marks manifest.builds all ∷ seen_stamps manifest.builds all ∷ stamp_cells (outputs_of build) ∷ built_cells (outputs_of build) ∷ deps_cells build ∷ [])) same.all;
      written = λ s. ap (λ (ks : List Cell). cell.Mark edge ∷ cell.Job job ∷ ks) (keys-slot (pool_of manifest edge) slot (Some edge));
    }

    pub clean-local : IsLocalKind (clean_refusal manifest edge) (clean_effect manifest edge) (clean_reads manifest edge) (mark_writes manifest edge)
    unfolding clean_refusal clean_effect clean_reads mark_writes
    clean-local = record {
      same_refusal = λ s u reads writes.
          let same = facts manifest.builds s u edge reads in
          let m : mark_of u edge ≡ mark_of s edge = mark-same s u (cell.Mark edge ∷ []) edge writes (inl refl) in
          let blocking : first_blocking manifest.builds u (inputs u build) ≡ first_blocking manifest.builds s (inputs s build) =
          blocking-same manifest.builds s u (inputs s build) (inputs u build) same.all same.producers in
          let reasons : reasons_of manifest.builds u edge ≡ reasons_of manifest.builds s edge = reasons-same manifest.builds s u edge same in
          λ i. clean_tests build (m i) (blocking i) (reasons i);
      same_effect = λ s u reads writes. refl;
      same_reads = λ s u reads writes.
          let same = facts manifest.builds s u edge reads in
          ap (λ all. joined (producer_marks manifest.builds all ∷ seen_stamps manifest.builds all ∷ stamp_cells (outputs_of build) ∷ built_cells (outputs_of build) ∷ deps_cells build ∷ [])) same.all;
      written = λ s. refl;
    }

    -- what a pass asks of its inputs and outputs
    pass-parts : (s u : State) → Agree s u (joined (producer_marks manifest.builds (inputs s build) ∷ stamp_cells (outputs_of build) ∷ deps_cells build ∷ []))
        → (inputs u build ≡ inputs s build) × SameProducers manifest.builds s u (inputs s build) × SameStamps s u (outputs_of build)
    pass-parts s u on =
        let builds = manifest.builds in
        let outs = outputs_of build in
        let all = inputs s build in
        let cells = producer_marks builds all ∷ stamp_cells outs ∷ deps_cells build ∷ [] in (
          inputs-same s u build (agree-part s u cells (deps_cells build) on (inr (inr (inl refl)))),
          producers-same builds s u all (agree-part s u cells (producer_marks builds all) on (inl refl)),
          stamps-same s u outs (agree-part s u cells (stamp_cells outs) on (inr (inl refl))),
        )

    pub pass-local : IsLocalKind (pass_refusal manifest edge) (pass_effect manifest edge) (pass_reads manifest edge) (mark_writes manifest edge)
    unfolding pass_refusal pass_effect pass_reads mark_writes
    pass-local = record {
      same_refusal = λ s u reads writes.
          let same = pass-parts s u reads in
          let m : mark_of u edge ≡ mark_of s edge = mark-same s u (cell.Mark edge ∷ []) edge writes (inl refl) in
          let blocking : first_blocking manifest.builds u (inputs u build) ≡ first_blocking manifest.builds s (inputs s build) =
          blocking-same manifest.builds s u (inputs s build) (inputs u build) same.0 same.1 in
          λ i. pass_tests build (m i) (blocking i);
      same_effect = λ s u reads writes.
          let same = pass-parts s u reads in
          let m : mark_of u edge ≡ mark_of s edge = mark-same s u (cell.Mark edge ∷ []) edge writes (inl refl) in
          let rebuilt : list_any (is_rebuilt manifest.builds u) (inputs u build) ≡ list_any (is_rebuilt manifest.builds s) (inputs s build) =
          ap (list_any (is_rebuilt manifest.builds u)) same.0
          ∙ any-same (is_rebuilt manifest.builds u) (is_rebuilt manifest.builds s) (inputs s build) (rebuilt-same manifest.builds s u (inputs s build) same.1) in
          let missing : map (is_missing u) (outputs_of build) ≡ map (is_missing s) (outputs_of build) =
          map-same (is_missing u) (is_missing s) (outputs_of build) (λ path h. ap (λ (n : ℕ). n == 0) (same.2 path h)) in
          λ i. write (cell.Mark edge) (value.Mark (mark.Done (pass_changes (m i) (same.0 i) (rebuilt i) (missing i)))) ∷ [];
      same_reads = λ s u reads writes.
          ap (λ all. joined (producer_marks manifest.builds all ∷ stamp_cells (outputs_of build) ∷ deps_cells build ∷ [])) (pass-parts s u reads).0;
      written = λ s. refl;
    }

    pub finish-local : (stamps : List ℕ) (listing : Listing) → IsLocalKind (finish_refusal manifest edge stamps listing) (finish_effect manifest edge stamps listing) (λ s. []) (finish_writes manifest edge)
    unfolding finish_refusal finish_effect finish_writes
    finish-local stamps listing = record {
      same_refusal = λ s u reads writes. ap (finish_tests build stamps listing) (mark-here s u writes);
      same_effect = λ s u reads writes.
          let outs = outputs_of build in
          let held = held_cells (pool_of manifest edge) (mark_of s edge) in
          let on : Agree s u (stamp_cells outs) = λ c h. writes c (inr (in-back held (stamp_cells outs ++ (built_cells outs ++ deps_cells build)) c (in-front (stamp_cells outs) (built_cells outs ++ deps_cells build) c h))) in
          let befores : map (stamp_of u) outs ≡ map (stamp_of s) outs = map-same (stamp_of u) (stamp_of s) outs (stamps-same s u outs on) in
          let m = mark-here s u writes in
          λ i. finish_by manifest edge stamps listing (m i) (changes build.restat (befores i) stamps);
      same_reads = λ s u reads writes. refl;
      written = λ s.
          let m = mark_of s edge in
          let pool = pool_of manifest edge in
          let outs = outputs_of build in
          let flags = changes build.restat (map (stamp_of s) outs) stamps in
          let records = write_built build.command (seen_by m) outs flags stamps in
          let deps = write_deps build stamps listing in
          let back : keys_of (records ++ deps) ≡ built_cells outs ++ deps_cells build =
          keys-append records deps ∙ (λ i. keys-built build.command (seen_by m) outs flags stamps i ++ keys-deps build stamps listing i) in
          let middle : keys_of (write_stamps outs stamps ++ (records ++ deps)) ≡ stamp_cells outs ++ (built_cells outs ++ deps_cells build) =
          keys-append (write_stamps outs stamps) (records ++ deps) ∙ (λ i. keys-stamps outs stamps i ++ back i) in
          ap (λ (ks : List Cell). cell.Mark edge ∷ ks) (keys-append (free_held pool m) (write_stamps outs stamps ++ (records ++ deps)) ∙ (λ i. keys-held pool m i ++ middle i));
    }
      where
        mark-here : (s u : State) → Agree s u (finish_writes manifest edge s) → mark_of u edge ≡ mark_of s edge
        mark-here s u writes =
            mark-same s u (cell.Mark edge ∷ held_cells (pool_of manifest edge) (mark_of s edge) ++ (stamp_cells (outputs_of build) ++ (built_cells (outputs_of build) ++ deps_cells build))) edge writes (inl refl)

    -- what ends a command without its success
    end-mark : (s u : State) → Agree s u (end_writes manifest edge s) → mark_of u edge ≡ mark_of s edge
    unfolding end_writes
    end-mark s u writes = mark-same s u (cell.Mark edge ∷ held_cells (pool_of manifest edge) (mark_of s edge) ++ stamp_cells (outputs_of build)) edge writes (inl refl)

    end-effect : (stamps : List ℕ) (ended : Mark) (s u : State) → Agree s u (end_writes manifest edge s) → end_effect manifest edge stamps ended u ≡ end_effect manifest edge stamps ended s
    unfolding end_effect
    end-effect stamps ended s u writes =
        ap (λ m. write (cell.Mark edge) (value.Mark ended) ∷ free_held (pool_of manifest edge) m ++ write_stamps (outputs_of build) stamps) (end-mark s u writes)

    end-keys : (stamps : List ℕ) (ended : Mark) (s : State) → keys_of (end_effect manifest edge stamps ended s) ≡ end_writes manifest edge s
    unfolding end_effect end_writes
    end-keys stamps ended s =
        let m = mark_of s edge in
        let pool = pool_of manifest edge in
        let outs = outputs_of build in
        ap (λ (ks : List Cell). cell.Mark edge ∷ ks) (keys-append (free_held pool m) (write_stamps outs stamps) ∙ (λ i. keys-held pool m i ++ keys-stamps outs stamps i))

    pub fail-local : (stamps : List ℕ) → IsLocalKind (fail_refusal manifest edge stamps) (end_effect manifest edge stamps mark.Failed) (λ s. []) (end_writes manifest edge)
    unfolding fail_refusal
    fail-local stamps = record {
      same_refusal = λ s u reads writes. ap (fail_tests build stamps) (end-mark s u writes);
      same_effect = λ s u reads writes. end-effect stamps mark.Failed s u writes;
      same_reads = λ s u reads writes. refl;
      written = end-keys stamps mark.Failed;
    }

    pub abort-local : (stamps : List ℕ) → IsLocalKind (abort_refusal manifest edge stamps) (end_effect manifest edge stamps mark.Stopped) (λ s. cell.Halted ∷ []) (end_writes manifest edge)
    unfolding abort_refusal
    abort-local stamps = record {
      same_refusal = λ s u reads writes.
          let is : is_halted u ≡ is_halted s = halted-same s u (cell.Halted ∷ []) reads (inl refl) in
          let m = end-mark s u writes in
          λ i. abort_tests build stamps (is i) (m i);
      same_effect = λ s u reads writes. end-effect stamps mark.Stopped s u writes;
      same_reads = λ s u reads writes. refl;
      written = end-keys stamps mark.Stopped;
    }

  -- a resize asks for the present depth of the pool, and with it for the slots that the pool loses
  module _ (pool depth : ℕ) where
    abbrev lost : State → List ℕ
    lost s = slots_lost depth (present_depth manifest s pool)

    present-same : (s u : State) → Agree s u (cell.Depth pool ∷ []) → present_depth manifest u pool ≡ present_depth manifest s pool
    present-same s u writes = ap (λ given. option_map (unwrap_or given) (depth_of manifest pool)) (depth-same s u (cell.Depth pool ∷ []) pool writes (inl refl))

    held-same : (s u : State) (slots : List ℕ) → Agree s u (map (cell.Slot pool) slots) → first_held u pool slots ≡ first_held s pool slots
    held-same s u slots on =
        ap first_some
        (map-same (λ slot. option_map (λ edge. (slot, edge)) (slot_of u pool slot)) (λ slot. option_map (λ edge. (slot, edge)) (slot_of s pool slot)) slots
        (λ slot h. ap (λ o. option_map (λ edge. (slot, edge)) (slot_in (default_or (cell.Slot pool slot) o))) (on (cell.Slot pool slot) (in-map (cell.Slot pool) slots slot h))))

    pub resize-local : IsLocalKind (resize_refusal manifest pool depth) (λ s. resize_effect manifest pool depth) (resize_reads manifest pool depth) (λ s. cell.Depth pool ∷ [])
    unfolding resize_refusal resize_reads
    resize-local = record {
      same_refusal = λ s u reads writes.
          let now = present-same s u writes in
          let held : first_held u pool (lost u) ≡ first_held s pool (lost s) =
          ap (λ present. first_held u pool (slots_lost depth present)) now ∙ held-same s u (lost s) reads in
          λ i. resize_tests (now i) depth (held i);
      same_effect = λ s u reads writes. refl;
      same_reads = λ s u reads writes. ap (λ present. map (cell.Slot pool) (slots_lost depth present)) (present-same s u writes);
      written = λ s. refl;
    }
