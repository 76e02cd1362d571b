-- Each accepted event keeps what is held and what runs together.
use Rattle.std.proofs.Common.{◌≡◌, ℕ, ◌+◌, ◌<◌, ◌≤◌, suc, zero, Bool, true, false, cond, not, ◌||◌, List, [], ◌∷◌, ◌++◌, map, length, find, Option, Some, None, inl, inr, refl, sym, ap, subst, ◌∙◌, arith, true≢false, append-nil, if◌then◌else◌}
use Rattle.std.specs.List.{list_any, range_with_len}
use Rattle.std.specs.Option.{option_map}
use Rattle.std.proofs.lemmas.Bool.{cases_eq, cases_lt}
use Rattle.rev_manifest.specs.Manifest.{BuildValue, ManifestValue}
use Rattle.rev_graph.specs.Graph.{build_at, outputs_of, producer_of, pool_of}
use Rattle.rev_graph.proofs.GraphLemmas.{producer_of-within}
use Rattle.rev_cells.specs.declared.cell.Cell.TheVariants as cell
use Rattle.rev_cells.specs.declared.mark.Mark.{Mark}
use Rattle.rev_cells.specs.declared.mark.Mark.TheVariants as mark
use Rattle.rev_cells.specs.declared.value.Value.TheVariants as value
use Rattle.rev_cells.specs.State.{State, stamp_of, mark_of, job_of, slot_of, is_halted}
use Rattle.rev_causal.specs.Store.{keys_of}
use Rattle.rev_dirty.specs.Inputs.{inputs, producers_in}
use Rattle.rev_dirty.specs.Reasons.{newest_stamp, reasons_of, is_rebuilt, is_missing}
use Rattle.rev_plan.specs.Plan.{is_running_mark, is_running, plan_refusal, marks_of, edge_numbers, targets_or, still_running, mark_for, is_wanted, is_through}
use Rattle.rev_events.specs.Edge.{Effect, write, slot_holder, write_slot, free_held, write_stamps, write_built, write_deps, write_first_deps, changes, where_true, seen_by, first_blocking, pass_changes}
use Rattle.rev_events.specs.declared.event.Listing.{Listing}
use Rattle.rev_events.specs.declared.event.Event.{Event}
use Rattle.rev_events.specs.declared.event.Event.TheVariants.{Plan, Start, Finish, Fail, Abort, Clean, Pass, Touch, Interrupt, Resize}
use Rattle.rev_events.specs.Held.{words_of, IsHeld, IsHeldExactly, IsOpened}
use Rattle.rev_events.specs.Laws.{HeldIsRunning}
use Rattle.rev_events.specs.Kinds.{start_refusal, start_effect, clean_refusal, clean_effect, pass_refusal, pass_effect, finish_refusal, finish_effect, fail_refusal, abort_refusal, end_effect, resize_refusal, resize_effect}
use Rattle.rev_events.specs.Machine.{of_edge, refusal, effect, write_marks}
use Rattle.rev_events.specs.declared.refusal.Refusal.{Refusal}
use Rattle.rev_events.specs.declared.refusal.Refusal.TheVariants.{NoSuchEdge}
use Rattle.rev_events.specs.Refusal.{of_plan, pool_slot, phony_edge, not_phony, halted, not_halted, not_wanted, not_marked, not_running, blocked, not_dirty, no_such_job, job_busy, slot_busy, is_wanted_mark, is_through_mark}
use Rattle.rev_events.specs.Pools.{present_pool}
use Rattle.rev_events.proofs.HeldLemmas.{IsQuiet, quiet-held, replaced-held}
use Rattle.rev_events.proofs.HeldSteps.{After, KeepsDepths, holding, files-quiet, files-depths, mark-quiet, mark-depths, depth-quiet, holding-depths, begins, ends}
use Rattle.rev_events.proofs.PoolLemmas.{same-present, resized-placed}
use Rattle.rev_events.proofs.TestLemmas.{first-none, not-refused, not-false, none-mapped}
use Rattle.rev_events.proofs.WrittenLemmas.{keys-append, keys-stamps, keys-built}
use Rattle.rev_events.proofs.WriteLemmas.{AllFiles, files-append, files-stamps, files-built}

-- WHAT TESTS SAY OF MARKS
-- a wanted edge does not run, nor does one that is through
wanted-idle : (m : Mark) → is_wanted_mark m ≡ true → is_running_mark m ≡ false
wanted-idle (mark.Running job slot seen) h = absurd (true≢false (sym h))
wanted-idle (mark.Done changed) h = refl
wanted-idle mark.Idle h = refl
wanted-idle mark.Wanted h = refl
wanted-idle mark.Through h = refl
wanted-idle mark.Clean h = refl
wanted-idle mark.Failed h = refl
wanted-idle mark.Stopped h = refl

marked-idle : (m : Mark) → (is_wanted_mark m || is_through_mark m) ≡ true → is_running_mark m ≡ false
marked-idle (mark.Running job slot seen) h = absurd (true≢false (sym h))
marked-idle (mark.Done changed) h = refl
marked-idle mark.Idle h = refl
marked-idle mark.Wanted h = refl
marked-idle mark.Through h = refl
marked-idle mark.Clean h = refl
marked-idle mark.Failed h = refl
marked-idle mark.Stopped h = refl

record IsRunning (m : Mark) : Type 0 where
  job : ℕ
  slot : Option ℕ
  seen : ℕ
  is : m ≡ mark.Running job slot seen

running-parts : (m : Mark) → is_running_mark m ≡ true → IsRunning m
running-parts (mark.Running job slot seen) h = record { job = job; slot = slot; seen = seen; is = refl }
running-parts (mark.Done changed) h = absurd (true≢false (sym h))
running-parts mark.Idle h = absurd (true≢false (sym h))
running-parts mark.Wanted h = absurd (true≢false (sym h))
running-parts mark.Through h = absurd (true≢false (sym h))
running-parts mark.Clean h = absurd (true≢false (sym h))
running-parts mark.Failed h = absurd (true≢false (sym h))
running-parts mark.Stopped h = absurd (true≢false (sym h))

wanted-of : (m : Mark) → not_wanted m ≡ None → is_running_mark m ≡ false
wanted-of m h = wanted-idle m (not-false (is_wanted_mark m) (not-refused (not (is_wanted_mark m)) _ h))

marked-of : (m : Mark) → not_marked m ≡ None → is_running_mark m ≡ false
marked-of m h = marked-idle m (not-false (is_wanted_mark m || is_through_mark m) (not-refused (not (is_wanted_mark m || is_through_mark m)) _ h))

running-of : (m : Mark) → not_running m ≡ None → IsRunning m
running-of m h = running-parts m (not-false (is_running_mark m) (not-refused (not (is_running_mark m)) _ h))

-- FILES
files-deps : (build : BuildValue) (stamps : List ℕ) (listing : Listing) → AllFiles (keys_of (write_deps build stamps listing))
files-deps build stamps listing = by build.keeps_deps (outputs_of build)
  where
    first : (paths : List (List ℕ)) → AllFiles (keys_of (write_first_deps paths stamps listing))
    first [] = tt
    first (path ∷ paths) = (refl, tt)

    by : (b : Bool) (paths : List (List ℕ)) → AllFiles (keys_of (if b then write_first_deps paths stamps listing else []))
    by true paths = first paths
    by false paths = tt

files-given : (paths : List (List ℕ)) (stamps : List ℕ) → AllFiles (keys_of (write_stamps paths stamps))
files-given paths stamps = rw (keys-stamps paths stamps) (files-stamps paths)

files-records : (command : List ℕ) (seen : ℕ) (paths : List (List ℕ)) (flags : List Bool) (stamps : List ℕ) → AllFiles (keys_of (write_built command seen paths flags stamps))
files-records command seen paths flags stamps = rw (keys-built command seen paths flags stamps) (files-built paths)

files-both : (xs ys : Effect) → AllFiles (keys_of xs) → AllFiles (keys_of ys) → AllFiles (keys_of (xs ++ ys))
files-both xs ys a b = rw (keys-append xs ys) (files-append (keys_of xs) (keys_of ys) a b)

module _ (manifest : ManifestValue) where
  abbrev HeldAt : State → Type 0
  HeldAt s = IsHeldExactly manifest s

  -- steps that write no depth
  same-depths : (s t : State) → KeepsDepths s t → IsHeld (pool_of manifest) (present_pool manifest s) (length manifest.builds) (words_of t) → HeldAt t
  same-depths s t keeps h =
      replaced-held (pool_of manifest) (present_pool manifest s) (present_pool manifest t) (length manifest.builds) (words_of t)
      (λ edge job slot seen on. ap (λ o. pool_slot o slot) (same-present manifest s t keeps edge) ∙ h.placed edge job slot seen on) h

  quiet-step : (s t : State) → KeepsDepths s t → IsQuiet (words_of s) (words_of t) → HeldAt s → HeldAt t
  quiet-step s t keeps q h = same-depths s t keeps (quiet-held (pool_of manifest) (present_pool manifest s) (length manifest.builds) (words_of s) (words_of t) q h)

  files-held : (s : State) (ws : Effect) → AllFiles (keys_of ws) → HeldAt s → HeldAt (After s ws)
  files-held s ws files h = quiet-step s (After s ws) (files-depths s ws files) (files-quiet s ws files) h

  mark-held : (s : State) (edge : ℕ) (m : Mark) → is_running_mark (mark_of s edge) ≡ false → is_running_mark m ≡ false → HeldAt s → HeldAt (After s (write (cell.Mark edge) (value.Mark m) ∷ []))
  mark-held s edge m was is h = quiet-step s _ (mark-depths s edge m) (mark-quiet s edge m was is) h

  -- START
  slot-free : (s : State) (pool : Option (ℕ × ℕ)) (slot : Option ℕ) → slot_holder s pool slot ≡ None → (p depth q : ℕ) → pool ≡ Some (p, depth) → slot ≡ Some q → slot_of s p q ≡ None
  slot-free s pool slot h p depth q e k = subst (λ o. slot_holder s (Some (p, depth)) o ≡ None) k (subst (λ o. slot_holder s o slot ≡ None) e h)

  start-held : (jobs edge job : ℕ) (slot : Option ℕ) (s : State) → edge < length manifest.builds → start_refusal manifest jobs edge job slot s ≡ None → HeldAt s → HeldAt (After s (start_effect manifest edge job slot s))
  unfolding start_refusal start_effect
  start-held jobs edge job slot s within acc h =
      let build = build_at manifest.builds edge in
      let pool = pool_of manifest edge in
      let present = present_pool manifest s edge in
      let t1 = first-none (phony_edge build) _ acc in
      let t2 = first-none (halted (is_halted s)) _ t1.1 in
      let t3 = first-none (not_wanted (mark_of s edge)) _ t2.1 in
      let t4 = first-none (blocked (first_blocking manifest.builds s (inputs s build))) _ t3.1 in
      let t5 = first-none (not_dirty (reasons_of manifest.builds s edge)) _ t4.1 in
      let t6 = first-none (no_such_job jobs job) _ t5.1 in
      let t7 = first-none (job_busy (job_of s job)) _ t6.1 in
      let t8 = first-none (pool_slot present slot) _ t7.1 in
      let t9 = first-none (slot_busy (slot_holder s pool slot)) _ t8.1 in
      let seen = newest_stamp manifest.builds s (inputs s build) in
      let r = begins (pool_of manifest) (present_pool manifest s) (length manifest.builds) s edge job slot seen [] tt within t8.0 (wanted-of (mark_of s edge) t3.0) (none-mapped _ (job_of s job) t7.0)
      (slot-free s pool slot (none-mapped _ (slot_holder s pool slot) t9.0)) h in
      let keeps = holding-depths s edge (mark.Running job slot seen) job (Some edge) pool slot [] tt in
      subst (λ ws. HeldAt (After s (write (cell.Mark edge) (value.Mark (mark.Running job slot seen)) ∷ write (cell.Job job) (value.Job (Some edge)) ∷ ws))) (append-nil (write_slot pool slot (Some edge)))
      (same-depths s (After s (holding edge (mark.Running job slot seen) job (Some edge) pool slot [])) keeps r)

  -- WHAT ENDS A COMMAND
  end-held : (edge : ℕ) (m : Mark) (tail : Effect) (s : State) → AllFiles (keys_of tail) → IsRunning (mark_of s edge) → is_running_mark m ≡ false → HeldAt s
      → HeldAt (After s (write (cell.Mark edge) (value.Mark m) ∷ (free_held (pool_of manifest edge) (mark_of s edge) ++ tail)))
  end-held edge m tail s files r off h =
      subst (λ now. HeldAt (After s (write (cell.Mark edge) (value.Mark m) ∷ (free_held (pool_of manifest edge) now ++ tail)))) (sym r.is)
      (same-depths s (After s (holding edge m r.job None (pool_of manifest edge) r.slot tail)) (holding-depths s edge m r.job None (pool_of manifest edge) r.slot tail files)
      (ends (pool_of manifest) (present_pool manifest s) (length manifest.builds) s edge r.job r.slot r.seen m tail files r.is off h))

  finish-held : (edge : ℕ) (stamps : List ℕ) (listing : Listing) (s : State) → finish_refusal manifest edge stamps listing s ≡ None → HeldAt s → HeldAt (After s (finish_effect manifest edge stamps listing s))
  unfolding finish_refusal finish_effect
  finish-held edge stamps listing s acc h =
      let build = build_at manifest.builds edge in
      let outs = outputs_of build in
      let flags = changes build.restat (map (stamp_of s) outs) stamps in
      let t1 = first-none (phony_edge build) _ acc in
      let t2 = first-none (not_running (mark_of s edge)) _ t1.1 in
      let records = write_built build.command (seen_by (mark_of s edge)) outs flags stamps in
      let deps = write_deps build stamps listing in
      end-held edge (mark.Done (where_true flags)) (write_stamps outs stamps ++ (records ++ deps)) s
      (files-both (write_stamps outs stamps) (records ++ deps) (files-given outs stamps)
      (files-both records deps (files-records build.command (seen_by (mark_of s edge)) outs flags stamps) (files-deps build stamps listing)))
      (running-of (mark_of s edge) t2.0) refl h

  fail-held : (edge : ℕ) (stamps : List ℕ) (s : State) → fail_refusal manifest edge stamps s ≡ None → HeldAt s → HeldAt (After s (end_effect manifest edge stamps mark.Failed s))
  unfolding fail_refusal end_effect
  fail-held edge stamps s acc h =
      let build = build_at manifest.builds edge in
      let t1 = first-none (phony_edge build) _ acc in
      let t2 = first-none (not_running (mark_of s edge)) _ t1.1 in
      end-held edge mark.Failed (write_stamps (outputs_of build) stamps) s (files-given (outputs_of build) stamps) (running-of (mark_of s edge) t2.0) refl h

  abort-held : (edge : ℕ) (stamps : List ℕ) (s : State) → abort_refusal manifest edge stamps s ≡ None → HeldAt s → HeldAt (After s (end_effect manifest edge stamps mark.Stopped s))
  unfolding abort_refusal end_effect
  abort-held edge stamps s acc h =
      let build = build_at manifest.builds edge in
      let t1 = first-none (phony_edge build) _ acc in
      let t2 = first-none (not_halted (is_halted s)) _ t1.1 in
      let t3 = first-none (not_running (mark_of s edge)) _ t2.1 in
      end-held edge mark.Stopped (write_stamps (outputs_of build) stamps) s (files-given (outputs_of build) stamps) (running-of (mark_of s edge) t3.0) refl h

  -- CLEAN and PASS
  clean-held : (edge : ℕ) (s : State) → clean_refusal manifest edge s ≡ None → HeldAt s → HeldAt (After s (clean_effect manifest edge s))
  unfolding clean_refusal clean_effect
  clean-held edge s acc h =
      let t1 = first-none (phony_edge (build_at manifest.builds edge)) _ acc in
      let t2 = first-none (not_wanted (mark_of s edge)) _ t1.1 in
      mark-held s edge mark.Clean (wanted-of (mark_of s edge) t2.0) refl h

  pass-held : (edge : ℕ) (s : State) → pass_refusal manifest edge s ≡ None → HeldAt s → HeldAt (After s (pass_effect manifest edge s))
  unfolding pass_refusal pass_effect
  pass-held edge s acc h =
      let t1 = first-none (not_phony (build_at manifest.builds edge) (mark_of s edge)) _ acc in
      let t2 = first-none (not_marked (mark_of s edge)) _ t1.1 in
      let build = build_at manifest.builds edge in
      let changed = pass_changes (mark_of s edge) (inputs s build) (list_any (is_rebuilt manifest.builds s) (inputs s build)) (map (is_missing s) (outputs_of build)) in
      mark-held s edge (mark.Done changed) (marked-of (mark_of s edge) t2.0) refl h

  -- PLAN
  abbrev AllRest : State → Type 0
  AllRest s = (edge : ℕ) → is_running_mark (mark_of s edge) ≡ false

  -- nothing runs before nor after, and all else that is asked is the same
  record Rests (s t : State) : Type 0 where
    rest : AllRest t
    jobs : (job : ℕ) → job_of t job ≡ job_of s job
    slots : (pool place : ℕ) → slot_of t pool place ≡ slot_of s pool place
    depths : KeepsDepths s t

  abbrev NoneRuns : List Mark → Type 0
  NoneRuns [] = Unit {0}
  NoneRuns (m ∷ ms) = (is_running_mark m ≡ false) × NoneRuns ms

  rest-on : (s t : State) → AllRest s → IsQuiet (words_of s) (words_of t) → AllRest t
  rest-on s t all q edge = elim (q.marks edge) [ inl same ↦ ap is_running_mark same ∙ all edge | inr both ↦ both.1 ]

  marks-rest : (s : State) (edges : List ℕ) (marks : List Mark) → NoneRuns marks → AllRest s → Rests s (After s (write_marks edges marks))
  marks-rest s [] marks none all = record { rest = all; jobs = λ job. refl; slots = λ pool place. refl; depths = λ pool. refl }
  marks-rest s (edge ∷ edges) [] none all = record { rest = all; jobs = λ job. refl; slots = λ pool place. refl; depths = λ pool. refl }
  marks-rest s (edge ∷ edges) (m ∷ marks) none all =
      let t = After s (write (cell.Mark edge) (value.Mark m) ∷ []) in
      let q = mark-quiet s edge m (all edge) none.0 in
      let r = marks-rest t edges marks none.1 (rest-on s t all q) in
      record { rest = r.rest; jobs = λ job. r.jobs job ∙ q.jobs job; slots = λ pool place. r.slots pool place ∙ q.slots pool place; depths = λ pool. r.depths pool ∙ mark-depths s edge m pool }

  after-append : (s : State) (xs ys : Effect) → After s (xs ++ ys) ≡ After (After s xs) ys
  after-append s [] ys = refl
  after-append s (x ∷ xs) ys = after-append (After s (x ∷ [])) xs ys

  planned-rest : (s : State) (roots edges : List ℕ) → NoneRuns (map (mark_for manifest.builds s roots) edges)
  planned-rest s roots [] = tt
  planned-rest s roots (edge ∷ edges) = (by (is_wanted manifest.builds s roots edge) (is_through manifest.builds s roots edge), planned-rest s roots edges)
    where
      by : (wanted through : Bool) → is_running_mark (if wanted then mark.Wanted else if through then mark.Through else mark.Idle) ≡ false
      by true through = refl
      by false true = refl
      by false false = refl

  find-none-by : (p : ℕ → Bool) (n a k : ℕ) → a ≤ k → k < a + suc n → (find p (range_with_len (a + 1) n) ≡ None → a < k → p k ≡ false)
      → (b : Bool) → p a ≡ b → cond b (Some a) (find p (range_with_len (a + 1) n)) ≡ None → p k ≡ false
  find-none-by p n a k low high rest true e g =
      let no : Some a ≡ None = g in
      cc
  find-none-by p n a k low high rest false e g = elim (cases_eq a k) [
    | inl same ↦ ap p (sym same) ∙ e
    | inr other ↦ rest g (omega arith)
  ]

  find-none : (p : ℕ → Bool) (n a : ℕ) → find p (range_with_len a n) ≡ None → (k : ℕ) → a ≤ k → k < a + n → p k ≡ false
  find-none p zero a h k low high = absurd (omega arith)
  find-none p (suc n) a h k low high = find-none-by p n a k low high (λ g less. find-none p n (a + 1) g k (omega arith) (omega arith)) (p a) refl h

  plan-held : (targets : List (List ℕ)) (s : State) → option_map of_plan (plan_refusal manifest s targets) ≡ None → HeldAt s
      → HeldAt (After s (write_marks (edge_numbers manifest.builds) (marks_of manifest s targets) ++ write cell.Halted (value.Halted false) ∷ []))
  unfolding plan_refusal marks_of
  plan-held targets s acc h =
      let tests = first-none (still_running manifest.builds s) _ (none-mapped of_plan _ acc) in
      let none : find (is_running s) (edge_numbers manifest.builds) ≡ None = none-mapped _ (find (is_running s) (edge_numbers manifest.builds)) tests.0 in
      let all : AllRest s = λ edge. elim (cases_lt edge (length manifest.builds)) [
        | inl within ↦ find-none (is_running s) (length manifest.builds) 0 none edge (omega arith) (omega arith)
        | inr out ↦ outside edge (λ less. omega arith) (is_running_mark (mark_of s edge)) refl
      ] in
      let roots = producers_in manifest.builds (targets_or manifest.defaults targets) in
      let marks = map (mark_for manifest.builds s roots) (edge_numbers manifest.builds) in
      let writes = write_marks (edge_numbers manifest.builds) marks in
      let clear : Effect = write cell.Halted (value.Halted false) ∷ [] in
      let r = marks-rest s (edge_numbers manifest.builds) marks (planned-rest s roots (edge_numbers manifest.builds)) all in
      let q = files-quiet (After s writes) clear (refl, tt) in
      let t = After (After s writes) clear in
      subst (λ t. HeldAt t) (sym (after-append s writes clear))
      (quiet-step s t (λ pool. files-depths (After s writes) clear (refl, tt) pool ∙ r.depths pool) (record {
        marks = λ edge. inr (all edge, rest-on (After s writes) t r.rest q edge);
        jobs = λ job. q.jobs job ∙ r.jobs job;
        slots = λ pool place. q.slots pool place ∙ r.slots pool place;
      }) h)
    where
      outside : (edge : ℕ) → (edge < length manifest.builds → ⊥) → (b : Bool) → is_running_mark (mark_of s edge) ≡ b → is_running_mark (mark_of s edge) ≡ false
      outside edge out true e =
          let r = running-parts (mark_of s edge) e in
          absurd (out (h.edges edge r.job (record { slot = r.slot; seen = r.seen; is = r.is })))
      outside edge out false e = e

  -- RESIZE
  resize-held : (pool depth : ℕ) (s : State) → resize_refusal manifest pool depth s ≡ None → HeldAt s → HeldAt (After s (resize_effect manifest pool depth))
  resize-held pool depth s acc h =
      let t = After s (resize_effect manifest pool depth) in
      quiet-held (pool_of manifest) (present_pool manifest t) (length manifest.builds) (words_of s) (words_of t) (depth-quiet s pool depth)
      (replaced-held (pool_of manifest) (present_pool manifest s) (present_pool manifest t) (length manifest.builds) (words_of s) (resized-placed manifest pool depth s acc h) h)

  -- EACH EVENT
  edge-held : (s : State) (o : Option ℕ) (r : ℕ → Option Refusal) (e : ℕ → Effect) → of_edge (Some NoSuchEdge) r o ≡ None → ((edge : ℕ) → o ≡ Some edge → r edge ≡ None → HeldAt (After s (e edge))) → HeldAt (After s (of_edge [] e o))
  edge-held s None r e acc each =
      let no : Some NoSuchEdge ≡ None = acc in
      cc
  edge-held s (Some edge) r e acc each = each edge refl acc

  pub event-held : (jobs : ℕ) (s : State) (e : Event) → refusal manifest jobs s e ≡ None → HeldAt s → HeldAt (After s (effect manifest s e))
  unfolding refusal effect
  event-held jobs s (Plan targets) acc h = plan-held targets s acc h
  event-held jobs s (Start out job slot) acc h =
      edge-held s (producer_of manifest.builds out) _ _ acc (λ edge is ok. start-held jobs edge job slot s (producer_of-within out manifest.builds edge is) ok h)
  event-held jobs s (Finish out stamps listing) acc h = edge-held s (producer_of manifest.builds out) _ _ acc (λ edge is ok. finish-held edge stamps listing s ok h)
  event-held jobs s (Fail out stamps) acc h = edge-held s (producer_of manifest.builds out) _ _ acc (λ edge is ok. fail-held edge stamps s ok h)
  event-held jobs s (Abort out stamps) acc h = edge-held s (producer_of manifest.builds out) _ _ acc (λ edge is ok. abort-held edge stamps s ok h)
  event-held jobs s (Clean out) acc h = edge-held s (producer_of manifest.builds out) _ _ acc (λ edge is ok. clean-held edge s ok h)
  event-held jobs s (Pass out) acc h = edge-held s (producer_of manifest.builds out) _ _ acc (λ edge is ok. pass-held edge s ok h)
  event-held jobs s (Touch path stamp) acc h =
      files-held s (write (cell.Stamp path) (value.Stamp stamp) ∷ []) (refl, tt) h
  event-held jobs s Interrupt acc h =
      files-held s (write cell.Halted (value.Halted true) ∷ []) (refl, tt) h
  event-held jobs s (Resize pool depth) acc h = resize-held pool depth s acc h

  -- AT AN OPENING
  not-idle : (job : ℕ) (slot : Option ℕ) (seen : ℕ) (m : Mark) → m ≡ mark.Idle → m ≡ mark.Running job slot seen → ⊥
  not-idle job slot seen m e f = true≢false (sym (ap is_running_mark f) ∙ ap is_running_mark e)

  none-held : (o : Option ℕ) (n : ℕ) → o ≡ None → o ≡ Some n → ⊥
  none-held o n e f =
      let no : None ≡ Some n = sym e ∙ f in
      cc

  opened-held : (s : State) → IsOpened s → HeldAt s
  opened-held s o = record {
    jobs = λ job edge. (λ e. absurd (none-held (job_of s job) edge (o.jobs job) e), λ r. absurd (not-idle job r.slot r.seen (mark_of s edge) (o.marks edge) r.is));
    slots = λ pool place edge. (λ e. absurd (none-held (slot_of s pool place) edge (o.slots pool place) e), λ r. absurd (not-idle r.job (Some place) r.seen (mark_of s edge) (o.marks edge) r.is));
    placed = λ edge job slot seen e. absurd (not-idle job slot seen (mark_of s edge) (o.marks edge) e);
    edges = λ edge job r. absurd (not-idle job r.slot r.seen (mark_of s edge) (o.marks edge) r.is);
  }

pub held-is-running : HeldIsRunning
held-is-running = record { opened = λ manifest s o. opened-held manifest s o; kept = λ manifest jobs s e acc h. event-held manifest jobs s e acc h }
