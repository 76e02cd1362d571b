-- A file that is touched settles no edge: what is refused for an input that is not made yet stays refused so.
use Rattle.std.proofs.Common.{◌≡◌, ◌∙◌, ◌+◌, ◌≤◌, ◌<◌, ◌&&◌, ℕ, Bool, true, false, cond, not, List, [], ◌∷◌, ◌++◌, map, length, Option, Some, None, is_some, refl, sym, ap, subst, arith, length-append, if◌then◌else◌}
use Rattle.std.specs.Prelude.{nat_lt}
use Rattle.std.specs.List.{position}
use Rattle.std.specs.FinMap.{get}
use Rattle.rev_causal.proofs.Chosen.{last_of-push}
use Rattle.rev_causal.proofs.Store.{get-set_cell}
use Rattle.rev_cells.specs.declared.cell.Cell.{Cell}
use Rattle.rev_cells.specs.declared.cell.Cell.TheVariants as cell
use Rattle.rev_cells.specs.declared.value.DepsRecord.{DepsRecord}
use Rattle.rev_cells.specs.declared.value.Value.TheVariants as value
use Rattle.rev_cells.specs.State.{State, default_or, value_at, deps_in, halted_in, mark_in, is_halted, job_of, mark_of}
use Rattle.rev_cells.specs.Values.{unless_default}
use Rattle.rev_cells.proofs.EntryLemmas.{cells_total, cells_exact, other_cell}
use Rattle.rev_manifest.specs.Manifest.{BuildValue, ManifestValue}
use Rattle.rev_graph.specs.Graph.{outputs_of, pool_of, producer_of}
use Rattle.rev_dirty.specs.declared.input.InputKind.TheVariants.{OnLine, OrderOnly, Listed}
use Rattle.rev_dirty.specs.declared.reason.Reason.{Reason}
use Rattle.rev_dirty.specs.Inputs.{InputValue, an, inputs, first_deps, paths_in}
use Rattle.rev_dirty.specs.Reasons.{holds, reasons_of}
use Rattle.rev_plan.specs.Options.{first_some}
use Rattle.rev_events.specs.declared.event.Event.{Event}
use Rattle.rev_events.specs.declared.event.Event.TheVariants.{Start, Clean, Pass, Touch}
use Rattle.rev_events.specs.declared.refusal.Refusal.{Refusal}
use Rattle.rev_events.specs.declared.refusal.Refusal.TheVariants.{Blocked, NoSuchEdge, NoSuchJob, Paused, PoolSlot}
use Rattle.rev_events.specs.Refusal.{refuse_if, blocked, dirty, halted, is_settled, job_busy, no_such_job, not_dirty, not_marked, not_phony, not_wanted, phony_edge, pool_slot, slot_busy}
use Rattle.rev_events.specs.Edge.{first_blocking, is_waiting, slot_holder}
use Rattle.rev_events.specs.Pools.{present_pool}
use Rattle.rev_events.specs.Kinds.{build_of, start_refusal, clean_refusal, pass_refusal}
use Rattle.rev_events.specs.Machine.{after as state_after, edge_of, effect, of_edge, refusal}
use Rattle.rev_history.specs.Timeline.{accept_refusal, accepted_as, last_of, state_at}
use Rattle.rev_history.proofs.Commands.{accepted_state}
use Rattle.rev_commands.specs.declared.command.Command.{Command}
use Rattle.rev_commands.specs.declared.command.Command.TheVariants as command
use Rattle.rev_desk.specs.declared.reply.Reply.{Reply}
use Rattle.rev_desk.specs.declared.reply.Reply.TheVariants as reply
use Rattle.rev_desk.specs.declared.reply.Entry.{Entry}
use Rattle.rev_desk.specs.Machine.{DeskStateValue, DeskValue, after, answer_on, desk_state_after, desk_state_of, entry_of, least_met, moved_by, moved_on, next_number, refusal_on, reply_by, reply_on, reply_to, target}
use Rattle.rev_desk.specs.Sound.{IsDesk, opening_of, run_of}
use Rattle.rev_workers.specs.Waiting.{is_blocked, is_for_input, is_made, is_plain, is_touch}

-- THE STATE AFTER A TOUCH
abbrev IsNoStamp : Cell → Type 0
IsNoStamp (cell.Stamp path) = ⊥
IsNoStamp _ = Unit {0}

-- all but stamps is the same
abbrev Others : State → State → Type 0
Others s u = (c : Cell) → IsNoStamp c → value_at u c ≡ value_at s c

apart : (c : Cell) (path : List ℕ) → IsNoStamp c → c ≡ cell.Stamp path → ⊥
apart c path other e = subst IsNoStamp e other

touched : (manifest : ManifestValue) (s : State) (path : List ℕ) (stamp : ℕ) → Others s (state_after manifest s (Touch path stamp))
unfolding effect
touched manifest s path stamp c other =
    let v = unless_default (value.Stamp stamp) in
    ap (default_or c) (get-set_cell cells_total cells_exact s (cell.Stamp path) v c ∙ ap (λ b. cond b v (get s c)) (other_cell c (cell.Stamp path) (apart c path other)))

first_deps-same : (s u : State) → Others s u → (paths : List (List ℕ)) → first_deps u paths ≡ first_deps s paths
first_deps-same s u o [] = refl
first_deps-same s u o (p ∷ ps) = ap deps_in (o (cell.Deps p) tt)

inputs-same : (s u : State) → Others s u → (build : BuildValue) → inputs u build ≡ inputs s build
inputs-same s u o build =
    ap (λ (d : Option DepsRecord). map (an OnLine) (build.explicit ++ build.implicit) ++ map (an OrderOnly) build.order_only ++ map (an Listed) (paths_in (if build.keeps_deps then d else None))) (first_deps-same s u o (outputs_of build))

waiting-same : (s u : State) → Others s u → (producer : Option ℕ) → is_waiting u producer ≡ is_waiting s producer
waiting-same s u o producer = λ i. holds (λ edge. not (is_settled (mark_in (o (cell.Mark edge) tt i)))) producer

blocking-same : (s u : State) → Others s u → (builds : List BuildValue) (build : BuildValue) → first_blocking builds u (inputs u build) ≡ first_blocking builds s (inputs s build)
blocking-same s u o builds build =
    ap (first_blocking builds u) (inputs-same s u o build)
    ∙ (λ i. position (λ (input : InputValue). waiting-same s u o (producer_of builds input.path) i) (inputs s build))

-- WHICH REFUSAL COMES FIRST
abbrev NeverBlocked : List (Option Refusal) → Type 0
NeverBlocked os = (p : ℕ) → first_some os ≡ Some (Blocked p) → ⊥

never-none : NeverBlocked []
never-none p h = cc

never-one : (o : Option Refusal) (os : List (Option Refusal)) → ((p : ℕ) → o ≡ Some (Blocked p) → ⊥) → NeverBlocked os → NeverBlocked (o ∷ os)
never-one None os one rest p h = rest p h
never-one (Some r) os one rest p h = one p h

first-at : (a b c : Option Refusal) (k : Option ℕ) (rest rest' : List (Option Refusal)) (p : ℕ) → NeverBlocked rest → first_some (a ∷ b ∷ c ∷ blocked k ∷ rest) ≡ Some (Blocked p) → first_some (a ∷ b ∷ c ∷ blocked k ∷ rest') ≡ Some (Blocked p)
first-at (Some r) b c k rest rest' p never h = h
first-at None (Some r) c k rest rest' p never h = h
first-at None None (Some r) k rest rest' p never h = h
first-at None None None (Some at) rest rest' p never h = h
first-at None None None None rest rest' p never h = absurd (never p h)

apart-if : (b : Bool) (r : Refusal) → ((p : ℕ) → r ≡ Blocked p → ⊥) → (p : ℕ) → refuse_if b r ≡ Some (Blocked p) → ⊥
apart-if true r never p h = never p (cc)
apart-if false r never p h = cc

not_dirty-apart : (rs : List Reason) (p : ℕ) → not_dirty rs ≡ Some (Blocked p) → ⊥
not_dirty-apart [] p h = cc
not_dirty-apart (r ∷ rs) p h = cc

dirty-apart : (rs : List Reason) (p : ℕ) → dirty rs ≡ Some (Blocked p) → ⊥
dirty-apart [] p h = cc
dirty-apart (r ∷ rs) p h = cc

job-apart : (holder : Option ℕ) (p : ℕ) → job_busy holder ≡ Some (Blocked p) → ⊥
job-apart None p h = cc
job-apart (Some edge) p h = cc

slot-apart : (holder : Option ℕ) (p : ℕ) → slot_busy holder ≡ Some (Blocked p) → ⊥
slot-apart None p h = cc
slot-apart (Some edge) p h = cc

pool-apart : (pool : Option (ℕ × ℕ)) (slot : Option ℕ) (p : ℕ) → pool_slot pool slot ≡ Some (Blocked p) → ⊥
pool-apart None None p h = cc
pool-apart None (Some slot) p h = cc
pool-apart (Some pool) None p h = cc
pool-apart (Some pool) (Some slot) p h = apart-if (not (nat_lt slot pool.1)) PoolSlot (λ q e. cc) p h

-- what comes behind the inputs of a start
start-rest : (rs : List Reason) (jobs job : ℕ) (holder : Option ℕ) (pool : Option (ℕ × ℕ)) (slot other : Option ℕ) → NeverBlocked (not_dirty rs ∷ no_such_job jobs job ∷ job_busy holder ∷ pool_slot pool slot ∷ slot_busy other ∷ [])
start-rest rs jobs job holder pool slot other =
    let slots = slot_busy other ∷ [] in
    let pools = pool_slot pool slot ∷ slots in
    let busy = job_busy holder ∷ pools in
    let none = no_such_job jobs job ∷ busy in
    let never : NeverBlocked slots = never-one (slot_busy other) [] (slot-apart other) never-none in
    let never-pools : NeverBlocked pools = never-one (pool_slot pool slot) slots (pool-apart pool slot) never in
    let never-busy : NeverBlocked busy = never-one (job_busy holder) pools (job-apart holder) never-pools in
    let never-jobs : NeverBlocked none = never-one (no_such_job jobs job) busy (λ p h. apart-if (not (nat_lt job jobs)) NoSuchJob (λ q e. cc) p h) never-busy in
    never-one (not_dirty rs) none (not_dirty-apart rs) never-jobs

-- EACH KIND
start-kept : (manifest : ManifestValue) (jobs edge job : ℕ) (slot : Option ℕ) (s u : State) (p : ℕ) → Others s u → start_refusal manifest jobs edge job slot s ≡ Some (Blocked p) → start_refusal manifest jobs edge job slot u ≡ Some (Blocked p)
unfolding start_refusal
start-kept manifest jobs edge job slot s u p o h =
    let build = build_of manifest edge in
    let rest : State → List (Option Refusal) = λ x. not_dirty (reasons_of manifest.builds x edge) ∷ no_such_job jobs job ∷ job_busy (job_of x job) ∷ pool_slot (present_pool manifest x edge) slot ∷ slot_busy (slot_holder x (pool_of manifest edge) slot) ∷ [] in
    let never : NeverBlocked (rest s) = start-rest (reasons_of manifest.builds s edge) jobs job (job_of s job) (present_pool manifest s edge) slot (slot_holder s (pool_of manifest edge) slot) in
    (λ i. first_some (phony_edge build ∷ halted (halted_in (o cell.Halted tt i)) ∷ not_wanted (mark_in (o (cell.Mark edge) tt i)) ∷ blocked (blocking-same s u o manifest.builds build i) ∷ rest u))
    ∙ first-at (phony_edge build) (halted (is_halted s)) (not_wanted (mark_of s edge)) (first_blocking manifest.builds s (inputs s build)) (rest s) (rest u) p never h

clean-kept : (manifest : ManifestValue) (edge : ℕ) (s u : State) (p : ℕ) → Others s u → clean_refusal manifest edge s ≡ Some (Blocked p) → clean_refusal manifest edge u ≡ Some (Blocked p)
unfolding clean_refusal
clean-kept manifest edge s u p o h =
    let build = build_of manifest edge in
    let rest : State → List (Option Refusal) = λ x. dirty (reasons_of manifest.builds x edge) ∷ [] in
    let never : NeverBlocked (rest s) = never-one (dirty (reasons_of manifest.builds s edge)) [] (dirty-apart (reasons_of manifest.builds s edge)) never-none in
    (λ i. first_some (phony_edge build ∷ not_wanted (mark_in (o (cell.Mark edge) tt i)) ∷ blocked (blocking-same s u o manifest.builds build i) ∷ rest u))
    ∙ first-at None (phony_edge build) (not_wanted (mark_of s edge)) (first_blocking manifest.builds s (inputs s build)) (rest s) (rest u) p never h

pass-kept : (manifest : ManifestValue) (edge : ℕ) (s u : State) (p : ℕ) → Others s u → pass_refusal manifest edge s ≡ Some (Blocked p) → pass_refusal manifest edge u ≡ Some (Blocked p)
unfolding pass_refusal
pass-kept manifest edge s u p o h =
    let build = build_of manifest edge in
    (λ i. first_some (not_phony build (mark_in (o (cell.Mark edge) tt i)) ∷ not_marked (mark_in (o (cell.Mark edge) tt i)) ∷ blocked (blocking-same s u o manifest.builds build i) ∷ []))
    ∙ first-at None (not_phony build (mark_of s edge)) (not_marked (mark_of s edge)) (first_blocking manifest.builds s (inputs s build)) [] [] p never-none h

at-edge : (x : Option ℕ) (f g : ℕ → Option Refusal) (p : ℕ) → ((edge : ℕ) → f edge ≡ Some (Blocked p) → g edge ≡ Some (Blocked p)) → of_edge (Some NoSuchEdge) f x ≡ Some (Blocked p) → of_edge (Some NoSuchEdge) g x ≡ Some (Blocked p)
at-edge None f g p kept h = h
at-edge (Some edge) f g p kept h = kept edge h

event-kept : (manifest : ManifestValue) (jobs : ℕ) (s u : State) → Others s u → (e : Event) (p : ℕ) → is_made (command.Event e) ≡ true → refusal manifest jobs s e ≡ Some (Blocked p) → refusal manifest jobs u e ≡ Some (Blocked p)
unfolding refusal
event-kept manifest jobs s u o (Start out job slot) p made h =
    at-edge (edge_of manifest out) (λ edge. start_refusal manifest jobs edge job slot s) (λ edge. start_refusal manifest jobs edge job slot u) p (λ edge. start-kept manifest jobs edge job slot s u p o) h
event-kept manifest jobs s u o (Clean out) p made h =
    at-edge (edge_of manifest out) (λ edge. clean_refusal manifest edge s) (λ edge. clean_refusal manifest edge u) p (λ edge. clean-kept manifest edge s u p o) h
event-kept manifest jobs s u o (Pass out) p made h =
    at-edge (edge_of manifest out) (λ edge. pass_refusal manifest edge s) (λ edge. pass_refusal manifest edge u) p (λ edge. pass-kept manifest edge s u p o) h
event-kept manifest jobs s u o e p made h = cc

-- NUMBERS OF EVENTS
few-moved : (s : DeskStateValue) (n k : ℕ) (m : Option ℕ) (c : Command) → last_of s.history.accepted ≤ k → n ≡ k + 1 → last_of (moved_on s n m c).history.accepted ≤ n
few-moved s n k m (command.Event e) h is = omega (arith, last_of-push s.history.accepted n e (omega arith))
few-moved s n k m (command.Undo w) h is = omega arith
few-moved s n k m (command.Redo w) h is = omega arith
few-moved s n k m command.Back h is = omega arith
few-moved s n k m (command.Cone w) h is = omega arith
few-moved s n k m (command.Break p) h is = omega arith
few-moved s n k m (command.Unbreak b) h is = omega arith
few-moved s n k m command.Continue h is = omega arith

few-after : (s : DeskStateValue) (n k : ℕ) (m : Option ℕ) (c : Command) → last_of s.history.accepted ≤ k → n ≡ k + 1 → last_of (desk_state_after s n m c).history.accepted ≤ n
few-after s n k m c h is =
    elim (refusal_on s m c) as (λ r. last_of (moved_by s (moved_on s n m c) r).history.accepted ≤ n) [ None ↦ few-moved s n k m c h is | Some r ↦ omega arith ]

few-step : (d : DeskValue) (lane : ℕ) (c : Command) → last_of d.history.accepted ≤ length d.journal → last_of (after d lane c).history.accepted ≤ length (after d lane c).journal
few-step d lane c h =
    let few : last_of (after d lane c).history.accepted ≤ next_number d = few-after (desk_state_of d) (next_number d) (length d.journal) (target d.journal c) c h refl in
    omega (arith, few, length-append d.journal (entry_of d lane c ∷ []))

few-run : (d : DeskValue) (es : List Entry) → last_of d.history.accepted ≤ length d.journal → last_of (run_of d es).history.accepted ≤ length (run_of d es).journal
few-run d [] h = h
few-run d (e ∷ es) h = few-run (after d e.lane e.command) es (few-step d e.lane e.command h)

-- no accepted event has the number of the next entry, or one above
last-below : (d : DeskValue) → IsDesk d → last_of d.history.accepted < next_number d
last-below d h =
    let few : last_of d.history.accepted ≤ length d.journal = subst (λ (x : DeskValue). last_of x.history.accepted ≤ length x.journal) h.led (few-run (opening_of d) d.journal (omega arith)) in
    omega (arith, few)

-- THE DESK AFTER A TOUCH
plain-by : (paused : Bool) (r : Option Refusal) (met : Option ℕ) (n : ℕ) → is_plain (reply_by (reply.Accepted n met) (if paused then Some Paused else r)) ≡ true → (paused ≡ false) × (r ≡ None) × (met ≡ None)
plain-by true r met n h = cc
plain-by false None None n h = (refl, refl, refl)
plain-by false None (Some b) n h = cc
plain-by false (Some x) met n h = cc

refused-by : (paused : Bool) (r : Option Refusal) (met : Option ℕ) (n p : ℕ) → reply_by (reply.Accepted n met) (if paused then Some Paused else r) ≡ reply.Refused (Blocked p) → r ≡ Some (Blocked p)
refused-by true r met n p h = cc
refused-by false None met n p h = cc
refused-by false (Some x) met n p h = cc

desk_state-touched : (s : DeskStateValue) (n : ℕ) (m : Option ℕ) (e : Event) → s.paused ≡ false → accept_refusal s.history e ≡ None → least_met s.history.manifest e s.breaks ≡ None
    → desk_state_after s n m (command.Event e) ≡ record s { history = accepted_as n e s.history; paused = false }
desk_state-touched s n m e going none met =
    ap (moved_by s (moved_on s n m (command.Event e))) (ap (λ b. if b then Some Paused else accept_refusal s.history e) going ∙ none)
    ∙ ap (λ (b : Option ℕ). record s { history = accepted_as n e s.history; paused = is_some b }) met

refused-now : (s : DeskStateValue) (n : ℕ) (m : Option ℕ) (e : Event) (r : Refusal) → s.paused ≡ false → accept_refusal s.history e ≡ Some r → reply_on s n m (command.Event e) ≡ reply.Refused r
refused-now s n m e r going is =
    ap (reply_by (answer_on s n m (command.Event e))) (ap (λ b. if b then Some Paused else accept_refusal s.history e) going ∙ is)

both-true : (a b : Bool) → (a && b) ≡ true → (a ≡ true) × (b ≡ true)
both-true true b h = (refl, h)
both-true false b h = cc

blocked-is : (r : Reply) → is_blocked r ≡ true → (p : ℕ) × (r ≡ reply.Refused (Blocked p))
blocked-is (reply.Refused (Blocked p)) h = (p, refl)
blocked-is r h = cc

event-touched : (d : DeskValue) (lane : ℕ) (path : List ℕ) (stamp : ℕ) (e : Event) (p : ℕ) → IsDesk d → is_plain (reply_to d (command.Event (Touch path stamp))) ≡ true → is_made (command.Event e) ≡ true
    → reply_to d (command.Event e) ≡ reply.Refused (Blocked p) → reply_to (after d lane (command.Event (Touch path stamp))) (command.Event e) ≡ reply.Refused (Blocked p)
event-touched d lane path stamp e p desk plain made is =
    let t = Touch path stamp in
    let n = next_number d in
    let next = after d lane (command.Event t) in
    let parts = plain-by d.paused (accept_refusal d.history t) (least_met d.history.manifest t d.breaks) n plain in
    let was : accept_refusal d.history e ≡ Some (Blocked p) = refused-by d.paused (accept_refusal d.history e) (least_met d.history.manifest e d.breaks) n p is in
    let state = state_at d.history in
    let kept : refusal d.history.manifest d.history.jobs (state_after d.history.manifest state t) e ≡ Some (Blocked p) = event-kept d.history.manifest d.history.jobs state (state_after d.history.manifest state t) (touched d.history.manifest state path stamp) e p made was in
    let now : accept_refusal (accepted_as n t d.history) e ≡ Some (Blocked p) = ap (λ s. refusal d.history.manifest d.history.jobs s e) (accepted_state d.history n t desk.history (last-below d desk)) ∙ kept in
    ap (λ (s : DeskStateValue). reply_on s (next_number next) (target next.journal (command.Event e)) (command.Event e)) (desk_state-touched (desk_state_of d) n (target d.journal (command.Event t)) t parts.0 parts.1 parts.2)
    ∙ refused-now (record (desk_state_of d) { history = accepted_as n t d.history; paused = false }) (next_number next) (target next.journal (command.Event e)) e (Blocked p) refl now

command-touched : (d : DeskValue) (lane : ℕ) (path : List ℕ) (stamp : ℕ) (c : Command) (p : ℕ) → IsDesk d → is_plain (reply_to d (command.Event (Touch path stamp))) ≡ true → is_made c ≡ true
    → reply_to d c ≡ reply.Refused (Blocked p) → reply_to (after d lane (command.Event (Touch path stamp))) c ≡ reply.Refused (Blocked p)
command-touched d lane path stamp (command.Event e) p desk plain made is = event-touched d lane path stamp e p desk plain made is
command-touched d lane path stamp c p desk plain made is = cc

waits-on : (d : DeskValue) (lane : ℕ) (path : List ℕ) (stamp : ℕ) (c : Command) → IsDesk d → is_plain (reply_to d (command.Event (Touch path stamp))) ≡ true → is_for_input c (reply_to d c) ≡ true
    → reply_to (after d lane (command.Event (Touch path stamp))) c ≡ reply_to d c
waits-on d lane path stamp c desk plain is =
    let both = both-true (is_made c) (is_blocked (reply_to d c)) is in
    let at = blocked-is (reply_to d c) both.1 in
    command-touched d lane path stamp c at.0 desk plain both.0 at.1 ∙ sym at.1

-- after a touch that meets no break, a command that waits for an input has the reply that it had
pub touch-kept : (d : DeskValue) (lane : ℕ) (t c : Command) → IsDesk d → is_touch t ≡ true → is_plain (reply_to d t) ≡ true → is_for_input c (reply_to d c) ≡ true → reply_to (after d lane t) c ≡ reply_to d c
touch-kept d lane (command.Event (Touch path stamp)) c desk touch plain is = waits-on d lane path stamp c desk plain is
touch-kept d lane t c desk touch plain is = cc
