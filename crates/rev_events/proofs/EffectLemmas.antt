-- What the writes of each kind come to.
use Rattle.std.proofs.Common.{◌≡◌, ℕ, ◌==◌, Bool, true, false, List, [], ◌∷◌, ◌++◌, map, length, Option, Some, None, refl, sym, ap, subst, ◌∙◌, arith, true≢false}
use Rattle.std.specs.List.{range_with_len}
use Rattle.std.proofs.lemmas.Bool.{eqb-true}
use Rattle.std.proofs.lemmas.List.{length-map}
use Rattle.rev_manifest.specs.Manifest.{BuildValue, ManifestValue}
use Rattle.rev_graph.specs.Graph.{build_at, outputs_of, pool_of}
use Rattle.rev_cells.specs.declared.cell.Cell.{Cell}
use Rattle.rev_cells.specs.declared.cell.Cell.TheVariants as cell
use Rattle.rev_cells.specs.declared.mark.Mark.{Mark}
use Rattle.rev_cells.specs.declared.mark.Mark.TheVariants as mark
use Rattle.rev_cells.specs.declared.value.Value.{Value}
use Rattle.rev_cells.specs.declared.value.Value.TheVariants as value
use Rattle.rev_cells.specs.State.{State, mark_of, stamp_of}
use Rattle.rev_dirty.specs.Inputs.{InputValue, inputs}
use Rattle.rev_dirty.specs.Reasons.{newest_stamp}
use Rattle.rev_plan.specs.Plan.{edge_numbers, marks_of, plan_refusal}
use Rattle.rev_events.specs.declared.event.Event.{Event}
use Rattle.rev_events.specs.declared.event.Event.TheVariants.{Plan, Finish}
use Rattle.rev_events.specs.declared.event.Listing.{Listing}
use Rattle.rev_events.specs.declared.event.Listing.TheVariants.{Nothing, Depfile, Paths}
use Rattle.rev_events.specs.Edge.{Adds, Effect, changes, free_held, pass_changes, seen_by, where_true, write, write_built, write_deps, write_slot, write_stamps}
use Rattle.rev_events.specs.Kinds.{start_effect, finish_effect, finish_refusal, end_effect}
use Rattle.rev_events.specs.Machine.{edge_of, effect, refusal, write_marks}
use Rattle.rev_events.specs.Refusal.{HasNoFault, bad_depfile, is_wanted_mark, not_running, of_plan, phony_edge, unexpected_listing, wrong_outputs}
use Rattle.rev_events.proofs.AddsLemmas.{adds-more, range-length-of}
use Rattle.rev_events.proofs.TestLemmas.{first-none, none-mapped}

-- the first of all writes
from-none : (old new : List (Cell × Value)) (x : Effect) → old ≡ [] → Adds old new x → Adds [] new x
from-none old new x is h = subst (λ ws. Adds ws new x) is h

pub start-adds : (manifest : ManifestValue) (edge job : ℕ) (slot : Option ℕ) (state : State) (o a b c : List (Cell × Value)) (pool : Option (ℕ × ℕ)) (seen : ℕ)
    → o ≡ [] → pool ≡ pool_of manifest edge → seen ≡ newest_stamp manifest.builds state (inputs state (build_at manifest.builds edge))
    → Adds o a (write (cell.Mark edge) (value.Mark (mark.Running job slot seen)) ∷ []) → Adds a b (write (cell.Job job) (value.Job (Some edge)) ∷ []) → Adds b c (write_slot pool slot (Some edge))
    → Adds [] c (start_effect manifest edge job slot state)
unfolding start_effect
start-adds manifest edge job slot state o a b c pool seen none pools stamps one two three =
    let all = adds-more o a c (write (cell.Mark edge) (value.Mark (mark.Running job slot seen)) ∷ []) (write (cell.Job job) (value.Job (Some edge)) ∷ write_slot pool slot (Some edge)) one
    (adds-more a b c (write (cell.Job job) (value.Job (Some edge)) ∷ []) (write_slot pool slot (Some edge)) two three) in
    from-none o c _ none
    (subst (λ (ws : Effect). Adds o c ws)
    (λ k. write (cell.Mark edge) (value.Mark (mark.Running job slot (stamps k))) ∷ write (cell.Job job) (value.Job (Some edge)) ∷ write_slot (pools k) slot (Some edge)) all)

pub finish-adds : (manifest : ManifestValue) (edge : ℕ) (stamps : List ℕ) (listing : Listing) (state : State) (o a b c d e : List (Cell × Value)) (outputs : List (List ℕ)) (flags : List Bool) (changed : List ℕ)
    → o ≡ [] → outputs ≡ outputs_of (build_at manifest.builds edge) → flags ≡ changes (build_at manifest.builds edge).restat (map (stamp_of state) outputs) stamps → changed ≡ where_true flags
    → Adds o a (write (cell.Mark edge) (value.Mark (mark.Done changed)) ∷ []) → Adds a b (free_held (pool_of manifest edge) (mark_of state edge)) → Adds b c (write_stamps outputs stamps)
    → Adds c d (write_built (build_at manifest.builds edge).command (seen_by (mark_of state edge)) outputs flags stamps) → Adds d e (write_deps (build_at manifest.builds edge) stamps listing)
    → Adds [] e (finish_effect manifest edge stamps listing state)
unfolding finish_effect
finish-adds manifest edge stamps listing state o a b c d e outputs flags changed none outs flagged chosen one two three four five =
    let build = build_at manifest.builds edge in
    let free = free_held (pool_of manifest edge) (mark_of state edge) in
    let deps = write_deps build stamps listing in
    let records = write_built build.command (seen_by (mark_of state edge)) outputs flags stamps in
    let all = adds-more o a e (write (cell.Mark edge) (value.Mark (mark.Done changed)) ∷ []) (free ++ (write_stamps outputs stamps ++ (records ++ deps))) one
    (adds-more a b e free (write_stamps outputs stamps ++ (records ++ deps)) two
    (adds-more b c e (write_stamps outputs stamps) (records ++ deps) three (adds-more c d e records deps four five))) in
    let flags-are : flags ≡ changes build.restat (map (stamp_of state) (outputs_of build)) stamps = flagged ∙ ap (λ (ps : List (List ℕ)). changes build.restat (map (stamp_of state) ps) stamps) outs in
    from-none o e _ none
    (subst (λ (ws : Effect). Adds o e ws)
    (λ k. write (cell.Mark edge) (value.Mark (mark.Done ((chosen ∙ ap where_true flags-are) k)))
    ∷ (free ++ (write_stamps (outs k) stamps ++ (write_built build.command (seen_by (mark_of state edge)) (outs k) (flags-are k) stamps ++ deps)))) all)

pub end-adds : (manifest : ManifestValue) (edge : ℕ) (stamps : List ℕ) (ended : Mark) (state : State) (o a b c : List (Cell × Value)) (outputs : List (List ℕ)) → o ≡ [] → outputs ≡ outputs_of (build_at manifest.builds edge)
    → Adds o a (write (cell.Mark edge) (value.Mark ended) ∷ []) → Adds a b (free_held (pool_of manifest edge) (mark_of state edge)) → Adds b c (write_stamps outputs stamps) → Adds [] c (end_effect manifest edge stamps ended state)
unfolding end_effect
end-adds manifest edge stamps ended state o a b c outputs none outs one two three =
    let free = free_held (pool_of manifest edge) (mark_of state edge) in
    let all = adds-more o a c (write (cell.Mark edge) (value.Mark ended) ∷ []) (free ++ write_stamps outputs stamps) one (adds-more a b c free (write_stamps outputs stamps) two three) in
    from-none o c _ none (subst (λ (ws : Effect). Adds o c ws) (λ k. write (cell.Mark edge) (value.Mark ended) ∷ (free ++ write_stamps (outs k) stamps)) all)

pub marks-length : (manifest : ManifestValue) (state : State) (targets : List (List ℕ)) → length (marks_of manifest state targets) ≡ length manifest.builds
unfolding marks_of
marks-length manifest state targets = length-map (edge_numbers manifest.builds) _ ∙ range-length-of (length manifest.builds)

pub marks-few : (manifest : ManifestValue) (state : State) (targets : List (List ℕ)) (marks : List Mark) → marks ≡ marks_of manifest state targets → length marks ≡ length manifest.builds
marks-few manifest state targets marks are = ap (λ (ms : List Mark). length ms) are ∙ marks-length manifest state targets

pub marks-add : (o a b : List (Cell × Value)) (marks : List Mark) → o ≡ []
    → Adds o a (write_marks (range_with_len 0 (length marks)) marks) → Adds a b (write cell.Halted (value.Halted false) ∷ [])
    → Adds [] b (write_marks (range_with_len 0 (length marks)) marks ++ write cell.Halted (value.Halted false) ∷ [])
marks-add o a b marks none one two =
    from-none o b _ none (adds-more o a b (write_marks (range_with_len 0 (length marks)) marks) (write cell.Halted (value.Halted false) ∷ []) one two)

pub plan-adds : (manifest : ManifestValue) (state : State) (targets : List (List ℕ)) (b : List (Cell × Value)) (marks : List Mark) → marks ≡ marks_of manifest state targets
    → Adds [] b (write_marks (range_with_len 0 (length marks)) marks ++ write cell.Halted (value.Halted false) ∷ []) → Adds [] b (effect manifest state (Plan targets))
unfolding effect
plan-adds manifest state targets b marks are all =
    let many = marks-few manifest state targets marks are in
    subst (λ (ws : Effect). Adds [] b ws) (λ k. write_marks (range_with_len 0 (many k)) (are k) ++ (write cell.Halted (value.Halted false) ∷ [])) all

-- WHAT ACCEPTANCE SAYS
pub plan-accepted : (manifest : ManifestValue) (jobs : ℕ) (state : State) (e : Event) (targets : List (List ℕ)) → e ≡ Plan targets → refusal manifest jobs state e ≡ None → plan_refusal manifest state targets ≡ None
unfolding refusal
plan-accepted manifest jobs state e targets is acc = none-mapped of_plan (plan_refusal manifest state targets) (sym (ap (refusal manifest jobs state) is) ∙ acc)

no-fault : (build : BuildValue) (listing : Listing) → bad_depfile build listing ≡ None → HasNoFault (outputs_of build) listing
no-fault build Nothing h = tt
no-fault build (Depfile text) h = none-mapped _ _ h
no-fault build (Paths paths) h = tt

pub finish-accepted : (manifest : ManifestValue) (jobs : ℕ) (state : State) (e : Event) (out stamps : List ℕ) (listing : Listing) (edge : ℕ) → e ≡ Finish out stamps listing → edge_of manifest out ≡ Some edge
    → refusal manifest jobs state e ≡ None → HasNoFault (outputs_of (build_at manifest.builds edge)) listing
unfolding refusal finish_refusal
finish-accepted manifest jobs state e out stamps listing edge is named acc =
    let build = build_at manifest.builds edge in
    let at : refusal manifest jobs state (Finish out stamps listing) ≡ None = sym (ap (refusal manifest jobs state) is) ∙ acc in
    let tests : finish_refusal manifest edge stamps listing state ≡ None = rw named at at in
    let t1 = first-none (phony_edge build) _ tests in
    let t2 = first-none (not_running (mark_of state edge)) _ t1.1 in
    let t3 = first-none (wrong_outputs build stamps) _ t2.1 in
    let t4 = first-none (unexpected_listing build listing) _ t3.1 in
    let t5 = first-none (bad_depfile build listing) _ t4.1 in
    no-fault build listing t5.0

-- PASS
pub pass-none : (m : Mark) (all : List InputValue) (rebuilt : Bool) (missing : List Bool) → is_wanted_mark m ≡ false → pass_changes m all rebuilt missing ≡ []
pass-none m all rebuilt missing h = rw h refl

pub pass-alone : (m : Mark) (all : List InputValue) (rebuilt : Bool) (missing : List Bool) → is_wanted_mark m ≡ true → (length all == 0) ≡ true → pass_changes m all rebuilt missing ≡ where_true missing
pass-alone m [] rebuilt missing h e = rw h refl
pass-alone m (input ∷ all) rebuilt missing h e =
    let none : length (input ∷ all) ≡ 0 = eqb-true (length (input ∷ all)) 0 e in
    absurd (omega arith)

pub pass-all : (m : Mark) (all : List InputValue) (rebuilt : Bool) (missing : List Bool) → is_wanted_mark m ≡ true → (length all == 0) ≡ false → rebuilt ≡ true → pass_changes m all rebuilt missing ≡ range_with_len 0 (length missing)
pass-all m [] rebuilt missing h e r = absurd (true≢false e)
pass-all m (input ∷ all) rebuilt missing h e r = rw (h, r) refl

pub pass-still : (m : Mark) (all : List InputValue) (rebuilt : Bool) (missing : List Bool) → is_wanted_mark m ≡ true → (length all == 0) ≡ false → rebuilt ≡ false → pass_changes m all rebuilt missing ≡ []
pass-still m [] rebuilt missing h e r = absurd (true≢false e)
pass-still m (input ∷ all) rebuilt missing h e r = rw (h, r) refl
