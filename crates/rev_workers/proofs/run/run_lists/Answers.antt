use Rattle.std.proofs.Common.{◌≡◌, ◌∙◌, ℕ, List, Contains, None, Some, inl, inr, map, slice_get, sym, ap, subst}
use Rattle.std.proofs.lemmas.Result.{IfErr-weaker, IfOk-weaker}
use Rattle.rev_workers.specs.Running.{Covers, HasNumber, HaveSaidBelow, HaveTold, lanes_in, numbers_in, pair_up}
use Rattle.rev_workers.specs.Tracks.{Track}
use Rattle.rev_workers.proofs.Covered.{all-ran, have-said, named-given, nobody-has-said, none-below, stopped-below}
use Rattle.rev_workers.proofs.Said.{all_said, missing-ran, nobody_said, numbers-paired, one_of_each-ran, pair_up-all}
use Rattle.rev_workers.proofs.Told.{told-least, told-no_lanes, told-under}
use Rattle.rev_workers.proofs.run.run_lists.Goals as goal

pub run_halves-done-requires-clause-below : goal.run_halves-done-requires-clause-below
run_halves-done-requires-clause-below g c κs within =
    rw c.in-Ok.ensures (pair_up-all c.args.shared c.args.lanes.items (map (λ v. v.items) c.args.lists.items) c.requires.numbers)

pub run_halves-done-requires-clause-numbers : goal.run_halves-done-requires-clause-numbers
run_halves-done-requires-clause-numbers g c κs within =
    c.deref-4.ensures.value ∙ c.in-Ok-Ok-Ok.ensures ∙ (ap (λ (ts : List Track). map (λ (t : Track). t.number) ts) c.deref-3.ensures.value)
    ∙ sym (numbers-paired c.args.lanes.items (map (λ v. v.items) c.args.lists.items)) ∙ ap numbers_in (sym c.in-Ok.ensures)

pub returns-in_default-clause-said : goal.returns-in_default-clause-said
returns-in_default-clause-said g c =
    IfOk-weaker c.close.result _ _
    (λ desk h. nobody_said c.args.lanes.items (map (λ v. v.items) c.args.lists.items) desk.journal (sym c.deref.ensures.value ∙ c.in_default.ensures.none))
    c.close.ensures.ok

pub returns-in_default-clause-first : goal.returns-in_default-clause-first
returns-in_default-clause-first g c =
    IfErr-weaker c.close.result _ _
    (λ fault h other. nobody-has-said c.args.lanes.items (map (λ v. v.items) c.args.lists.items) fault.desk.journal (sym c.deref.ensures.value ∙ c.in_default.ensures.none))
    c.close.ensures.not_stopped

pub returns-in_default-clause-mismatch : goal.returns-in_default-clause-mismatch
returns-in_default-clause-mismatch g c = IfErr-weaker c.close.result _ _ (λ fault h is. (h is).0) c.close.ensures.mismatch

pub returns-in_default-clause-each : goal.returns-in_default-clause-each
returns-in_default-clause-each g c = IfOk-weaker c.close.result _ _ (λ desk h. h.0) c.close.ensures.ok

-- where nothing began, the least lane of all is named
pub returns-in_default-2-clause-least : goal.returns-in_default-2-clause-least
returns-in_default-2-clause-least g c = λ is.
    let ts = c.args.lanes.items in
    let lists = map (λ v. v.items) c.args.lists.items in
    let journal = c.stopped_at.result.desk.journal in
    subst (λ n. HaveSaidBelow n ts lists journal) (sym c.stopped_at.ensures.lane)
    (none-below c.in-Some.least ts lists journal (λ k t at. c.in-Some.ensures.least k t (ap (λ (xs : List Track). slice_get xs k) c.deref.ensures.value ∙ at)))

pub returns-in_default-jobs_of-clause-least : goal.returns-in_default-jobs_of-clause-least
returns-in_default-jobs_of-clause-least g c = λ is.
    let ts = c.args.lanes.items in
    let lists = map (λ v. v.items) c.args.lists.items in
    let journal = c.stopped_at-in_default-jobs_of.result.desk.journal in
    subst (λ n. HaveSaidBelow n ts lists journal) (sym c.stopped_at-in_default-jobs_of.ensures.lane)
    (none-below c.in-Some.least ts lists journal (λ k t at. c.in-Some.ensures.least k t (ap (λ (xs : List Track). slice_get xs k) c.deref.ensures.value ∙ at)))

pub returns-clause-stopped : goal.returns-clause-stopped
returns-clause-stopped g c =
    let ts = c.args.lanes.items in
    let run = c.run_halves-done.result in
    let paired : numbers_in c.in-Ok.jobs.items ≡ map (λ (t : Track). t.number) ts = ap numbers_in c.in-Ok.ensures ∙ numbers-paired ts (map (λ v. v.items) c.args.lists.items) in
    let least : HasNumber ts c.in-Some.least = subst (λ (xs : List Track). HasNumber xs c.in-Some.least) c.deref.ensures.value c.in-Some.ensures.some in
    IfErr-weaker c.close_done.result _ _
    (λ fault h is. elim (h is) [
      | inl same ↦ subst (HasNumber ts) (sym same) least
      | inr stopped ↦ subst (λ (xs : List ℕ). Contains xs fault.lane) paired
          (named-given run.1 c.in-Ok.jobs.items run.0.items fault.desk.journal fault.lane c.run_halves-done.ensures.ran c.run_halves-done.ensures.stopped stopped)
    ])
    c.close_done.ensures.stopped

pub returns-clause-least : goal.returns-clause-least
returns-clause-least g c =
    let ts = c.args.lanes.items in
    let lists = map (λ v. v.items) c.args.lists.items in
    let run = c.run_halves-done.result in
    let covers : Covers run.1 (pair_up ts lists) run.0.items = rw c.in-Ok.ensures at c.run_halves-done.ensures.ran in
    IfErr-weaker c.close_done.result _ _
    (λ fault h is. elim (h is) [
      | inl same ↦ subst (λ n. HaveSaidBelow n ts lists fault.desk.journal) (sym same)
          (none-below c.in-Some.least ts lists fault.desk.journal (λ k t at. c.in-Some.ensures.least k t (ap (λ (xs : List Track). slice_get xs k) c.deref.ensures.value ∙ at)))
      | inr stopped ↦ stopped-below fault.lane run.1 fault.desk.journal ts lists run.0.items covers stopped
    ])
    c.close_done.ensures.stopped

pub returns-clause-first : goal.returns-clause-first
returns-clause-first g c =
    let ts = c.args.lanes.items in
    let lists = map (λ v. v.items) c.args.lists.items in
    let run = c.run_halves-done.result in
    let covers : Covers run.1 (pair_up ts lists) run.0.items = rw c.in-Ok.ensures at c.run_halves-done.ensures.ran in
    IfErr-weaker c.close_done.result _ _
    (λ fault h other. have-said run.1 fault.desk.journal ts lists run.0.items covers (h other).0 (h other).1)
    c.close_done.ensures.first

pub returns-clause-missing : goal.returns-clause-missing
returns-clause-missing g c =
    let ts = c.args.lanes.items in
    let lists = map (λ v. v.items) c.args.lists.items in
    let run = c.run_halves-done.result in
    let covers : Covers run.1 (pair_up ts lists) run.0.items = rw c.in-Ok.ensures at c.run_halves-done.ensures.ran in
    IfErr-weaker c.close_done.result _ _
    (λ fault h is. missing-ran fault.desk.lanes fault.lane ts lists (lanes_in run.0.items) (all-ran run.1 (pair_up ts lists) run.0.items (h is).0 covers) (h is).1)
    c.close_done.ensures.missing

pub returns-clause-mismatch : goal.returns-clause-mismatch
returns-clause-mismatch g c =
    let ts = c.args.lanes.items in
    let lists = map (λ v. v.items) c.args.lists.items in
    let run = c.run_halves-done.result in
    let covers : Covers run.1 (pair_up ts lists) run.0.items = rw c.in-Ok.ensures at c.run_halves-done.ensures.ran in
    IfErr-weaker c.close_done.result _ _
    (λ fault h is. one_of_each-ran fault.desk.lanes ts lists (lanes_in run.0.items) (all-ran run.1 (pair_up ts lists) run.0.items (h is).0 covers) (h is).1)
    c.close_done.ensures.mismatch

pub returns-clause-each : goal.returns-clause-each
returns-clause-each g c =
    let ts = c.args.lanes.items in
    let lists = map (λ v. v.items) c.args.lists.items in
    let run = c.run_halves-done.result in
    let covers : Covers run.1 (pair_up ts lists) run.0.items = rw c.in-Ok.ensures at c.run_halves-done.ensures.ran in
    IfOk-weaker c.close_done.result _ _
    (λ desk h. one_of_each-ran desk.lanes ts lists (lanes_in run.0.items) (all-ran run.1 (pair_up ts lists) run.0.items h.0 covers) h.1)
    c.close_done.ensures.ok

pub returns-clause-said : goal.returns-clause-said
returns-clause-said g c =
    let ts = c.args.lanes.items in
    let lists = map (λ v. v.items) c.args.lists.items in
    let run = c.run_halves-done.result in
    let covers : Covers run.1 (pair_up ts lists) run.0.items = rw c.in-Ok.ensures at c.run_halves-done.ensures.ran in
    IfOk-weaker c.close_done.result _ _
    (λ desk h. all_said desk.lanes desk.journal ts lists (lanes_in run.0.items) (all-ran run.1 (pair_up ts lists) run.0.items h.0 covers) h.1 h.2)
    c.close_done.ensures.ok

-- WHAT THE GATE WAS TOLD
pub returns-in_default-clause-told : goal.returns-in_default-clause-told
returns-in_default-clause-told g c =
    IfOk-weaker c.close.result _ _
    (λ desk h. told-no_lanes g.G.Gate.told g.G.Gate.answered c.args.gate.now None c.args.lanes.items (map (λ v. v.items) c.args.lists.items) (sym c.deref.ensures.value ∙ c.in_default.ensures.none))
    c.close.ensures.ok

pub returns-in_default-clause-told_first : goal.returns-in_default-clause-told_first
returns-in_default-clause-told_first g c =
    IfErr-weaker c.close.result _ _
    (λ fault h other. told-no_lanes g.G.Gate.told g.G.Gate.answered c.args.gate.now None c.args.lanes.items (map (λ v. v.items) c.args.lists.items) (sym c.deref.ensures.value ∙ c.in_default.ensures.none))
    c.close.ensures.not_stopped

pub returns-in_default-2-clause-told_below : goal.returns-in_default-2-clause-told_below
returns-in_default-2-clause-told_below g c = λ is.
    let ts = c.args.lanes.items in
    let lists = map (λ v. v.items) c.args.lists.items in
    subst (λ n. HaveTold g.G.Gate.told g.G.Gate.answered c.args.gate.now (Some n) (pair_up ts lists)) (sym c.stopped_at.ensures.lane)
    (told-least g.G.Gate.told g.G.Gate.answered c.args.gate.now c.in-Some.least ts lists
    (λ k t at. c.in-Some.ensures.least k t (ap (λ (xs : List Track). slice_get xs k) c.deref.ensures.value ∙ at)))

pub returns-in_default-jobs_of-clause-told_below : goal.returns-in_default-jobs_of-clause-told_below
returns-in_default-jobs_of-clause-told_below g c = λ is.
    let ts = c.args.lanes.items in
    let lists = map (λ v. v.items) c.args.lists.items in
    subst (λ n. HaveTold g.G.Gate.told g.G.Gate.answered c.args.gate.now (Some n) (pair_up ts lists)) (sym c.stopped_at-in_default-jobs_of.ensures.lane)
    (told-least g.G.Gate.told g.G.Gate.answered c.args.gate.now c.in-Some.least ts lists
    (λ k t at. c.in-Some.ensures.least k t (ap (λ (xs : List Track). slice_get xs k) c.deref.ensures.value ∙ at)))

pub returns-clause-told : goal.returns-clause-told
returns-clause-told g c =
    let ts = c.args.lanes.items in
    let lists = map (λ v. v.items) c.args.lists.items in
    let run = c.run_halves-done.result in
    let told : HaveTold g.G.Gate.told g.G.Gate.answered c.args.gate.now run.1 (pair_up ts lists) = rw c.in-Ok.ensures at c.run_halves-done.ensures.told in
    IfOk-weaker c.close_done.result _ _
    (λ desk h. subst (λ o. HaveTold g.G.Gate.told g.G.Gate.answered c.args.gate.now o (pair_up ts lists)) h.0 told)
    c.close_done.ensures.ok

pub returns-clause-told_first : goal.returns-clause-told_first
returns-clause-told_first g c =
    let ts = c.args.lanes.items in
    let lists = map (λ v. v.items) c.args.lists.items in
    let run = c.run_halves-done.result in
    let told : HaveTold g.G.Gate.told g.G.Gate.answered c.args.gate.now run.1 (pair_up ts lists) = rw c.in-Ok.ensures at c.run_halves-done.ensures.told in
    IfErr-weaker c.close_done.result _ _
    (λ fault h other. subst (λ o. HaveTold g.G.Gate.told g.G.Gate.answered c.args.gate.now o (pair_up ts lists)) (h other).0 told)
    c.close_done.ensures.first

pub returns-clause-told_below : goal.returns-clause-told_below
returns-clause-told_below g c =
    let ts = c.args.lanes.items in
    let lists = map (λ v. v.items) c.args.lists.items in
    let run = c.run_halves-done.result in
    let told : HaveTold g.G.Gate.told g.G.Gate.answered c.args.gate.now run.1 (pair_up ts lists) = rw c.in-Ok.ensures at c.run_halves-done.ensures.told in
    IfErr-weaker c.close_done.result _ _
    (λ fault h is. elim (h is) [
      | inl same ↦ subst (λ n. HaveTold g.G.Gate.told g.G.Gate.answered c.args.gate.now (Some n) (pair_up ts lists)) (sym same)
          (told-least g.G.Gate.told g.G.Gate.answered c.args.gate.now c.in-Some.least ts lists
          (λ k t at. c.in-Some.ensures.least k t (ap (λ (xs : List Track). slice_get xs k) c.deref.ensures.value ∙ at)))
      | inr stopped ↦ told-under g.G.Gate.told g.G.Gate.answered c.args.gate.now run.1 fault.lane (pair_up ts lists) stopped.least told
    ])
    c.close_done.ensures.stopped
