use Rattle.std.proofs.Common.{◌≡◌, ◌∙◌, ℕ, List, None, Result, Ok, Err, Some, IfErr, IfSome, Contains, slice_get, inr, sym, ap, subst}
use Rattle.std.proofs.lemmas.Result.{IfErr-weaker, IfOk-weaker}
use Rattle.rev_desk.specs.declared.reply.Entry.{Entry}
use Rattle.rev_desk.specs.Machine.{DeskValue}
use Rattle.rev_workers.specs.declared.fault.CloseFault.{CloseFault}
use Rattle.rev_workers.specs.Tracks.{Track}
use Rattle.rev_workers.specs.Closing.{AreStated, IsMissing, IsOneOfEach, left_by}
use Rattle.rev_workers.specs.Running.{AreConfirmed, DoneValue, IsConfirmed, IsLeastStopped, IsUnder, done_numbers, lanes_in}
use Rattle.rev_workers.proofs.Closed.{closed-ok, where-none}
use Rattle.rev_workers.proofs.Covered.{least-stopped, none-lesser}
use Rattle.rev_workers.proofs.Surveyed.{all-stated}
use Rattle.rev_workers.proofs.run.close_done.Goals as goal

-- what holds of a desk holds of that which comes back with a fault
of-left : (r : Result DeskValue CloseFault) (desk : DeskValue) (P : DeskValue → Type 0) → left_by r ≡ desk → P desk → IfErr r (λ fault. P fault.desk)
of-left (Ok x) desk P is h = tt
of-left (Err fault) desk P is h = subst P (sym is) h

pub returns-in-Some-clause-stopped : goal.returns-in-Some-clause-stopped
returns-in-Some-clause-stopped g c = λ is.
    let u = c.survey_of-found.result.unconfirmed in
    let ds = c.args.done.items in
    let journal = c.stopped_at.result.desk.journal in
    let same : c.journal.result.now ≡ journal = c.journal.ensures.journal ∙ ap (λ (d : DeskValue). d.journal) (c.desk.ensures.desk ∙ sym c.stopped_at.ensures.desk) in
    let among : IfSome u (λ m. Contains (done_numbers ds) m) = subst (λ (es : List DoneValue). IfSome u (λ m. Contains (done_numbers es) m)) c.deref.ensures.value c.survey_of-found.ensures.among in
    let under : (k : ℕ) (d : DoneValue) → slice_get ds k ≡ Some d → IsUnder u d.lane.number → IsConfirmed journal d = λ k d at less.
    subst (λ (es : List Entry). IsConfirmed es d) same (c.survey_of-found.ensures.confirmed k d (ap (λ (xs : List DoneValue). slice_get xs k) c.deref.ensures.value ∙ at) less) in
    inr (subst (λ n. IsLeastStopped c.args.stopped ds journal n) (sym c.stopped_at.ensures.lane)
    (least-stopped c.args.stopped u ds journal c.in-Some.lane (sym c.lesser-stopped.ensures ∙ c.in-Some.is) among under))

pub returns-clause-first : goal.returns-clause-first
returns-clause-first g c =
    let none = none-lesser c.args.stopped c.survey_of-found.result.unconfirmed (sym c.lesser-stopped.ensures ∙ c.in_default.is) in
    let ds = c.args.done.items in
    let journal = c.args.held.desk.journal in
    let same : c.journal.result.now ≡ journal = c.journal.ensures.journal ∙ ap (λ (d : DeskValue). d.journal) c.desk.ensures.desk in
    let confirmed : AreConfirmed journal ds = λ k d at.
    subst (λ (es : List Entry). IsConfirmed es d) same
    (c.survey_of-found.ensures.confirmed k d (ap (λ (xs : List DoneValue). slice_get xs k) c.deref.ensures.value ∙ at) (subst (λ o. IsUnder o d.lane.number) (sym none.1) tt)) in
    IfErr-weaker c.close_by.result _ _ (λ fault h other. (none.0, h))
    (of-left c.close_by.result c.args.held.desk (λ (d : DeskValue). AreConfirmed d.journal ds) c.close_by.ensures.desk confirmed)

pub returns-clause-missing : goal.returns-clause-missing
returns-clause-missing g c =
    let none = none-lesser c.args.stopped c.survey_of-found.result.unconfirmed (sym c.lesser-stopped.ensures ∙ c.in_default.is) in
    IfErr-weaker c.close_by.result _ _
    (λ fault h is. (none.0, subst (λ (ts : List Track). IsMissing fault.desk.lanes ts fault.lane) c.in-Some-lanes_of.ensures (h is)))
    c.close_by.ensures.missing

pub returns-clause-mismatch : goal.returns-clause-mismatch
returns-clause-mismatch g c =
    let none = none-lesser c.args.stopped c.survey_of-found.result.unconfirmed (sym c.lesser-stopped.ensures ∙ c.in_default.is) in
    IfErr-weaker c.close_by.result _ _
    (λ fault h is. (none.0, subst (λ (ts : List Track). IsOneOfEach fault.desk.lanes ts) c.in-Some-lanes_of.ensures (h is).0))
    c.close_by.ensures.mismatch

pub returns-clause-ok : goal.returns-clause-ok
returns-clause-ok g c =
    let none = none-lesser c.args.stopped c.survey_of-found.result.unconfirmed (sym c.lesser-stopped.ensures ∙ c.in_default.is) in
    let ds = c.args.done.items in
    let d = c.args.held.desk in
    let m = c.survey_of-found.result.misstated in
    let same = c.in-Some-lanes_of.ensures in
    let journal : c.journal.result.now ≡ d.journal = c.journal.ensures.journal ∙ ap (λ (x : DeskValue). x.journal) c.desk.ensures.desk in
    let stated : m ≡ None → AreStated d.lanes d.journal (lanes_in ds) = λ is.
    subst (λ (es : List Entry). AreStated d.lanes es (lanes_in ds)) journal
    (subst (λ (xs : List DoneValue). AreStated d.lanes c.journal.result.now (lanes_in xs)) c.deref.ensures.value
    (all-stated d.lanes c.journal.result.now c.deref.result.now (c.survey_of-found.ensures.stated none.1 is))) in
    let ok = closed-ok c.close_by.result d c.in-Some-lanes_of.lanes.items m c.close_by.ensures.desk c.close_by.ensures.ok
    (where-none m (AreStated d.lanes d.journal c.in-Some-lanes_of.lanes.items) (λ is. subst (AreStated d.lanes d.journal) (sym same) (stated is))) in
    IfOk-weaker c.close_by.result _ _
    (λ desk h. (none.0, subst (IsOneOfEach desk.lanes) same h.0, subst (AreStated desk.lanes desk.journal) same h.1))
    ok
