use Rattle.std.proofs.Common.{◌≡◌, ap, sym, ◌∙◌, subst, IfOk, List, [], ◌∷◌, ℕ, length, Result, Ok, Err}
use Rattle.std.specs.Global.{Vec}
use Rattle.std.specs.Ordering.{nat_cmp}
use Rattle.rev_accesses.specs.Closing.{cone_behind}
use Rattle.rev_accesses.specs.Value.{Prints, Shows}
use Rattle.rev_causal.specs.Chosen.{IsRising, chosen, is_among}
use Rattle.rev_history.specs.Steps.{HaveSteps, Placed, place_prints}
use Rattle.rev_history.specs.Timeline.{IsHistory}
use Rattle.rev_history.specs.Value.{HistoryValue}
use Rattle.rev_history.proofs.Cones.{IsKept, some_kept}
use Rattle.rev_history.proofs.Fields.{all_footprints, as_many, history_of}
use Rattle.rev_history.proofs.Members.{cone_by_places}
use Rattle.rev_history.proofs.NamedLemmas.{length_named, steps_of_footprints}
use Rattle.rev_history.proofs.Promises.{cone_is_least}
use Rattle.rev_history.proofs.RemovalLemmas.{cone_rises}
use Rattle.rev_history.proofs.history.History.members.Goals as goal

ok_rises : {E : Type 0} (r : Result (Vec ℕ) E) (n : ℕ) (prints : Prints) (ks : List ℕ) → IsRising ks → IfOk r (λ members. members.items ≡ n ∷ cone_behind nat_cmp n prints (n ∷ []) ks) → IfOk r (λ members. IsRising members.items)
ok_rises (Ok members) n prints ks rising is = subst IsRising (sym is) (cone_rises n prints ks rising)
ok_rises (Err e) n prints ks rising is = is

pub cone-requires-clause-many : goal.cone-requires-clause-many
cone-requires-clause-many c = ap (λ (xs : List Placed). length xs) c.deref.ensures.value ∙ sym (length_named c.self.inside.cells.places c.self.inside.steps.items) ∙ as_many c.self.inside c.self.invariant.sound

pub cone-requires-clause-rising : goal.cone-requires-clause-rising
cone-requires-clause-rising c = subst IsRising (sym c.as_slice.ensures.same) c.self.invariant.sound.stepped.rising

pub cone-requires-clause-beside : goal.cone-requires-clause-beside
cone-requires-clause-beside c =
    subst (λ (ks : List ℕ). HaveSteps c.self.inside.accepted.entries c.deref.result.now ks) (sym c.as_slice.ensures.same)
    (subst (λ (xs : List Placed). HaveSteps c.self.inside.accepted.entries xs c.self.inside.kept.items) (sym c.deref.ensures.value) (steps_of_footprints c.self.inside.cells.places c.self.inside.accepted.entries c.self.inside.steps.items c.self.inside.kept.items (all_footprints c.self.inside c.self.invariant.sound)))

pub cone-requires-clause-shown : goal.cone-requires-clause-shown
cone-requires-clause-shown c =
    subst (λ (ks : List ℕ). Shows c.self.inside.accesses (chosen (place_prints c.self.inside.accepted.entries c.deref.result.now) ks)) (sym c.as_slice.ensures.same)
    (subst (λ (xs : List Placed). Shows c.self.inside.accesses (chosen (place_prints c.self.inside.accepted.entries xs) c.self.inside.kept.items)) (sym c.deref.ensures.value) c.self.invariant.shown)

pub cone-requires-clause-among : goal.cone-requires-clause-among
cone-requires-clause-among c =
    let k : IsKept c.args.self.now.timeline c.args.number = some_kept c.args.self.now.timeline c.args.number c.requires in
    ap (λ (ks : List ℕ). is_among ks c.args.number) (c.as_slice.ensures.same ∙ ap (λ (h : HistoryValue). h.timeline.kept) c.self.view_is) ∙ k.among

pub returns-clause-members : goal.returns-clause-members
returns-clause-members c =
    subst (λ (ns : List ℕ). IfOk c.cone.result (λ members. members.items ≡ ns))
    (cone_by_places c.self.inside c.self.invariant c.args.self.now.timeline (ap (λ (h : HistoryValue). h.timeline) c.self.view_is) c.args.number c.as_slice.result.now c.deref.result.now c.as_slice.ensures.same c.deref.ensures.value c.requires)
    c.cone.ensures

pub returns-clause-rising : goal.returns-clause-rising
returns-clause-rising c =
    ok_rises c.cone.result c.args.number (place_prints c.self.inside.accepted.entries c.deref.result.now) c.as_slice.result.now (subst IsRising (sym c.as_slice.ensures.same) c.self.invariant.sound.stepped.rising) c.cone.ensures

pub returns-clause-legal : goal.returns-clause-legal
returns-clause-legal c = subst (λ (h : HistoryValue). IsHistory h.timeline) c.self.view_is (history_of c.self.inside c.self.invariant.sound)

pub returns-clause-least : goal.returns-clause-least
returns-clause-least c =
    (cone_is_least c.args.self.now.timeline c.args.number (subst (λ (h : HistoryValue). IsHistory h.timeline) c.self.view_is (history_of c.self.inside c.self.invariant.sound)) c.requires).0
