use Rattle.std.proofs.Common.{◌≤◌, ap, sym, ◌∙◌, subst, subst₂, List, ℕ, Option, option_map}
use Rattle.std.specs.Global.{Vec}
use Rattle.std.specs.List.{AllByRecursion}
use Rattle.rev_causal.specs.Chosen.{chosen}
use Rattle.rev_causal.specs.OrderCheck.{bare, pair_answer}
use Rattle.rev_causal.specs.Store.{conflict}
use Rattle.std.specs.Ordering.{nat_cmp}
use Rattle.rev_events.specs.Same.{event_eq}
use Rattle.rev_events.proofs.SameLemmas.{equal_events_are_one}
use Rattle.rev_order.specs.Matched.{ArePlacesOf, MatchedPlaces}
use Rattle.rev_order.specs.Pairs.{inverted_pair}
use Rattle.rev_history.specs.Order.{answer_of}
use Rattle.rev_history.specs.Steps.{HaveSteps, Placed, place_prints}
use Rattle.rev_history.specs.Value.{HistoryValue}
use Rattle.rev_history.proofs.Fields.{all_footprints}
use Rattle.rev_history.proofs.NamedLemmas.{steps_of_footprints}
use Rattle.rev_history.proofs.OrderLemmas.{kept_within, pair_found}
use Rattle.rev_history.proofs.history.History.order_of_events.Goals as goal

pub matched_places-requires-clause-equality : goal.matched_places-requires-clause-equality
matched_places-requires-clause-equality c = equal_events_are_one

pub matched_places-requires-clause-within : goal.matched_places-requires-clause-within
matched_places-requires-clause-within c =
    subst (λ (ks : List ℕ). AllByRecursion (λ n. n ≤ c.self.inside.last) ks) (sym c.as_slice.ensures.same) (kept_within c.self.inside c.self.invariant.sound)

pub first_pair-requires-clause-beside : goal.first_pair-requires-clause-beside
first_pair-requires-clause-beside c =
    subst₂ (λ (xs : List Placed). HaveSteps c.self.inside.accepted.entries xs) (sym c.deref-in-Some.ensures.value) (sym c.as_slice-in-Some.ensures.same) (steps_of_footprints c.self.inside.cells.places c.self.inside.accepted.entries c.self.inside.steps.items c.self.inside.kept.items (all_footprints c.self.inside c.self.invariant.sound))

pub returns-in-Some : goal.returns-in-Some
returns-in-Some c =
    let a = c.self.inside in
    let b = c.other.inside in
    let found : ArePlacesOf event_eq (chosen a.accepted.entries c.as_slice.result.now) (bare (chosen b.accepted.entries c.as_slice-2.result.now)) c.in-Some.places.items =
    subst (λ (o : Option (Vec ℕ)). MatchedPlaces event_eq (chosen a.accepted.entries c.as_slice.result.now) (bare (chosen b.accepted.entries c.as_slice-2.result.now)) (option_map (λ v. v.items) o)) c.in-Some.is c.in_ok-matched.ensures in
    pair_found a b c.args.self.now.timeline c.args.other.now.timeline c.self.invariant
    (ap (λ (h : HistoryValue). h.timeline) c.self.view_is) (ap (λ (h : HistoryValue). h.timeline) c.other.view_is) c.in-Some.places.items
    (subst₂ (λ (ks ls : List ℕ). ArePlacesOf event_eq (chosen a.accepted.entries ks) (bare (chosen b.accepted.entries ls)) c.in-Some.places.items) c.as_slice.ensures.same c.as_slice-2.ensures.same found)
    (answer_of c.first_pair.result)
    (c.first_pair.ensures
    ∙ (λ i. pair_answer (inverted_pair (conflict nat_cmp) (c.deref.ensures.value i) (chosen (place_prints a.accepted.entries (c.deref-in-Some.ensures.value i)) (c.as_slice-in-Some.ensures.same i)))))
