use Rattle.std.proofs.Common.{◌≡◌, ap, sym, subst, ◌∙◌, length, List}
use Rattle.std.specs.Ordering.{nat_cmp}
use Rattle.rev_causal.specs.Chosen.{chosen}
use Rattle.rev_causal.specs.Store.{conflict}
use Rattle.rev_accesses.specs.Value.{Shows}
use Rattle.rev_order.specs.Pairs.{inverted_pair}
use Rattle.rev_history.specs.Steps.{HaveSteps, Placed, place_prints}
use Rattle.rev_history.specs.Value.{HistoryValue}
use Rattle.rev_history.proofs.AlongLemmas.{pair_along, steps_along}
use Rattle.rev_history.proofs.Fields.{as_many}
use Rattle.rev_history.proofs.NamedLemmas.{length_named}
use Rattle.rev_history.proofs.history.History.inverted_pair.Goals as goal

pub accesses_of-requires-clause-many : goal.accesses_of-requires-clause-many
accesses_of-requires-clause-many c = ap (λ (xs : List Placed). length xs) c.deref.ensures.value ∙ sym (length_named c.self.inside.cells.places c.self.inside.steps.items) ∙ as_many c.self.inside c.self.invariant.sound

pub accesses_of-requires-clause-beside : goal.accesses_of-requires-clause-beside
accesses_of-requires-clause-beside c =
    subst (λ (xs : List Placed). HaveSteps c.self.inside.accepted.entries xs c.args.numbers.now) (sym c.deref.ensures.value)
    (steps_along c.self.inside c.self.invariant c.args.self.now.timeline (ap (λ (h : HistoryValue). h.timeline) c.self.view_is) c.args.numbers.now c.requires.kept)

pub pair_by_places-requires-clause-beside : goal.pair_by_places-requires-clause-beside
pair_by_places-requires-clause-beside c =
    subst (λ (xs : List Placed). HaveSteps c.self.inside.accepted.entries xs c.args.numbers.now) (sym c.deref-2.ensures.value)
    (steps_along c.self.inside c.self.invariant c.args.self.now.timeline (ap (λ (h : HistoryValue). h.timeline) c.self.view_is) c.args.numbers.now c.requires.kept)

pub returns : goal.returns
returns c =
    c.pair_by_places.ensures
    ∙ ap (λ (xs : List Placed). inverted_pair (conflict nat_cmp) c.args.places.now (chosen (place_prints c.self.inside.accepted.entries xs) c.args.numbers.now)) c.deref-2.ensures.value
    ∙ pair_along c.self.inside c.self.invariant c.args.self.now.timeline (ap (λ (h : HistoryValue). h.timeline) c.self.view_is) c.args.places.now c.args.numbers.now c.requires.kept
