use Rattle.std.proofs.Common.{◌≡◌, ℕ, List, Some, None, true}
use Rattle.rev_accesses.specs.Value.{Prints}
use Rattle.rev_causal.specs.AccessLists.{numbers_by}
use Rattle.rev_causal.specs.Chosen.{chosen}
use Rattle.rev_causal.specs.History as causal
use Rattle.rev_causal.proofs.Chosen.{chosen-rises}
use Rattle.rev_history.specs.Steps.{place_prints}
use Rattle.rev_history.proofs.Listed.{numbers_chosen}
use Rattle.rev_history.proofs.NamedLemmas.{steps_accepted}
use Rattle.rev_history.proofs.OrderLemmas.{pair_none, pair_some, inverted_print}
use Rattle.rev_history.proofs.order.pair_by_places.Goals as goal

pub returns-in_default : goal.returns-in_default
returns-in_default c =
    let all : Prints = place_prints c.args.accepted.now.entries c.args.steps.now in
    let kept : List ℕ = c.args.kept.now in
    let numbers : numbers_by (λ f. true) (chosen all kept) ≡ kept = numbers_chosen all kept (steps_accepted c.args.accepted.now.entries c.args.steps.now kept c.requires.beside) in
    pair_none c.args.places.now c.args.accepted.now.entries c.args.steps.now kept (c.in_default.ensures (chosen all kept) (chosen-rises all kept c.requires.rising) numbers c.requires.shown)

pub unreachable-requires : goal.unreachable-requires
unreachable-requires c =
    let all : Prints = place_prints c.args.accepted.now.entries c.args.steps.now in
    let kept : List ℕ = c.args.kept.now in
    let numbers : numbers_by (λ f. true) (chosen all kept) ≡ kept = numbers_chosen all kept (steps_accepted c.args.accepted.now.entries c.args.steps.now kept c.requires.beside) in
    inverted_print c.args.places.now c.args.accepted.now.entries c.args.steps.now kept c.requires.beside c.in-Some.first
    (c.in-Some.ensures (chosen all kept) (chosen-rises all kept c.requires.rising) numbers c.requires.shown) c.in_default-step_of.ensures

pub returns-in-Some-partner : goal.returns-in-Some-partner
returns-in-Some-partner c =
    let all : Prints = place_prints c.args.accepted.now.entries c.args.steps.now in
    let kept : List ℕ = c.args.kept.now in
    let rising : causal.IsRising (chosen all kept) = chosen-rises all kept c.requires.rising in
    let numbers : numbers_by (λ f. true) (chosen all kept) ≡ kept = numbers_chosen all kept (steps_accepted c.args.accepted.now.entries c.args.steps.now kept c.requires.beside) in
    pair_some c.args.places.now c.args.accepted.now.entries c.args.steps.now kept c.in-Some.first c.in-Some-step_of.step.now (Some c.in-Some-partner.second)
    (c.in-Some.ensures (chosen all kept) rising numbers c.requires.shown) c.in-Some-step_of.ensures (c.in-Some-partner.ensures (chosen all kept) rising numbers c.requires.shown)

pub returns-in-None : goal.returns-in-None
returns-in-None c =
    let all : Prints = place_prints c.args.accepted.now.entries c.args.steps.now in
    let kept : List ℕ = c.args.kept.now in
    let rising : causal.IsRising (chosen all kept) = chosen-rises all kept c.requires.rising in
    let numbers : numbers_by (λ f. true) (chosen all kept) ≡ kept = numbers_chosen all kept (steps_accepted c.args.accepted.now.entries c.args.steps.now kept c.requires.beside) in
    pair_some c.args.places.now c.args.accepted.now.entries c.args.steps.now kept c.in-Some.first c.in-Some-step_of.step.now None
    (c.in-Some.ensures (chosen all kept) rising numbers c.requires.shown) c.in-Some-step_of.ensures (c.in-None.ensures (chosen all kept) rising numbers c.requires.shown)
