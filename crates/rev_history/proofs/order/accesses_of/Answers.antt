use Rattle.std.proofs.Common.{◌≡◌, ℕ, List, IsSome, is_some, get_or, take, ap, sym, subst, ◌∙◌, true≢false}
use Rattle.rev_accesses.specs.Places as access_places
use Rattle.rev_accesses.specs.Value.{Prints, Shows}
use Rattle.rev_causal.specs.Chosen.{chosen}
use Rattle.rev_history.specs.Steps.{place_prints, step_beside}
use Rattle.rev_history.proofs.AlongLemmas.{next_missing, put_next, taken_rises}
use Rattle.rev_history.proofs.BesideKept.{all_among}
use Rattle.rev_history.proofs.NamedLemmas.{print_placed}
use Rattle.rev_history.proofs.RemovalLemmas.{among_at}
use Rattle.rev_history.proofs.order.accesses_of.Goals as goal

pub unreachable-requires : goal.unreachable-requires
unreachable-requires c =
    let ks : List ℕ = c.args.numbers.now in
    let i : ℕ = c.loop-number.number-index in
    true≢false
    (sym (all_among (λ n. IsSome (step_beside n c.args.accepted.now.entries c.args.steps.now)) ks (get_or ks i 0) c.requires.beside (among_at ks i c.loop-number-test.true))
    ∙ ap is_some (sym c.in_default.ensures))

pub loop-number-preserved : goal.loop-number-preserved
loop-number-preserved c =
    let es : Prints = place_prints c.args.accepted.now.entries c.args.steps.now in
    let ks : List ℕ = c.args.numbers.now in
    let i : ℕ = c.loop-number.number-index in
    subst (Shows c.put.new.self)
    (put_next es ks i (access_places.print_of c.in-Some.step.now.places) c.requires.rising c.loop-number-test.true
    (print_placed (get_or ks i 0) c.args.accepted.now.entries c.args.steps.now c.in-Some.step.now c.in-Some.ensures))
    (c.in_ok-put.ensures.ok (taken es ks i) (taken_rises es ks i c.requires.rising) (next_missing es ks i c.requires.rising c.loop-number-test.true) c.loop-number.invariant)
  where
    taken : Prints → List ℕ → ℕ → Prints
    taken es ks i = chosen es (take i ks)
