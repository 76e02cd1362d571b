use Rattle.std.proofs.Common.{ℕ, ◌<◌, List, IsSome, None, Some, length, get_or, sym, ◌∙◌, arith}
use Rattle.rev_history.specs.Along.{prints_along}
use Rattle.rev_history.specs.Named.{CellPrints}
use Rattle.rev_causal.specs.History as causal
use Rattle.rev_footprint.specs.Value.{print_of}
use Rattle.rev_compared.proofs.Prints.{All-get, print-there}
use Rattle.rev_compared.proofs.SoughtLemmas.{pair-at}
use Rattle.rev_compared.proofs.sought.pair_near.Goals as goal

pub returns-in-Ok-Some-clause-pair : goal.returns-in-Ok-Some-clause-pair
returns-in-Ok-Some-clause-pair c =
    let t = c.args.history.now.timeline in
    let es : CellPrints = prints_along t in
    let ks : List ℕ = c.args.numbers.now in
    let i : ℕ = c.loop-at.at in
    let within : i < length ks = omega (arith, c.loop-at-test.true) in
    let there = print-there t (get_or ks i 0) (All-get (λ n. IsSome (causal.event_at n es)) i 0 ks c.requires.kept within) in
    sym (pair-at c.args.places.now es ks i (print_of there.0) (Some c.in-Ok-Some.second) c.requires.rising within there.1.1
    (sym c.in-Ok-Some.field-0-is ∙ c.in-Ok-Some.ensures there.0 there.1.0))
    ∙ c.loop-at.invariant

pub loop-at-preserved : goal.loop-at-preserved
loop-at-preserved c =
    let t = c.args.history.now.timeline in
    let es : CellPrints = prints_along t in
    let ks : List ℕ = c.args.numbers.now in
    let i : ℕ = c.loop-at.at in
    let within : i < length ks = omega (arith, c.loop-at-test.true) in
    let there = print-there t (get_or ks i 0) (All-get (λ n. IsSome (causal.event_at n es)) i 0 ks c.requires.kept within) in
    sym (pair-at c.args.places.now es ks i (print_of there.0) None c.requires.rising within there.1.1
    (sym c.in-Ok-None.field-0-is ∙ c.in-Ok-None.ensures there.0 there.1.0))
    ∙ c.loop-at.invariant
