use Rattle.std.proofs.Common.{ℕ, List, IsSome, ap, sym, subst, ◌∙◌}
use Rattle.std.proofs.lemmas.List.{take_rest}
use Rattle.std.specs.List.{AllByRecursion}
use Rattle.rev_history.specs.Along.{prints_along}
use Rattle.rev_history.specs.Named.{CellPrints}
use Rattle.rev_causal.specs.Chosen.{IsRising, chosen}
use Rattle.rev_causal.specs.History as causal
use Rattle.rev_causal.specs.Store.{conflict}
use Rattle.rev_cells.specs.Keys.{cell_cmp}
use Rattle.rev_order.specs.Pairs.{inverted_pair}
use Rattle.rev_compared.proofs.SoughtLemmas.{All-drop, rising-drop}
use Rattle.rev_compared.proofs.inverted.pair_in.Goals as goal

pub inverted_pair-requires-clause-rising : goal.inverted_pair-requires-clause-rising
inverted_pair-requires-clause-rising c =
    let ks : List ℕ = c.args.numbers.now in
    subst IsRising (sym (take_rest ks c.in-Err.at)) (rising-drop c.in-Err.at ks c.requires.rising)

pub inverted_pair-requires-clause-kept : goal.inverted_pair-requires-clause-kept
inverted_pair-requires-clause-kept c =
    let es : CellPrints = prints_along c.args.history.now.timeline in
    let ks : List ℕ = c.args.numbers.now in
    subst (λ (ns : List ℕ). AllByRecursion (λ n. IsSome (causal.event_at n es)) ns) (sym (take_rest ks c.in-Err.at))
    (All-drop (λ n. IsSome (causal.event_at n es)) c.in-Err.at ks c.requires.kept)

pub returns : goal.returns
returns c =
    let es : CellPrints = prints_along c.args.history.now.timeline in
    let ks : List ℕ = c.args.numbers.now in
    c.in_ok-found-in-Err.ensures
    ∙ ap (λ (ns : List ℕ). inverted_pair (conflict cell_cmp) c.args.places.now (chosen es ns)) (take_rest ks c.in-Err.at)
    ∙ c.in-Err.ensures.rest
