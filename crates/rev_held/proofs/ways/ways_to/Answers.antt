use Rattle.std.proofs.Common.{ℕ, List, reverse, ap, ◌∙◌, nat_lt}
use Rattle.std.specs.Prelude.{filter}
use Rattle.rev_held.proofs.DownLemmas.{down-first, down-last}
use Rattle.rev_held.proofs.ways.ways_to.Goals as goal

pub returns : goal.returns
returns c =
    let t = c.args.history.now.timeline in
    down-last t c.args.number c.go_down.new.firsts c.go_down.new.pairs.items
    (c.in_ok-go_down.ensures c.args.number
    (down-first t c.args.number c.deref.result.now c.in_ok-firsts.firsts c.new-pairs.result.items c.kept.ensures.legal
    (c.deref.ensures.value ∙ c.in_ok-down.ensures ∙ ap (λ (ks : List ℕ). reverse (filter (λ one. nat_lt one c.args.number) ks)) c.kept.ensures.kept) c.in_ok-firsts.ensures c.new-pairs.ensures.items))
