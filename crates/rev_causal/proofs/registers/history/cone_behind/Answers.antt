use Rattle.std.proofs.Common.{◌++◌, ◌∷◌, List, append-nil, map, sym, ap, ◌∙◌}
use Rattle.std.proofs.lemmas.List.{drop_all}
use Rattle.rev_causal.specs.declared.registers.history.Kept.{Kept}
use Rattle.rev_causal.specs.RegisterHistory.{entry_of}
use Rattle.rev_causal.proofs.JoinedFootprints.{cone_by, cone_by_first}
use Rattle.rev_causal.proofs.registers.history.cone_behind.Goals as goal

pub returns : goal.returns
returns c =
    sym (append-nil c.loop-k.numbers.items)
    ∙ ap (λ (ks : List Kept). c.loop-k.numbers.items ++ cone_by c.loop-k.members (map entry_of ks)) (sym (drop_all c.loop-k.k-index c.args.later.now c.loop-k-test.false))
    ∙ c.loop-k.invariant
    ∙ ap (λ ns. c.args.first.now.number ∷ ns) (cone_by_first (entry_of c.args.first.now) (map entry_of c.args.later.now))
