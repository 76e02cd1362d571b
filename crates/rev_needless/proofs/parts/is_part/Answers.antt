use Rattle.std.proofs.Common.{◌<◌, Bool, false, List, length, get_or, arith, sym, ap, ◌∙◌, below_more}
use Rattle.rev_needless.proofs.WithoutLemmas.{gone-within}
use Rattle.rev_needless.proofs.parts.is_part.Goals as goal

pub loop-node-preserved : goal.loop-node-preserved
loop-node-preserved c =
    below_more _ _ c.loop-node.invariant (λ k m.
    ap (λ (ms : List Bool). get_or ms k false) (sym c.marks_of-other.ensures)
    ∙ c.is_row_part-holds.ensures c.if-not-holds.false k (ap (λ (ms : List Bool). get_or ms k false) c.marks_of-row.ensures ∙ m))

pub returns : goal.returns
returns c = λ so n k m.
    let within : n < length c.args.part.now = gone-within c.args.part.now n k m in
    c.loop-node.invariant n (omega arith) k m
