use Rattle.std.proofs.Common.{◌<◌, ◌^◌, ℕ, List, length, arith, ap, subst, sym, ◌∙◌, true≢false}
use Rattle.std.specs.Global.{Vec}
use Rattle.std.specs.List.{All}
use Rattle.std.proofs.lemmas.Bool.{and_parts}
use Rattle.rev_needless.proofs.choosing.is_answer.Goals as goal

pub is_needless-requires-clause-inside : goal.is_needless-requires-clause-inside
is_needless-requires-clause-inside c =
    subst (λ (xs : List (Vec ℕ)). All (λ (v : Vec ℕ). All (λ s. s < length xs) v.items) xs) c.deref.ensures.value (c.is_graph-holds.ensures.inside c.if-not-holds.false)

pub is_needless-requires-clause-small : goal.is_needless-requires-clause-small
is_needless-requires-clause-small c = omega (arith, c.is_graph-holds.ensures.small c.if-not-holds.false, ap length c.deref.ensures.value)

pub returns-then-not-holds-clause-needless : goal.returns-then-not-holds-clause-needless
returns-then-not-holds-clause-needless c = λ so. absurd (true≢false (sym so))

pub returns-then-not-holds-clause-part : goal.returns-then-not-holds-clause-part
returns-then-not-holds-clause-part c = λ so. absurd (true≢false (sym so))

pub returns-clause-needless : goal.returns-clause-needless
returns-clause-needless c = λ so. c.in_ok-needless.ensures.0 (and_parts c.is_part-part.result c.in_ok-needless.needless (sym c.both.ensures ∙ so)).1

pub returns-clause-part : goal.returns-clause-part
returns-clause-part c = λ so. c.is_part-part.ensures (and_parts c.is_part-part.result c.in_ok-needless.needless (sym c.both.ensures ∙ so)).0
