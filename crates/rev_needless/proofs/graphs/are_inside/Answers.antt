use Rattle.std.proofs.Common.{◌≡◌, ◌<◌, ℕ, List, length, get_or, arith, sym, ap, subst, ◌∙◌, below_more}
use Rattle.std.specs.Global.{Vec}
use Rattle.std.specs.List.{All, list_all}
use Rattle.std.specs.Prelude.{nat_lt}
use Rattle.std.proofs.lemmas.List.{get_or_default}
use Rattle.std.proofs.lemmas.List.Sums.{AllPass-from_list_all}
use Rattle.std.proofs.lemmas.Bool.{ltb-true}
use Rattle.rev_needless.proofs.graphs.are_inside.Goals as goal

pub loop-node-preserved : goal.loop-node-preserved
loop-node-preserved c =
    below_more _ _ c.loop-node.invariant (λ d.
    let item = c.index-steps-node.result in
    let passes = AllPass-from_list_all (λ n. nat_lt n (length c.args.steps.now)) c.deref.result.now (sym c.are_below-below.ensures ∙ c.if-not-below.false) in
    let list : c.deref.result.now ≡ (get_or c.args.steps.now c.loop-node.node d).items = c.deref.ensures.value ∙ ap (λ (v : Vec ℕ). v.items) (c.index-steps-node.is ∙ get_or_default c.args.steps.now c.loop-node.node item d c.loop-node-test.true) in
    subst (λ (xs : List ℕ). All (λ s. s < length c.args.steps.now) xs) list (λ k e m. ltb-true (get_or c.deref.result.now k e) (length c.args.steps.now) (passes k e m)))

pub returns : goal.returns
returns c = λ so n d within. c.loop-node.invariant n (omega arith) d
