use Rattle.std.proofs.Common.{ℕ, List, subst}
use Rattle.std.specs.Global.{Vec}
use Rattle.rev_ranks.specs.Graph.{graph_of}
use Rattle.rev_ranks.specs.Sets.{IsReachableSet}
use Rattle.rev_ranks.proofs.SetLemmas.{leading-set}
use Rattle.rev_ranks.proofs.searches.leading_to.Goals as goal

pub returns : goal.returns
returns c =
    let lists : IsReachableSet (graph_of c.in_ok-steps_back.steps_back.items) c.deref-2.result.now c.in_ok-marks.marks.items =
    subst (λ (lists : List (Vec ℕ)). IsReachableSet (graph_of lists) c.deref-2.result.now c.in_ok-marks.marks.items) c.deref.ensures.value c.in_ok-marks.ensures in
    let set : IsReachableSet (graph_of c.in_ok-steps_back.steps_back.items) c.in_ok-roots.roots.items c.in_ok-marks.marks.items =
    subst (λ (roots : List ℕ). IsReachableSet (graph_of c.in_ok-steps_back.steps_back.items) roots c.in_ok-marks.marks.items) c.deref-2.ensures.value lists in
    leading-set (graph_of c.args.successors.now) (graph_of c.in_ok-steps_back.steps_back.items) c.in_ok-steps_back.ensures.steps c.args.goals.now c.in_ok-roots.roots.items c.in_ok-marks.marks.items
    (λ n h. (c.in_ok-roots.ensures.marked n).0 h)
    (λ n h. (c.in_ok-roots.ensures.marked n).1 h) set
