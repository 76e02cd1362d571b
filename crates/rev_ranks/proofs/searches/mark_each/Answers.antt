use Rattle.std.proofs.Common.{◌≡◌, ◌<◌, Bool, false, arith, List, ℕ, inl, inr, get_or, length, ap, subst, sym, Contains, ◌∙◌}
use Rattle.std.proofs.lemmas.List.{take_more}
use Rattle.std.proofs.lemmas.List.Elements.{Contains-push_cases}
use Rattle.rev_ranks.specs.Sets.{IsMarked, IsMarking}
use Rattle.rev_ranks.proofs.Marks.{marking_seen, marking_new, read_false, read_true}
use Rattle.rev_ranks.proofs.WalkLemmas.{marked-not}
use Rattle.rev_ranks.proofs.searches.mark_each.Goals as goal
use Rattle.rev_ranks.proofs.searches.mark_each.Goals.{then-not-index+in_ok-push, else-not-index}

-- the state after the step, where marks, open nodes and the front of the nodes are given by equations
marking_at : {nodes nodes' open_before open_after open_after' : List ℕ} {before after after' : List Bool} → nodes' ≡ nodes → after' ≡ after → open_after' ≡ open_after → IsMarking nodes before open_before after open_after → IsMarking nodes' before open_before after' open_after'
marking_at e f g h = rw (e, f, g) h

pub loop-node-preserved : goal.loop-node-preserved
loop-node-preserved c =
    let x : ℕ = get_or c.args.nodes.now c.loop-node.node-index 0 in
    let was = c.loop-node.invariant.marking in
    let within : x < length c.loop-node.marks.items = omega (arith, c.requires c.loop-node.node-index 0 c.loop-node-test.true, was.length_is, c.args.marks.now.ok.0) in
    elim c.if-not-index.branch [
      | then-not-index+in_ok-push w ↦
          let fresh : get_or c.loop-node.marks.items x false ≡ false = read_false c.loop-node.marks.items x c.index.result.now c.index.ensures w.if-not-index.true in
          let opened = ap (λ v. v.items) w.open_nodes-is ∙ w.in_ok-push.ensures.items in
          record {
            marking = marking_at (take_more c.args.nodes.now c.loop-node.node-index 0 c.loop-node-test.true) (ap (λ v. v.items) w.marks-is) opened (marking_new _ _ _ _ _ was x within fresh);
            opens = λ n h. elim (Contains-push_cases c.loop-node.open_nodes.items x n (subst (λ (xs : List ℕ). Contains xs n) opened h)) [
              | inl old ↦ c.loop-node.invariant.opens n old
              | inr same ↦ inr (λ marked. marked-not c.loop-node.marks.items x fresh (subst (IsMarked c.loop-node.marks.items) (sym same) (was.keeps n marked)))
            ];
          }
      | else-not-index w ↦ record {
        marking = marking_at (take_more c.args.nodes.now c.loop-node.node-index 0 c.loop-node-test.true) (ap (λ v. v.items) w.marks-is) (ap (λ v. v.items) w.open_nodes-is)
            (marking_seen _ _ _ _ _ was x (read_true c.loop-node.marks.items x c.index.result.now within c.index.ensures w.if-not-index.false));
        opens = λ n h. c.loop-node.invariant.opens n (subst (λ (xs : List ℕ). Contains xs n) (ap (λ v. v.items) w.open_nodes-is) h);
      }
    ]
