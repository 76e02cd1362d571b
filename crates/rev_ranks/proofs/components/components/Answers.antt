use Rattle.std.proofs.Common.{◌≡◌, ◌<◌, ◌++◌, ◌∷◌, [], ℕ, false, List, length, get_or, replicate, arith, rules, ap, sym, subst, ◌∙◌}
use Rattle.std.specs.Global.{Vec}
use Rattle.std.specs.List.{All}
use Rattle.std.proofs.lemmas.List.Elements.{All-contains, Contains-push, Contains-append_left, Contains-get_or}
use Rattle.rev_ranks.specs.Graph.{graph_of}
use Rattle.rev_ranks.specs.Sets.{IsMarked}
use Rattle.rev_ranks.specs.Walks.{IsLeaving, AreNumbered}
use Rattle.rev_ranks.proofs.Ways.{nodes_are, steps_inside}
use Rattle.rev_ranks.proofs.Marks.{read_true}
use Rattle.rev_ranks.proofs.WalkLemmas.{leaving-less}
use Rattle.rev_ranks.proofs.NumberLemmas.{certified, lead-back, leads-on, numbered-none, numbered-skip, numbered-more}
use Rattle.rev_ranks.proofs.components.components.Goals as goal

pub loop-root-init : goal.loop-root-init
loop-root-init c =
    let graph = graph_of c.args.successors.now in
    let back = c.in_ok-steps_back.steps_back.items in
    let fresh : c.in_ok-marks.marks.items ≡ replicate (length c.args.successors.now) false = search rules in
    let none : c.in_ok-numbers.numbers.items ≡ replicate (length c.args.successors.now) 0 = search rules in
    let many : length c.deref.result.now ≡ length graph = ap length c.deref.ensures.value ∙ sym (nodes_are back) ∙ c.in_ok-steps_back.ensures.steps.length_is in
    record {
      numbered = numbered-none graph c.in_ok-to_come.to_come.items c.in_ok-marks.marks.items c.in_ok-numbers.numbers.items (fresh ∙ ap (λ n. replicate n false) (sym (nodes_are c.args.successors.now)))
          (none ∙ ap (λ n. replicate n 0) (sym (nodes_are c.args.successors.now))) (λ n h. c.in_ok-to_come.ensures.all n (omega (arith, h, many))) (omega (arith, c.in_ok-to_come.ensures.few, many));
      leaving = subst (λ (xs : List (Vec ℕ)). IsLeaving (graph_of xs) c.in_ok-to_come.to_come.items) c.deref.ensures.value c.in_ok-to_come.ensures.leaving;
      nodes = λ k d h. omega (arith, c.in_ok-to_come.ensures.nodes k d h, many, nodes_are c.args.successors.now);
    }

pub number_from-requires-clause-back : goal.number_from-requires-clause-back
number_from-requires-clause-back c =
    let graph = graph_of c.args.successors.now in
    let back = graph_of c.in_ok-steps_back.steps_back.items in
    let root = c.in-Some.root in
    let rest = c.pop.new.self.items in
    let numbered : AreNumbered graph (rest ++ root ∷ []) c.loop-root.marks.items c.loop-root.numbers.items c.loop-root.number =
    subst (λ (xs : List ℕ). AreNumbered graph xs c.loop-root.marks.items c.loop-root.numbers.items c.loop-root.number) c.in-Some.ensures.items c.loop-root.invariant.numbered in
    let leaving : IsLeaving back (rest ++ root ∷ []) = subst (IsLeaving back) c.in-Some.ensures.items c.loop-root.invariant.leaving in
    leads-on graph rest root c.loop-root.marks.items c.loop-root.numbers.items c.loop-root.number numbered back c.in_ok-steps_back.ensures.steps leaving (steps_inside c.args.successors.now c.requires.inside)

pub loop-root-preserved-then-not-index : goal.loop-root-preserved-then-not-index
loop-root-preserved-then-not-index c =
    let graph = graph_of c.args.successors.now in
    let back = graph_of c.in_ok-steps_back.steps_back.items in
    let root = c.in-Some.root in
    let rest = c.pop.new.self.items in
    let numbered : AreNumbered graph (rest ++ root ∷ []) c.loop-root.marks.items c.loop-root.numbers.items c.loop-root.number =
    subst (λ (xs : List ℕ). AreNumbered graph xs c.loop-root.marks.items c.loop-root.numbers.items c.loop-root.number) c.in-Some.ensures.items c.loop-root.invariant.numbered in
    let leaving : IsLeaving back (rest ++ root ∷ []) = subst (IsLeaving back) c.in-Some.ensures.items c.loop-root.invariant.leaving in
    let nodes : All (λ n. n < length c.args.successors.now) (rest ++ root ∷ []) = subst (All (λ n. n < length c.args.successors.now)) c.in-Some.ensures.items c.loop-root.invariant.nodes in
    let rest-nodes : All (λ n. n < length c.args.successors.now) rest =
    λ k d h. All-contains (λ n. n < length c.args.successors.now) (rest ++ root ∷ []) (get_or rest k d) nodes (Contains-append_left rest (root ∷ []) (get_or rest k d) (Contains-get_or rest k d h)) in
    record {
      numbered = numbered-more graph rest root c.loop-root.marks.items c.loop-root.numbers.items c.loop-root.number numbered _ _ c.in_ok-number_from.ensures;
      leaving = leaving-less back rest root leaving;
      nodes = rest-nodes;
    }

pub loop-root-preserved : goal.loop-root-preserved
loop-root-preserved c =
    let graph = graph_of c.args.successors.now in
    let back = graph_of c.in_ok-steps_back.steps_back.items in
    let root = c.in-Some.root in
    let rest = c.pop.new.self.items in
    let numbered : AreNumbered graph (rest ++ root ∷ []) c.loop-root.marks.items c.loop-root.numbers.items c.loop-root.number =
    subst (λ (xs : List ℕ). AreNumbered graph xs c.loop-root.marks.items c.loop-root.numbers.items c.loop-root.number) c.in-Some.ensures.items c.loop-root.invariant.numbered in
    let leaving : IsLeaving back (rest ++ root ∷ []) = subst (IsLeaving back) c.in-Some.ensures.items c.loop-root.invariant.leaving in
    let nodes : All (λ n. n < length c.args.successors.now) (rest ++ root ∷ []) = subst (All (λ n. n < length c.args.successors.now)) c.in-Some.ensures.items c.loop-root.invariant.nodes in
    let rest-nodes : All (λ n. n < length c.args.successors.now) rest =
    λ k d h. All-contains (λ n. n < length c.args.successors.now) (rest ++ root ∷ []) (get_or rest k d) nodes (Contains-append_left rest (root ∷ []) (get_or rest k d) (Contains-get_or rest k d h)) in
    let within = All-contains (λ n. n < length c.args.successors.now) (rest ++ root ∷ []) root nodes (Contains-push rest root) in
    let seen : IsMarked c.loop-root.marks.items root = read_true c.loop-root.marks.items root c.index.result.now (omega (arith, within, numbered.each_mark, nodes_are c.args.successors.now)) c.index.ensures c.if-not-index.false in
    record {
      numbered = numbered-skip graph rest root c.loop-root.marks.items c.loop-root.numbers.items c.loop-root.number numbered seen;
      leaving = leaving-less back rest root leaving;
      nodes = rest-nodes;
    }

pub returns-clause-certificate : goal.returns-clause-certificate
returns-clause-certificate c =
    let graph = graph_of c.args.successors.now in
    let none : c.loop-root.to_come.items ≡ [] = search rules in
    certified graph c.loop-root.marks.items c.loop-root.numbers.items c.loop-root.number
    (subst (λ (xs : List ℕ). AreNumbered graph xs c.loop-root.marks.items c.loop-root.numbers.items c.loop-root.number) none c.loop-root.invariant.numbered)

pub returns-clause-back : goal.returns-clause-back
returns-clause-back c =
    let graph = graph_of c.args.successors.now in
    let none : c.loop-root.to_come.items ≡ [] = search rules in
    lead-back graph c.loop-root.marks.items c.loop-root.numbers.items c.loop-root.number
    (subst (λ (xs : List ℕ). AreNumbered graph xs c.loop-root.marks.items c.loop-root.numbers.items c.loop-root.number) none c.loop-root.invariant.numbered)
