use Rattle.std.proofs.Common.{◌≡◌, ◌<◌, ℕ, List, get_or, length, Contains, sym, ap, subst, ◌∙◌, arith}
use Rattle.std.specs.List.{range_with_len}
use Rattle.std.proofs.lemmas.List.FromFn.{get_or-range_with_len, length-range_with_len}
use Rattle.rev_ranks.specs.Graph.{graph_of}
use Rattle.rev_ranks.specs.Leads.{IsReachable.behind}
use Rattle.rev_ranks.proofs.SetLemmas.{reachable-complete}
use Rattle.rev_unlisted.proofs.covering.led_to.Goals as goal

range-from : (n edge : ℕ) → edge < n → Contains (range_with_len 0 n) edge
range-from n edge below = (edge, omega (arith, below, length-range_with_len 0 n), get_or-range_with_len 0 n edge edge below ∙ omega arith)

pub reachable_from-requires-clause-nodes : goal.reachable_from-requires-clause-nodes
reachable_from-requires-clause-nodes c = λ k d within.
    let is : c.deref.result.now ≡ range_with_len 0 c.args.edges = c.deref.ensures.value ∙ c.in_ok-roots.ensures in
    let len : length c.deref.result.now ≡ length (range_with_len 0 c.args.edges) = ap (λ (l : List ℕ). length l) is in
    let inside : k < c.args.edges = omega (arith, within, len, length-range_with_len 0 c.args.edges) in
    let at : get_or c.deref.result.now k d ≡ k = ap (λ (l : List ℕ). get_or l k d) is ∙ get_or-range_with_len 0 c.args.edges k d inside ∙ omega arith in
    omega (arith, at, inside, c.requires.edges)

pub returns : goal.returns
returns c = record {
  each = c.in_ok-marks.ensures.length_is;
  complete = λ node other below way.
      c.in_ok-marks.ensures.exact other
      ∙ reachable-complete (graph_of c.args.steps.now) c.deref.result.now other
      (behind {start = node} (subst (λ (l : List ℕ). Contains l node) (sym (c.deref.ensures.value ∙ c.in_ok-roots.ensures)) (range-from c.args.edges node below)) way);
}
