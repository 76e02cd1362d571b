-- Marks of what waits for an edge, and of what an edge waits for.
use Rattle.std.proofs.Common.{◌≡◌, ℕ, ◌<◌, Bool, false, List, length, get_or, sym, subst, ◌∙◌}
use Rattle.std.specs.Global.{Vec}
use Rattle.std.specs.Prelude.{All}
use Rattle.rev_manifest.specs.Manifest.{BuildValue}
use Rattle.rev_graph.specs.Graph.{successor_lists}
use Rattle.rev_graph.proofs.StepLemmas.{edge_way, length-lists, node_way}
use Rattle.rev_ranks.specs.Graph.{graph_of, Reaches, Reaches.step as one_step, Reaches.further as then_on}
use Rattle.rev_ranks.specs.Leads.{is_reachable}
use Rattle.rev_ranks.specs.Sets.{IsReversed, IsSetOf}
use Rattle.rev_ranks.proofs.SetLemmas.{same-tests}
use Rattle.rev_ranks.proofs.Ways.{reaches_more}
use Rattle.rev_waits.specs.Waits.{AreWaitedFor, waits}
use Rattle.rev_waits.proofs.WaitLemmas.{marked-reaches, roots-are}
use Rattle.rev_races.proofs.RaceLemmas.{waits-is-decided}
use Rattle.rev_suspects.specs.Suspects.{AreMarkedBy}

pub waited-marks : (builds : List BuildValue) (edge : ℕ) (marks : List Bool) → AreWaitedFor builds edge marks → AreMarkedBy builds (λ other. waits builds edge other) marks
waited-marks builds edge marks w = record {
  each = w.each;
  exact = λ o.
      same-tests (get_or marks o false) (waits builds edge o) (λ h. (waits-is-decided builds edge o).1 ((w.exact o).0 h))
      (λ h. (w.exact o).1 ((waits-is-decided builds edge o).0 h));
}

module _ (graph back : List (List ℕ)) (is : IsReversed graph back) where
  way-back : {n m : ℕ} → Reaches graph n m → Reaches back m n
  way-back {n} {m} (one_step h) = one_step (is.back n m h)
  way-back {n} (then_on {s = s} h way) = reaches_more (way-back way) (is.back n s h)

  way-forth : {m n : ℕ} → Reaches back m n → Reaches graph n m
  way-forth {m} {n} (one_step h) = one_step (is.forth n m h)
  way-forth {m} (then_on {s = s} h way) = reaches_more (way-forth way) (is.forth s m h)

pub waiting-marks : (builds : List BuildValue) (back : List (Vec ℕ)) (edge : ℕ) (v : Vec ℕ) (marks : List Bool) → IsReversed (successor_lists builds) (graph_of back)
    → edge < length back → v ≡ get_or back edge v → IsSetOf (graph_of back) (is_reachable (graph_of back) v.items) marks
    → AreMarkedBy builds (λ other. waits builds other edge) marks
waiting-marks builds back edge v marks is within at marked = record {
  each = marked.length_is ∙ is.length_is ∙ length-lists builds;
  exact = λ o.
      let r = marked-reaches (graph_of back) edge v.items marks (roots-are back edge v within at) marked o in
      same-tests (get_or marks o false) (waits builds o edge)
      (λ h. (waits-is-decided builds o edge).1 (edge_way (way-forth (successor_lists builds) (graph_of back) is (r.0 h))))
      (λ h. r.1 (way-back (successor_lists builds) (graph_of back) is (node_way ((waits-is-decided builds o edge).0 h))));
}

-- the same bound by another length
pub nodes-within : (vectors : List (Vec ℕ)) (n m : ℕ) → m ≡ n → All (λ (v : Vec ℕ). All (λ s. s < n) v.items) vectors → All (λ (v : Vec ℕ). All (λ s. s < m) v.items) vectors
nodes-within vectors n m same all = subst (λ k. All (λ (v : Vec ℕ). All (λ s. s < k) v.items) vectors) (sym same) all
