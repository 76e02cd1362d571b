use Rattle.std.proofs.Common.{ℕ, ◌+◌, List, length, ap, subst, ◌∙◌}
use Rattle.std.proofs.lemmas.List.{length_push}
use Rattle.std.specs.Global.{Vec}
use Rattle.rev_ranks.specs.Graph.{Steps, graph_of}
use Rattle.rev_conflicts.proofs.TableLemmas.{empties-more}
use Rattle.rev_conflicts.proofs.table.empty_lists.Goals as goal

pub loop-number-preserved : goal.loop-number-preserved
loop-number-preserved c = record {
  each = ap length c.in_ok-push.ensures.items ∙ length_push c.loop-number.lists.items c.new.result ∙ ap (λ n. n + 1) c.loop-number.invariant.each;
  none = λ p d h.
      empties-more c.loop-number.lists.items c.new.result c.new.ensures.items c.loop-number.invariant.none p d
      (subst (λ (ls : List (Vec ℕ)). Steps (graph_of ls) p d) c.in_ok-push.ensures.items h);
}
