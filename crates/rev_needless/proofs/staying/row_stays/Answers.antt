use Rattle.std.proofs.Common.{◌≡◌, ℕ, Bool, List, length, sym, subst, ◌∙◌}
use Rattle.std.proofs.lemmas.Bool.{eqb-true}
use Rattle.rev_ranks.specs.Graph.{graph_of}
use Rattle.rev_needless.specs.Staying.{AreReached, still_waits}
use Rattle.rev_needless.proofs.ListLemmas.{all-of-none}
use Rattle.rev_needless.proofs.StayLemmas.{row-by-marks, row-whole}
use Rattle.rev_needless.proofs.staying.row_stays.Goals as goal

pub returns-then-is_empty : goal.returns-then-is_empty
returns-then-is_empty c =
    sym (all-of-none (still_waits (graph_of c.args.before.now) (graph_of c.args.after.now) c.args.node) c.args.makers.now (eqb-true (length c.args.makers.now) 0 (sym c.is_empty.ensures ∙ c.if-is_empty.true)))

pub returns-then-whole : goal.returns-then-whole
returns-then-whole c =
    sym (row-whole (graph_of c.args.before.now) (graph_of c.args.after.now) c.args.node c.deref.result.now c.args.makers.now c.are_marked-whole.result
    (subst (AreReached (graph_of c.args.after.now) c.args.node) (sym c.deref.ensures.value) c.in_ok-still.ensures) c.are_marked-whole.ensures c.if-whole.true)

pub returns : goal.returns
returns c =
    row-by-marks (graph_of c.args.before.now) (graph_of c.args.after.now) c.args.node c.deref-2.result.now c.deref-3.result.now c.args.makers.now c.are_still_marked-stays.result
    (subst (AreReached (graph_of c.args.before.now) c.args.node) (sym c.deref-2.ensures.value) c.in_ok-marks.ensures)
    (subst (AreReached (graph_of c.args.after.now) c.args.node) (sym c.deref-3.ensures.value) c.in_ok-still.ensures) c.are_still_marked-stays.ensures
