use Rattle.std.proofs.Common.{◌++◌, length, take, ap, sym, subst, ◌∙◌}
use Rattle.std.specs.List.{IsDistinct}
use Rattle.std.specs.Ordering.{eq_by_cmp}
use Rattle.rev_causal.specs.Store.{among}
use Rattle.rev_cells.specs.Keys.{cell_cmp}
use Rattle.rev_footprint.specs.Listed.{others_than}
use Rattle.rev_footprint.proofs.ListedLemmas.{adds-others, distinct-others, front-others}
use Rattle.rev_footprint.proofs.listed.add_others.Goals as goal

pub returns-clause-front : goal.returns-clause-front
returns-clause-front c =
    let written = c.args.written.now.items in
    let read = c.args.read.keys in
    ap (take (length written))
    (c.in_ok-put_behind.ensures
    ∙ ap (λ others. written ++ others) (c.leave_others.ensures ∙ (λ i. others_than (c.deref.ensures.value i) (c.in_ok-others.ensures.same i))))
    ∙ front-others written read

pub returns-clause-all : goal.returns-clause-all
returns-clause-all c = λ q.
    let written = c.args.written.now.items in
    let read = c.args.read.keys in
    ap (λ cells. among cell_cmp cells q)
    (c.in_ok-put_behind.ensures
    ∙ ap (λ others. written ++ others) (c.leave_others.ensures ∙ (λ i. others_than (c.deref.ensures.value i) (c.in_ok-others.ensures.same i))))
    ∙ adds-others written read q

pub returns-clause-distinct : goal.returns-clause-distinct
returns-clause-distinct c =
    let written = c.args.written.now.items in
    let others = c.in_ok-others.others.items in
    subst (IsDistinct (eq_by_cmp cell_cmp))
    (sym (c.in_ok-put_behind.ensures ∙ ap (λ cells. written ++ cells) (c.leave_others.ensures ∙ ap (λ named. others_than named others) c.deref.ensures.value)))
    (distinct-others written others c.requires c.in_ok-others.ensures.distinct)
