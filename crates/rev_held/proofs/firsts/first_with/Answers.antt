use Rattle.std.proofs.Common.{◌||◌, ◌∙◌, sym}
use Rattle.std.specs.List.{list_any}
use Rattle.rev_causal.specs.Store.{among}
use Rattle.rev_cells.specs.Keys.{cell_cmp}
use Rattle.rev_history.specs.Timeline.{kept_footprint}
use Rattle.rev_held.specs.Dependence.{is_accessed_by}
use Rattle.rev_held.specs.Firsts.{passes}
use Rattle.rev_held.proofs.FirstLemmas.{with-cells, with-whole}
use Rattle.rev_held.proofs.firsts.first_with.Goals as goal

pub returns-then-whole : goal.returns-then-whole
returns-then-whole c t others falls noted = noted.kept ∙ with-whole t others c.args.footprint.now (sym c.whole.ensures ∙ c.if-whole.true)

pub returns : goal.returns
returns c t others falls noted =
    with-cells t others c.args.footprint.now c.reads.result c.writes.result c.latest_at.result (sym c.whole.ensures ∙ c.if-whole.false)
    c.writes.ensures.same c.reads.ensures.same c.reads.ensures.first
    (c.latest_at.ensures
    (λ other. passes (λ g. g.whole) (kept_footprint t other) || (list_any (λ w. passes (λ g. is_accessed_by g w) (kept_footprint t other)) c.writes.result))
    (λ w other. passes (λ g. among cell_cmp g.writes w) (kept_footprint t other)) others falls
    (c.latest_at-latest.ensures (λ other. passes (λ g. g.whole) (kept_footprint t other)) (λ w other. passes (λ g. is_accessed_by g w) (kept_footprint t other)) others falls noted.plan noted.named)
    noted.written)
