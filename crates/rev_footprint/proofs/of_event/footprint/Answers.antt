use Rattle.std.proofs.Common.{◌≡◌, ◌≤◌, arith, length, take, sym, subst, ap, ◌∙◌}
use Rattle.std.specs.FinSet as cells
use Rattle.std.specs.List.{IsDistinct}
use Rattle.std.specs.Ordering.{eq_by_cmp}
use Rattle.rev_cells.specs.Keys.{cell_cmp}
use Rattle.rev_events.proofs.WrittenLemmas.{written-once}
use Rattle.rev_events.specs.Written.{written}
use Rattle.rev_footprint.specs.Footprint.{footprint}
use Rattle.rev_footprint.specs.Reads.{reads_besides}
use Rattle.rev_footprint.specs.Value.{footprint_by}
use Rattle.rev_footprint.proofs.ListedLemmas.{front-within}
use Rattle.rev_footprint.proofs.MadeLemmas.{adds-both, made}
use Rattle.rev_footprint.proofs.OnceLemmas.{once_by_test, outputs_once}
use Rattle.rev_footprint.proofs.of_event.footprint.Goals as goal

pub add_reads-requires : goal.add_reads-requires
add_reads-requires c =
    let manifest = c.args.graph.now.manifest in
    let state = c.args.cells.now.state in
    let event = c.args.event.now in
    subst (IsDistinct (eq_by_cmp cell_cmp)) (sym c.in_ok-listed.ensures)
    (once_by_test (written manifest state event) (written-once manifest state event (outputs_once manifest c.edges-edges.ensures.graph.kept)))

pub of-requires-clause-within : goal.of-requires-clause-within
of-requires-clause-within c =
    let listed = c.in_ok-listed.listed in
    let many : c.len-writes.result ≡ length listed.items = c.len-writes.ensures ∙ listed.ok.0 in
    let within : length listed.items ≤ length c.add_reads.new.written.items = front-within listed.items c.add_reads.new.written.items c.in_ok-add_reads.ensures.front in
    omega arith

pub of-requires-clause-distinct : goal.of-requires-clause-distinct
of-requires-clause-distinct c = c.in_ok-add_reads.ensures.distinct

pub returns : goal.returns
unfolding footprint
returns c =
    let writes = c.in_ok-listed.listed.items in
    let all = c.add_reads.new.written.items in
    let besides = reads_besides c.args.graph.now.manifest c.args.cells.now.state c.args.event.now in
    let front : take c.len-writes.result all ≡ writes =
    ap (λ n. take n all) (c.len-writes.ensures ∙ c.in_ok-listed.listed.ok.0) ∙ c.in_ok-add_reads.ensures.front in
    c.of.ensures
    ∙ (λ i. record { reads = cells.from_list {R = cell_cmp} all; writes = front i; whole = c.is_plan.result })
    ∙ made all writes besides c.is_plan.result (adds-both writes all besides c.in_ok-add_reads.ensures.all)
    ∙ (λ i. footprint_by (c.is_plan.ensures i) besides (c.in_ok-listed.ensures i))
