use Rattle.std.proofs.Common.{◌||◌, [], ap, ◌∙◌}
use Rattle.std.proofs.Math.Seq.{take-length}
use Rattle.rev_causal.specs.Store.{among}
use Rattle.rev_cells.specs.Keys.{cell_cmp}
use Rattle.rev_footprint.specs.Reads.{reads_besides}
use Rattle.rev_footprint.proofs.AddsLemmas.{adds-from}
use Rattle.rev_footprint.proofs.MadeLemmas.{adds-none}
use Rattle.rev_footprint.proofs.of_event.add_reads.Goals as goal

pub returns-then-reads_its_writes-clause-front : goal.returns-then-reads_its_writes-clause-front
returns-then-reads_its_writes-clause-front c = take-length c.args.written.now.items

pub returns-then-reads_its_writes-clause-all : goal.returns-then-reads_its_writes-clause-all
returns-then-reads_its_writes-clause-all c =
    let manifest = c.args.graph.now.manifest in
    let state = c.args.cells.now.state in
    adds-none c.args.written.now.items (reads_besides manifest state c.args.event.now)
    (c.reads_its_writes.ensures c.if-reads_its_writes.true manifest state)

pub returns-then-reads_its_writes-clause-distinct : goal.returns-then-reads_its_writes-clause-distinct
returns-then-reads_its_writes-clause-distinct c = c.requires

pub returns-clause-all : goal.returns-clause-all
returns-clause-all c = λ q.
    let besides = reads_besides c.args.graph.now.manifest c.args.cells.now.state c.args.event.now in
    c.in_ok-add_others.ensures.all q
    ∙ ap (λ b. among cell_cmp c.args.written.now.items q || b)
    (adds-from c.in_ok-read.read.keys [] c.add_besides.new.reads.keys besides c.in_ok-read.ensures.empty c.in_ok-add_besides.ensures q)
