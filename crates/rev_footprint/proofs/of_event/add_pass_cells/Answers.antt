use Rattle.std.proofs.Common.{◌++◌, [], sym}
use Rattle.std.proofs.lemmas.List.{append-nil}
use Rattle.rev_dirty.specs.Inputs.{inputs}
use Rattle.rev_dirty.specs.Seen.{producer_marks, stamp_cells, deps_cells}
use Rattle.rev_graph.specs.Graph.{build_at, outputs_of}
use Rattle.rev_footprint.specs.Reads.{pass_reads}
use Rattle.rev_footprint.proofs.AddsLemmas.{adds-then, adds-as}
use Rattle.rev_footprint.proofs.of_event.add_pass_cells.Goals as goal

pub returns : goal.returns
unfolding pass_reads
returns c =
    let builds = c.args.graph.now.manifest.builds in
    let build = build_at builds c.args.edge in
    let x0 = c.args.reads.now.keys in
    let x1 = c.add_producer_marks.new.reads.keys in
    let x2 = c.add_output_stamps.new.reads.keys in
    let x3 = c.add_deps.new.reads.keys in
    let marks = producer_marks builds (inputs c.args.cells.now.state build) in
    let stamps = stamp_cells (outputs_of build) in
    let deps = deps_cells build in
    adds-then x0 x1 x3 marks (stamps ++ (deps ++ [])) c.in_ok-add_producer_marks.ensures
    (adds-then x1 x2 x3 stamps (deps ++ []) c.in_ok-add_output_stamps.ensures (adds-as x2 x3 deps (deps ++ []) (sym (append-nil deps)) c.in_ok-add_deps.ensures))
