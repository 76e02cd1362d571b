use Rattle.std.proofs.Common.{◌++◌, [], sym}
use Rattle.std.proofs.lemmas.List.{append-nil}
use Rattle.rev_dirty.specs.Inputs.{inputs}
use Rattle.rev_dirty.specs.Seen.{producer_marks, seen_stamps, stamp_cells, built_cells, deps_cells}
use Rattle.rev_graph.specs.Graph.{build_at, outputs_of}
use Rattle.rev_footprint.specs.Reads.{clean_reads}
use Rattle.rev_footprint.proofs.AddsLemmas.{adds-then, adds-as}
use Rattle.rev_footprint.proofs.of_event.add_reason_cells.Goals as goal

pub returns : goal.returns
unfolding clean_reads
returns c =
    let builds = c.args.graph.now.manifest.builds in
    let build = build_at builds c.args.edge in
    let all = inputs c.args.cells.now.state build in
    let x0 = c.args.reads.now.keys in
    let x1 = c.add_producer_marks.new.reads.keys in
    let x2 = c.add_seen_stamps.new.reads.keys in
    let x3 = c.add_output_stamps.new.reads.keys in
    let x4 = c.add_output_records.new.reads.keys in
    let x5 = c.add_deps.new.reads.keys in
    let marks = producer_marks builds all in
    let seen = seen_stamps builds all in
    let stamps = stamp_cells (outputs_of build) in
    let built = built_cells (outputs_of build) in
    let deps = deps_cells build in
    adds-then x0 x1 x5 marks (seen ++ (stamps ++ (built ++ (deps ++ [])))) c.in_ok-add_producer_marks.ensures
    (adds-then x1 x2 x5 seen (stamps ++ (built ++ (deps ++ []))) c.in_ok-add_seen_stamps.ensures
    (adds-then x2 x3 x5 stamps (built ++ (deps ++ [])) c.in_ok-add_output_stamps.ensures
    (adds-then x3 x4 x5 built (deps ++ []) c.in_ok-add_output_records.ensures (adds-as x4 x5 deps (deps ++ []) (sym (append-nil deps)) c.in_ok-add_deps.ensures))))
