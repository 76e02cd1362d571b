use Rattle.std.proofs.Common.{◌≡◌, ◌||◌, ◌++◌, flat_map, ap, sym, ◌∙◌}
use Rattle.rev_causal.specs.Store.{among}
use Rattle.rev_cells.specs.Keys.{cell_cmp}
use Rattle.rev_graph.specs.Graph.{build_at}
use Rattle.rev_dirty.specs.Inputs.{inputs, paths_of}
use Rattle.rev_dirty.specs.Reasons.{counted}
use Rattle.rev_dirty.specs.Seen.{seen_paths, stamp_cells}
use Rattle.rev_dirty.specs.Visible.{line_inputs}
use Rattle.rev_footprint.specs.Behind.{stamps_behind}
use Rattle.rev_footprint.proofs.AddsLemmas.{adds-then}
use Rattle.rev_footprint.proofs.SeenStamps.{counted-paths, seen-among}
use Rattle.rev_footprint.proofs.reads.add_seen_stamps.Goals as goal

pub returns : goal.returns
returns c = λ q.
    let builds = c.args.graph.now.manifest.builds in
    let state = c.args.cells.now.state in
    let build = build_at builds c.args.edge in
    let old = c.args.reads.now.keys in
    let middle = c.add_input_stamps.new.reads.keys in
    let new = c.add_stamps_behind.new.reads.keys in
    let roots = line_inputs build ++ c.args.listed.now in
    let all = c.in_ok-edges.edges.keys in
    let same : roots ≡ paths_of (counted (inputs state build)) = ap (λ ps. line_inputs build ++ ps) c.requires.listed ∙ sym (counted-paths state build) in
    adds-then old middle new (stamp_cells roots) (stamps_behind builds c.as_slice.result.now) c.in_ok-add_input_stamps.ensures c.in_ok-add_stamps_behind.ensures q
    ∙ (λ i. among cell_cmp old q || among cell_cmp (stamp_cells roots ++ stamps_behind builds (c.as_slice.ensures.keys i)) q)
    ∙ ap (λ b. among cell_cmp old q || b) (seen-among c.args.graph.now c.edges-edges.ensures.graph roots all c.in_ok-edges.ensures.behind q)
    ∙ (λ i. among cell_cmp old q || among cell_cmp (stamp_cells (flat_map (seen_paths builds) (same i))) q)
