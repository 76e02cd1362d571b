use Rattle.std.proofs.Common.{◌≡◌, ◌++◌, List, ℕ, Option, map, sym, ap, ◌∙◌}
use Rattle.std.specs.List.{filter_map}
use Rattle.std.proofs.lemmas.List.{map-append}
use Rattle.std.proofs.lemmas.List.Elements.{filter_map-append}
use Rattle.rev_cells.specs.declared.cell.Cell.TheVariants.{Mark}
use Rattle.rev_dirty.specs.Inputs.{inputs, producers_in, paths_in, deps_record}
use Rattle.rev_dirty.specs.Seen.{producer_marks}
use Rattle.rev_graph.specs.Graph.{build_at, inputs_of, producer_of}
use Rattle.rev_plan.proofs.StepsLemmas.{among}
use Rattle.rev_footprint.proofs.AddsLemmas.{adds-then, adds-as}
use Rattle.rev_footprint.proofs.SeenStamps.{all-paths}
use Rattle.rev_footprint.proofs.reads.add_producer_marks.Goals as goal

pub returns : goal.returns
returns c =
    let builds = c.args.graph.now.manifest.builds in
    let state = c.args.cells.now.state in
    let build = build_at builds c.args.edge in
    let a = c.args.reads.now.keys in
    let b = c.add_marks.new.reads.keys in
    let d = c.add_marks-2.new.reads.keys in
    let marks_among = λ (producers : List (Option ℕ)). map Mark (filter_map (λ (producer : Option ℕ). producer) producers) in
    let marks = λ (paths : List (List ℕ)). map Mark (producers_in builds paths) in
    let listed = paths_in (deps_record state build) in
    let x = marks_among c.producers.result.now in
    let y = marks_among c.args.listed.now in
    let whole : x ++ y ≡ producer_marks builds (inputs state build) =
    (λ i. marks_among (c.producers.ensures i) ++ marks_among (c.requires.listed i))
    ∙ (λ i. map Mark (among builds (inputs_of build) i) ++ map Mark (among builds listed i))
    ∙ sym (map-append Mark (producers_in builds (inputs_of build)) (producers_in builds listed))
    ∙ ap (map Mark) (sym (filter_map-append (producer_of builds) (inputs_of build) listed))
    ∙ ap marks (sym (all-paths state build)) in
    adds-as a d (x ++ y) (producer_marks builds (inputs state build)) whole (adds-then a b d x y c.in_ok-add_marks.ensures c.in_ok-add_marks-2.ensures)
