use Rattle.std.proofs.Common.{◌≡◌, ◌&&◌, Some, length, ◌∙◌, ap, arith, sym}
use Rattle.std.specs.Prelude.{is_some}
use Rattle.std.specs.Option.{option_map}
use Rattle.rev_ranks.specs.Sets.{is_marked}
use Rattle.rev_plan.specs.Plan.{lacking, lacking_at, PlanRefusal.MissingInput}
use Rattle.rev_plan.proofs.PlanLemmas.{find-first, find-none}
use Rattle.rev_plan.proofs.lacking.missing_input_among.Goals as goal

pub returns-in-Some : goal.returns-in-Some
returns-in-Some c =
    let builds = c.args.graph.now.manifest.builds in
    let state = c.args.cells.now.state in
    let edge = c.loop-edge.edge in
    let has : lacking builds state edge ≡ Some c.in-Some.position = sym c.first_lacking.ensures ∙ c.in-Some.is in
    let found = find-first (λ edge. is_marked c.args.marks.now edge && is_some (lacking builds state edge)) (length builds) 0 edge (omega arith) (omega (arith, c.loop-edge-test.true, c.edges-edge-end.ensures.edges))
    (λ i. c.if-marks-edge.true i && is_some (has i))
    (λ j low high. c.loop-edge.invariant j high) in
    sym (ap (lacking_at builds state) found ∙ ap (option_map (λ at. MissingInput at edge)) has)

pub returns : goal.returns
returns c =
    let builds = c.args.graph.now.manifest.builds in
    let state = c.args.cells.now.state in
    sym (ap (lacking_at builds state) (find-none (λ edge. is_marked c.args.marks.now edge && is_some (lacking builds state edge)) (length builds) 0
    (λ j low high. c.loop-edge.invariant j (omega (arith, c.loop-edge-test.false, c.edges-edge-end.ensures.edges)))))
