use Rattle.std.proofs.Common.{◌≡◌, ◌<◌, ℕ, [], List, length, get_or, false, ◌∙◌, ap, arith, sym, below_more}
use Rattle.std.proofs.lemmas.List.{length-map}
use Rattle.rev_graph.specs.Graph.{build_at, inputs_of, producer_of}
use Rattle.rev_plan.specs.Plan.{is_lacking}
use Rattle.rev_plan.proofs.PlanLemmas.{lacking-at, position-first, position-none}
use Rattle.rev_plan.proofs.lacking.first_lacking.Goals as goal

pub returns-then-lacking : goal.returns-then-lacking
returns-then-lacking c =
    let builds = c.args.graph.now.manifest.builds in
    let state = c.args.cells.now.state in
    let inputs : List (List ℕ) = inputs_of (build_at builds c.args.edge) in
    let within : c.loop-position.position < length inputs = omega (arith, c.loop-position-test.true, ap length c.producers-producers.ensures, length-map inputs (producer_of builds)) in
    sym (position-first (is_lacking builds state) inputs c.loop-position.position [] within c.loop-position.invariant
    (lacking-at builds state inputs c.producers-producers.result.now c.loop-position.position c.input_at.result.now c.producer_at-producer.result c.producers-producers.ensures c.input_at.ensures c.producer_at-producer.ensures
    ∙ sym c.is_lacking-lacking.ensures ∙ c.if-lacking.true))

pub loop-position-preserved : goal.loop-position-preserved
loop-position-preserved c =
    let builds = c.args.graph.now.manifest.builds in
    let state = c.args.cells.now.state in
    let inputs : List (List ℕ) = inputs_of (build_at builds c.args.edge) in
    let here : is_lacking builds state (get_or inputs c.loop-position.position []) ≡ false =
    lacking-at builds state inputs c.producers-producers.result.now c.loop-position.position c.input_at.result.now c.producer_at-producer.result c.producers-producers.ensures c.input_at.ensures c.producer_at-producer.ensures
    ∙ sym c.is_lacking-lacking.ensures ∙ c.if-lacking.false in
    below_more (λ k. is_lacking builds state (get_or inputs k []) ≡ false) c.loop-position.position c.loop-position.invariant here

pub returns : goal.returns
returns c =
    let builds = c.args.graph.now.manifest.builds in
    let inputs : List (List ℕ) = inputs_of (build_at builds c.args.edge) in
    sym (position-none (is_lacking builds c.args.cells.now.state) inputs []
    (λ k h. c.loop-position.invariant k (omega (arith, c.loop-position-test.false, ap length c.producers-producers.ensures, length-map inputs (producer_of builds)))))
