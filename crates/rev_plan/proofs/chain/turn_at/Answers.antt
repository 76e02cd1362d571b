use Rattle.std.proofs.Common.{◌≡◌, ◌<◌, ℕ, List, Bool, true, Option, length, set, sym, ap, ◌∙◌, arith}
use Rattle.std.proofs.lemmas.Bool.{eqb-true}
use Rattle.std.proofs.lemmas.Bool.Decides.{nat_tests}
use Rattle.rev_dirty.specs.Reasons.{reasons_of}
use Rattle.rev_ranks.specs.Sets.{is_marked}
use Rattle.rev_plan.specs.Chain.{step_from, told_reasons, turn_from}
use Rattle.rev_plan.proofs.TurnLemmas.{bare-turn, explained-turn, ok-more, on-ok, unwanted-told, unwanted-turn, wanted-told}
use Rattle.rev_plan.proofs.chain.turn_at.Goals as goal

pub returns-then-not-is_wanted-clause-turn : goal.returns-then-not-is_wanted-clause-turn
returns-then-not-is_wanted-clause-turn c =
    unwanted-turn c.args.graph.now.manifest.builds c.args.cells.now.state (is_marked (set c.args.in_chain.now.items c.args.edge true)) c.args.edge (sym c.is_wanted.ensures ∙ c.if-not-is_wanted.true)

pub returns-then-not-is_wanted-clause-reasons : goal.returns-then-not-is_wanted-clause-reasons
returns-then-not-is_wanted-clause-reasons c =
    c.requires.none ∙ unwanted-told c.args.graph.now.manifest.builds c.args.cells.now.state (is_marked c.args.in_chain.now.items) c.args.edge (sym c.is_wanted.ensures ∙ c.if-not-is_wanted.true)

pub returns-then-not-is_empty-clause-turn : goal.returns-then-not-is_empty-clause-turn
returns-then-not-is_empty-clause-turn c =
    let are = c.in_ok-reasons.ensures.reasons ∙ (λ i. reasons_of (c.requires.graph i).manifest.builds (c.requires.state i) c.args.edge) in
    let some : 0 < length c.in_ok-reasons.field-0.items = grind (arith, nat_tests, c.is_empty.ensures, c.if-not-is_empty.true, c.in_ok-reasons.field-0.ok.0) in
    explained-turn c.args.graph.now.manifest.builds c.args.cells.now.state (is_marked (set c.args.in_chain.now.items c.args.edge true)) c.args.edge (sym c.is_wanted.ensures ∙ c.if-not-is_wanted.false) c.in_ok-reasons.field-0.items are some

pub returns-then-not-is_empty-clause-reasons : goal.returns-then-not-is_empty-clause-reasons
returns-then-not-is_empty-clause-reasons c =
    let are = c.in_ok-reasons.ensures.reasons ∙ (λ i. reasons_of (c.requires.graph i).manifest.builds (c.requires.state i) c.args.edge) in
    wanted-told c.args.graph.now.manifest.builds c.args.cells.now.state (is_marked c.args.in_chain.now.items) c.args.edge (sym c.is_wanted.ensures ∙ c.if-not-is_wanted.false) c.in_ok-reasons.field-0.items are

pub returns-clause-turn : goal.returns-clause-turn
returns-clause-turn c =
    let builds = c.args.graph.now.manifest.builds in
    let state = c.args.cells.now.state in
    let are = c.in_ok-reasons.ensures.reasons ∙ (λ i. reasons_of (c.requires.graph i).manifest.builds (c.requires.state i) c.args.edge) in
    let bare : length c.in_ok-reasons.field-0.items ≡ 0 = sym c.in_ok-reasons.field-0.ok.0 ∙ eqb-true c.in_ok-reasons.field-0.len 0 (sym c.if-not-is_empty.ensures) in
    let turn = bare-turn builds state (is_marked (set c.args.in_chain.now.items c.args.edge true)) c.args.edge (sym c.is_wanted.ensures ∙ c.if-not-is_wanted.false) c.in_ok-reasons.field-0.items are bare in
    ok-more (λ (step : Option (ℕ × ℕ)). step ≡ step_from c.args.graph.now.manifest.builds c.args.cells.now.state (is_marked c.deref.result.now) c.args.edge)
    (λ (step : Option (ℕ × ℕ)). step ≡ turn_from c.args.graph.now.manifest.builds c.args.cells.now.state (is_marked (set c.args.in_chain.now.items c.args.edge true)) c.args.edge)
    (λ step is. is ∙ ap (λ (marks : List Bool). step_from builds state (is_marked marks) c.args.edge) c.deref.ensures.value ∙ turn) c.next_step.result c.next_step.ensures

pub returns-clause-reasons : goal.returns-clause-reasons
returns-clause-reasons c =
    let are = c.in_ok-reasons.ensures.reasons ∙ (λ i. reasons_of (c.requires.graph i).manifest.builds (c.requires.state i) c.args.edge) in
    on-ok (c.in_ok-reasons.field-0.items ≡ told_reasons c.args.graph.now.manifest.builds c.args.cells.now.state c.args.edge)
    (wanted-told c.args.graph.now.manifest.builds c.args.cells.now.state (is_marked c.args.in_chain.now.items) c.args.edge (sym c.is_wanted.ensures ∙ c.if-not-is_wanted.false) c.in_ok-reasons.field-0.items are) c.next_step.result
