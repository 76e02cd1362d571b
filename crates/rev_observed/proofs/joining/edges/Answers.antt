use Rattle.std.proofs.Common.{◌≡◌, ◌<◌, ◌≤◌, ℕ, Some, None, List, [], length, map, get_or, arith, ap, ◌∙◌, sym, subst}
use Rattle.std.specs.List.{AllByRecursion}
use Rattle.rev_observed.specs.CommandValues.{CommandValue}
use Rattle.rev_observed.specs.Joins.{IsFirstLost, edge_of}
use Rattle.rev_observed.specs.Observations.{outputs_of}
use Rattle.rev_observed.proofs.JoinLemmas.{at-outputs_of, first_lost, joined_all, joined_more, length-outputs_of, once-joined}
use Rattle.rev_observed.proofs.SetLemmas.{each_more}
use Rattle.rev_observed.proofs.joining.edges.Goals as goal

pub returns-in_default-clause-lost : goal.returns-in_default-clause-lost
returns-in_default-clause-lost c = λ place h.
    let builds = c.args.graph.now.manifest.builds in
    let commands = c.commands-commands.result.now in
    let i = c.loop-place.place in
    let same : i ≡ place = cc in
    let within : i < length (outputs_of commands) = omega (arith, length-outputs_of commands, c.loop-place-test.true) in
    let at : get_or (outputs_of commands) i [] ≡ c.output.result.now = at-outputs_of commands i c.index-commands-place.result c.loop-place-test.true c.index-commands-place.is ∙ sym c.output.ensures in
    let lost : edge_of builds (get_or (outputs_of commands) i []) ≡ None = ap (edge_of builds) at ∙ sym c.in_default.ensures.edge in
    let P : List CommandValue → Type 0 = λ cs. IsFirstLost builds (outputs_of cs) i in
    let Q : ℕ → Type 0 = λ n. IsFirstLost builds (outputs_of c.args.observation.now.commands) n in
    subst Q same (subst P c.commands-commands.ensures.same (first_lost builds (outputs_of commands) i c.loop-place.edges.items within c.loop-place.invariant.joined lost))

pub loop-place-preserved : goal.loop-place-preserved
loop-place-preserved c =
    let builds = c.args.graph.now.manifest.builds in
    let commands = c.commands-commands.result.now in
    let i = c.loop-place.place in
    let edges = c.loop-place.edges.items in
    let edge = c.in-Some.edge in
    let within : i < length (outputs_of commands) = omega (arith, length-outputs_of commands, c.loop-place-test.true) in
    let at : get_or (outputs_of commands) i [] ≡ c.output.result.now = at-outputs_of commands i c.index-commands-place.result c.loop-place-test.true c.index-commands-place.is ∙ sym c.output.ensures in
    let is : edge_of builds (get_or (outputs_of commands) i []) ≡ Some edge = ap (edge_of builds) at ∙ sym c.in-Some.ensures.edge in
    let below : ℕ → Type 0 = λ e. e < length builds in
    let P : List ℕ → Type 0 = λ es. AllByRecursion below es in
    record {
      joined = ap (map Some) c.in_ok-push.ensures.items ∙ joined_more builds (outputs_of commands) i edges edge within c.loop-place.invariant.joined is;
      within = subst P (sym c.in_ok-push.ensures.items) (each_more below edges edge c.loop-place.invariant.within c.in-Some.ensures.within);
    }

pub returns-clause-once : goal.returns-clause-once
returns-clause-once c =
    let builds = c.args.graph.now.manifest.builds in
    let commands = c.commands-commands.result.now in
    let edges = c.loop-place.edges.items in
    let all = outputs_of c.args.observation.now.commands in
    let past : length (outputs_of commands) ≤ c.loop-place.place = omega (arith, length-outputs_of commands, c.loop-place-test.false) in
    let joined : map Some edges ≡ map (edge_of builds) all = joined_all builds (outputs_of commands) c.loop-place.place edges past c.loop-place.invariant.joined ∙ ap (λ cs. map (edge_of builds) (outputs_of cs)) c.commands-commands.ensures.same in
    once-joined builds all edges c.commands-commands.ensures.distinct joined
