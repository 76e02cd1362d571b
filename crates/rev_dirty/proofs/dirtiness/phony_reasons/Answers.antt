use Rattle.std.proofs.Common.{◌≡◌, ◌++◌, ◌∙◌, ap, sym, true, false, length, nat_eq, map}
use Rattle.rev_graph.specs.Graph.{build_at}
use Rattle.rev_dirty.specs.declared.output.Output.{Output}
use Rattle.rev_dirty.specs.declared.reason.Reason.TheVariants as reason
use Rattle.rev_dirty.specs.Chosen.{positions}
use Rattle.rev_dirty.specs.Inputs.{inputs, paths_in}
use Rattle.rev_dirty.proofs.ReasonLemmas.{phony-are, count-inputs}
use Rattle.rev_dirty.proofs.dirtiness.phony_reasons.Goals as goal

pub returns-then-not-has_no_input : goal.returns-then-not-has_no_input
returns-then-not-has_no_input c =
    let builds = c.args.graph.now.manifest.builds in
    let state = c.args.cells.now.state in
    let build = build_at builds c.args.edge in
    let some : nat_eq (length (inputs state build)) 0 ≡ false =
    ap (λ n. nat_eq n 0) (sym (count-inputs state build c.listed_in.result.now (c.listed_in.ensures ∙ ap paths_in c.deps_record-deps.ensures))) ∙ sym c.has_no_input.ensures ∙ c.if-not-has_no_input.true in
    c.new-reasons.ensures.items ∙ phony-are builds state c.args.edge false c.requires.phony some

pub returns : goal.returns
returns c =
    let builds = c.args.graph.now.manifest.builds in
    let state = c.args.cells.now.state in
    let build = build_at builds c.args.edge in
    let none : nat_eq (length (inputs state build)) 0 ≡ true =
    ap (λ n. nat_eq n 0) (sym (count-inputs state build c.listed_in.result.now (c.listed_in.ensures ∙ ap paths_in c.deps_record-deps.ensures))) ∙ sym c.has_no_input.ensures ∙ c.if-not-has_no_input.false in
    c.in_ok-push_missing.ensures
    ∙ (λ i. c.new-reasons.ensures.items i ++ map reason.Missing (positions (λ (o : Output). nat_eq o.stamp 0) ((c.deref.ensures.value ∙ c.in_ok-outputs.ensures) i)))
    ∙ phony-are builds state c.args.edge true c.requires.phony none
