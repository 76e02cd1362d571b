use Rattle.std.proofs.Common.{◌≡◌, ◌∙◌, ℕ, sym, subst, List, map, true, ◌&&◌, is_some}
use Rattle.std.specs.List.{All, Contains, filter_map}
use Rattle.std.specs.Prelude.{is_none, nat_lt}
use Rattle.rev_cells.specs.declared.value.DepsRecord.{DepsRecord}
use Rattle.rev_dirty.specs.Chosen.{all_reasons, stamp_of_first}
use Rattle.rev_dirty.specs.Facts.{facts_of_input}
use Rattle.rev_dirty.specs.Reasons.{holds, lacks_deps, has_old_deps}
use Rattle.rev_graph.specs.Graph.{build_at}
use Rattle.rev_dirty.specs.declared.input.Input.{Input}
use Rattle.rev_dirty.specs.Inputs.{inputs}
use Rattle.rev_dirty.specs.Walk.{IsPhonyEdge, known}
use Rattle.rev_dirty.proofs.ReasonLemmas.{command-are, all-phony, has-old-deps}
use Rattle.rev_dirty.proofs.dirtiness.command_reasons.Goals as goal

pub know-requires-clause-phony : goal.know-requires-clause-phony
know-requires-clause-phony c =
    let builds = c.args.graph.now.manifest.builds in
    let state = c.args.cells.now.state in
    let phony : All (IsPhonyEdge builds) (filter_map (λ (input : Input). input.through) c.deref-3.result.now) =
    subst (λ (facts : List Input). All (IsPhonyEdge builds) (filter_map (λ (input : Input). input.through) facts)) (sym (c.deref-3.ensures.value ∙ c.in_ok-inputs.ensures))
    (all-phony builds state (inputs state (build_at builds c.args.edge))) in
    phony

pub returns-clause-reasons : goal.returns-clause-reasons
returns-clause-reasons c =
    let builds = c.args.graph.now.manifest.builds in
    let state = c.args.cells.now.state in
    let build = build_at builds c.args.edge in
    let entries = c.know.new.known.entries in
    let facts = map (facts_of_input builds state) (inputs state build) in
    let inputs-are : c.deref-3.result.now ≡ facts = c.deref-3.ensures.value ∙ c.in_ok-inputs.ensures in
    let there : (other : ℕ) → Contains (filter_map (λ (input : Input). input.through) facts) other → is_some (known entries other) ≡ true =
    λ other at. c.in_ok-know.ensures.all other (subst (λ (fs : List Input). Contains (filter_map (λ (input : Input). input.through) fs) other) (sym inputs-are) at) in
    let lacks : c.lacks_deps-lacks_deps.result ≡ lacks_deps state build =
    c.lacks_deps-lacks_deps.ensures ∙ (λ i. c.keeps_deps.ensures i && is_none (c.deps_record-deps.ensures i)) in
    let old : c.are_old-has_old_deps.result ≡ has_old_deps state build =
    c.are_old-has_old_deps.ensures
    ∙ (λ i. holds (λ (deps : DepsRecord). nat_lt deps.stamp (stamp_of_first ((c.deref-4.ensures.value ∙ c.in_ok-outputs.ensures) i))) (c.deps_record-deps.ensures i))
    ∙ has-old-deps state build in
    c.in_ok-reasons.ensures
    ∙ (λ i. all_reasons entries ((c.deref-5.ensures.value ∙ c.in_ok-outputs.ensures) i) ((c.deref-6.ensures.value ∙ c.in_ok-inputs.ensures) i) ((c.deref-7.ensures.value ∙ c.in_ok-changes.ensures.changes) i)
    (lacks i) (old i))
    ∙ command-are builds c.args.graph.now.ranks state c.args.edge entries c.requires.graph.ranked c.in_ok-know.ensures.knowledge there c.requires.command
