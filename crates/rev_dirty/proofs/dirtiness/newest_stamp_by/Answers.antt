use Rattle.std.proofs.Common.{◌≡◌, ◌∙◌, ℕ, ap, sym, subst, List, map, true, is_some}
use Rattle.std.specs.List.{All, Contains, filter_map}
use Rattle.rev_graph.specs.Graph.{build_at}
use Rattle.rev_dirty.specs.declared.input.Input.{Input}
use Rattle.rev_dirty.specs.Facts.{facts_of_input}
use Rattle.rev_dirty.specs.Inputs.{inputs}
use Rattle.rev_dirty.specs.Visible.{greatest}
use Rattle.rev_dirty.specs.Walk.{IsPhonyEdge, known, shown}
use Rattle.rev_dirty.proofs.ReasonLemmas.{all-phony, newest-are}
use Rattle.rev_dirty.proofs.dirtiness.newest_stamp_by.Goals as goal

pub know-requires-clause-phony : goal.know-requires-clause-phony
know-requires-clause-phony c =
    let builds = c.args.graph.now.manifest.builds in
    let state = c.args.cells.now.state in
    subst (λ (facts : List Input). All (IsPhonyEdge builds) (filter_map (λ (input : Input). input.through) facts)) (sym (c.deref-2.ensures.value ∙ c.in_ok-inputs.ensures))
    (all-phony builds state (inputs state (build_at builds c.args.edge)))

pub returns-clause-stamp : goal.returns-clause-stamp
returns-clause-stamp c =
    let builds = c.args.graph.now.manifest.builds in
    let state = c.args.cells.now.state in
    let all = inputs state (build_at builds c.args.edge) in
    let entries = c.know.new.known.entries in
    let facts = map (facts_of_input builds state) all in
    let inputs-are : c.deref-2.result.now ≡ facts = c.deref-2.ensures.value ∙ c.in_ok-inputs.ensures in
    let there : (other : ℕ) → Contains (filter_map (λ (input : Input). input.through) facts) other → is_some (known entries other) ≡ true =
    λ other at. c.in_ok-know.ensures.all other (subst (λ (fs : List Input). Contains (filter_map (λ (input : Input). input.through) fs) other) (sym inputs-are) at) in
    c.greatest_shown.ensures ∙ ap (λ fs. greatest (map (shown entries) fs)) (c.deref-3.ensures.value ∙ c.in_ok-inputs.ensures)
    ∙ newest-are builds c.args.graph.now.ranks state all entries c.requires.graph.ranked c.in_ok-know.ensures.knowledge there
