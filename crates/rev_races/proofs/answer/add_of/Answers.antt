use Rattle.std.proofs.Common.{◌≡◌, ◌<◌, ℕ, List, Some, length, inl, inr, sym, subst, ◌∙◌}
use Rattle.std.specs.Prelude.{All}
use Rattle.std.proofs.lemmas.Bool.{eqb-true}
use Rattle.rev_graph.proofs.StepLemmas.{all-within}
use Rattle.rev_history.specs.Timeline.{kept_events}
use Rattle.rev_races.specs.Races.{lists}
use Rattle.rev_races.specs.Searches.{IsCovered, IsFirstOrQuiet}
use Rattle.rev_races.proofs.KeyLemmas.{either-more, keys-of}
use Rattle.rev_races.proofs.SearchLemmas.{firsts-untold, none-among, rest-untold}
use Rattle.rev_races.proofs.answer.add_of.Goals as goal

pub mark_direct-requires-clause-inside : goal.mark_direct-requires-clause-inside
mark_direct-requires-clause-inside c = all-within c.args.history.now.timeline.manifest.builds c.args.steps.now c.requires.steps

pub add_among-requires-clause-firsts : goal.add_among-requires-clause-firsts
add_among-requires-clause-firsts c =
    firsts-untold c.graph-graph.result.now c.args.files.now c.in-Some.paths.now c.args.user c.deref-3.result.now c.edges-edges.ensures.graph
    (subst (λ (ps : List ℕ). All (IsFirstOrQuiet c.graph-graph.result.now.manifest.builds c.args.user c.in-Some.paths.now) ps) (sym c.deref-3.ensures.value) c.in_ok-places.ensures.firsts)

pub add_among-requires-clause-rest : goal.add_among-requires-clause-rest
add_among-requires-clause-rest c =
    let builds = c.graph-graph.result.now.manifest.builds in
    let paths = c.in-Some.paths.now in
    rest-untold c.graph-graph.result.now c.args.files.now paths c.args.user c.deref-3.result.now c.edges-edges.ensures.graph
    (subst (λ (ps : List ℕ). (place : ℕ) → place < length paths → IsCovered builds c.args.user paths ps place) (sym c.deref-3.ensures.value) c.in_ok-places.ensures.rest)

pub returns-then-is_empty-clause-found : goal.returns-then-is_empty-clause-found
returns-then-is_empty-clause-found c = λ k.
    let t = c.args.history.now.timeline in
    let are : lists c.args.history.now.timeline.manifest c.args.history.now.timeline.opening (kept_events c.args.history.now.timeline) c.args.user ≡ Some c.in-Some.paths.now =
    sym c.in-Some.ensures in (
      λ h. inl h,
      λ e. elim e [
        | inl h ↦ h
        | inr key ↦
            absurd (none-among c.graph-graph.result.now c.args.files.now c.in-Some.paths.now c.args.user c.in_ok-places.places.items c.edges-edges.ensures.graph
            (sym c.in_ok-places.places.ok.0 ∙ eqb-true c.in_ok-places.places.len 0 (sym c.is_empty.ensures ∙ c.if-is_empty.true)) c.in_ok-places.ensures.rest k ((keys-of t c.args.files.now c.args.user c.in-Some.paths.now c.graph-graph.result.now.manifest c.graph-graph.ensures are k).1 key))
      ],
    )

pub returns-clause-found : goal.returns-clause-found
returns-clause-found c = λ k.
    let t = c.args.history.now.timeline in
    let are : lists c.args.history.now.timeline.manifest c.args.history.now.timeline.opening (kept_events c.args.history.now.timeline) c.args.user ≡ Some c.in-Some.paths.now =
    sym c.in-Some.ensures in
    either-more (c.in_ok-add_among.ensures.found k) (keys-of t c.args.files.now c.args.user c.in-Some.paths.now c.graph-graph.result.now.manifest c.graph-graph.ensures are k)
