use Rattle.std.proofs.Common.{◌≡◌, ◌+◌, ◌<◌, List, ℕ, Bool, true, length, sym, ap, subst, ◌∙◌, arith}
use Rattle.std.specs.Prelude.{All}
use Rattle.std.specs.Global.{Vec}
use Rattle.std.proofs.lemmas.List.FromFn.{length-map-range_with_len}
use Rattle.rev_history.specs.Timeline.{state_at}
use Rattle.rev_manifest.specs.Manifest.{ManifestValue}
use Rattle.rev_ranks.specs.Graph.{graph_of}
use Rattle.rev_ranks.specs.Sets.{IsSetOf, is_marked_or_leads}
use Rattle.rev_unlisted.specs.Always.{never_done_in, sure_lists}
use Rattle.rev_unlisted.specs.Answer.{lists_in}
use Rattle.rev_unlisted.specs.Follows.{follow_lists}
use Rattle.rev_unlisted.specs.Found.{names_of}
use Rattle.rev_unlisted.proofs.FollowLemmas.{follow-is, follow-within}
use Rattle.rev_unlisted.proofs.JoinLemmas.{listed-each}
use Rattle.rev_unlisted.proofs.always.always_run.Goals as goal

pub follow_steps-requires-clause-each : goal.follow_steps-requires-clause-each
follow_steps-requires-clause-each c =
    ap length c.deref.ensures.value
    ∙ listed-each c.in_ok-lists.lists.items (lists_in c.args.history.now.timeline) (length c.args.history.now.timeline.manifest.builds) c.in_ok-lists.ensures
    (length-map-range_with_len _ 0 (length c.args.history.now.timeline.manifest.builds))
    ∙ ap (λ (m : ManifestValue). length m.builds) (sym c.graph-graph.ensures)

pub follow_steps-requires-clause-few : goal.follow_steps-requires-clause-few
follow_steps-requires-clause-few c =
    let none : length c.new-none.result ≡ 0 = ap length c.new-none.ensures in
    omega (arith, none, c.edges-edges.ensures.edges, c.edges-edges.type_inv)

pub leading_to-requires-clause-inside : goal.leading_to-requires-clause-inside
leading_to-requires-clause-inside c =
    let builds = c.graph-graph.result.now.manifest.builds in
    let is = follow-is builds (names_of c.deref.result.now) c.new-none.result true c.in_ok-steps.steps.items c.in_ok-steps.ensures in
    subst (λ (vs : List (Vec ℕ)). All (λ (v : Vec ℕ). All (λ s. s < length vs) v.items) vs) (sym c.deref-2.ensures.value)
    (follow-within (length builds + length c.new-none.result) c.in_ok-steps.steps.items is)

pub leading_to-requires-clause-small : goal.leading_to-requires-clause-small
leading_to-requires-clause-small c =
    let builds = c.graph-graph.result.now.manifest.builds in
    let none : length c.new-none.result ≡ 0 = ap length c.new-none.ensures in
    let is = follow-is builds (names_of c.deref.result.now) c.new-none.result true c.in_ok-steps.steps.items c.in_ok-steps.ensures in
    let steps : length c.deref-2.result.now ≡ length c.graph-graph.result.now.manifest.builds + length c.new-none.result = ap length c.deref-2.ensures.value ∙ is.each in
    omega (arith, none, steps, c.edges-edges.ensures.edges, c.edges-edges.type_inv)

pub leading_to-requires-clause-each : goal.leading_to-requires-clause-each
leading_to-requires-clause-each c =
    let builds = c.graph-graph.result.now.manifest.builds in
    let none : length c.new-none.result ≡ 0 = ap length c.new-none.ensures in
    let is = follow-is builds (names_of c.deref.result.now) c.new-none.result true c.in_ok-steps.steps.items c.in_ok-steps.ensures in
    let steps : length c.deref-2.result.now ≡ length c.graph-graph.result.now.manifest.builds + length c.new-none.result = ap length c.deref-2.ensures.value ∙ is.each in
    let goals : length c.deref-3.result.now ≡ length c.graph-graph.result.now.manifest.builds =
    ap length c.deref-3.ensures.value ∙ ap length c.in_ok-goals.ensures ∙ length-map-range_with_len _ 0 (length builds) in
    omega (arith, none, steps, goals)

pub returns : goal.returns
returns c =
    let t = c.args.history.now.timeline in
    let builds = ap (λ (m : ManifestValue). m.builds) c.graph-graph.ensures in
    let lists = ap names_of c.deref.ensures.value ∙ c.in_ok-lists.ensures in
    let graph : graph_of c.deref-2.result.now ≡ sure_lists c.args.history.now.timeline.manifest.builds (lists_in c.args.history.now.timeline) =
    ap graph_of c.deref-2.ensures.value ∙ c.in_ok-steps.ensures ∙ (λ i. follow_lists (builds i) (lists i) (c.new-none.ensures i) true) in
    let goals : c.deref-3.result.now ≡ never_done_in c.args.history.now.timeline.manifest.builds (state_at c.args.history.now.timeline) =
    c.deref-3.ensures.value ∙ c.in_ok-goals.ensures ∙ (λ i. never_done_in (builds i) (c.cells.ensures.state i)) in
    subst (λ (g : List (List ℕ)). IsSetOf g (is_marked_or_leads g (never_done_in t.manifest.builds (state_at t))) c.in_ok-marks.marks.items) graph
    (subst (λ (m : List Bool). IsSetOf (graph_of c.deref-2.result.now) (is_marked_or_leads (graph_of c.deref-2.result.now) m) c.in_ok-marks.marks.items) goals c.in_ok-marks.ensures)
