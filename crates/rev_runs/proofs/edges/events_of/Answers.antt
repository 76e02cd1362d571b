use Rattle.std.proofs.Common.{◌≡◌, ◌+◌, [], ◌∷◌, ◌++◌, sym, ◌∙◌, arith}
use Rattle.std.specs.Prelude.{if◌then◌else◌}
use Rattle.rev_runs.specs.Edges.{is_event_of}
use Rattle.rev_runs.proofs.EdgeLemmas.{filter-range-more}
use Rattle.rev_runs.proofs.edges.events_of.Goals as goal

pub loop-passed-preserved : goal.loop-passed-preserved
loop-passed-preserved c =
    let t = c.args.history.now.timeline in
    let k = c.loop-passed.passed in
    let next : 1 + c.loop-passed.passed ≡ c.loop-passed.passed + 1 = omega arith in
    c.in_ok-add_where.ensures
    ∙ (λ j. c.loop-passed.invariant j ++ (if c.is_at.ensures j then (k + 1) ∷ [] else []))
    ∙ sym (filter-range-more (is_event_of t c.args.edge) 1 k (k + 1) next)
