use Rattle.std.proofs.Common.{map, subst}
use Rattle.rev_manifest.specs.Manifest.{ManifestValue}
use Rattle.rev_cells.specs.State.{State}
use Rattle.rev_history.specs.Timeline.{kept_events}
use Rattle.rev_hints.specs.Changes.{change_in, change_of}
use Rattle.rev_hints.specs.Hints.{AreHintsBy, hint_value, recorded_paths}
use Rattle.rev_hints.proofs.HintLemmas.{hints-by}
use Rattle.rev_hints.proofs.hints.change_hints.Goals as goal

pub returns : goal.returns
returns c =
    let t = c.args.history.now.timeline in
    let found = change_in c.in_ok-changes.changes.entries in
    let hints = map hint_value c.in_ok-hints.hints.items in
    hints-by t c.graph.result.now c.edges-edges.ensures.graph c.graph.ensures found (change_of t.manifest.builds c.args.names.now.entries (kept_events t)) hints c.in_ok-changes.ensures
    (subst (λ (s : State). AreHintsBy t.manifest.builds (recorded_paths t.manifest.builds s) found hints) c.cells.ensures.state
    (subst (λ (m : ManifestValue). AreHintsBy m.builds (recorded_paths m.builds c.cells.result.now.state) found hints) c.graph-2.ensures c.in_ok-hints.ensures))
