use Rattle.std.proofs.Common.{ap, map, ◌∙◌}
use Rattle.rev_manifest.specs.Manifest.{ManifestValue}
use Rattle.rev_races.specs.Kinds.{with_kind}
use Rattle.rev_races.proofs.KindLemmas.{are-races}
use Rattle.rev_races.proofs.answer.races.Goals as goal

pub returns : goal.returns
returns c =
    are-races c.args.history.now.timeline c.args.files.now c.in_ok-told.told.items c.in_ok-races.races.items c.in_ok-told.ensures.told
    (c.in_ok-races.ensures
    ∙ ap (map (with_kind c.graph-graph.result.now.manifest.builds)) c.deref-3.ensures.value
    ∙ ap (λ (m : ManifestValue). map (with_kind m.builds) c.in_ok-told.told.items) c.graph-graph.ensures)
