use Rattle.std.proofs.Common.{ap, subst, ◌∙◌}
use Rattle.rev_manifest.specs.Manifest.{ManifestValue}
use Rattle.rev_observation.specs.Entries.{EntriesValue}
use Rattle.rev_conflicts.specs.Tables.{AreEarly}
use Rattle.rev_certainty.specs.Recorded.{hidden_marks}
use Rattle.rev_certainty.proofs.known.known_of.Goals as goal

pub returns : goal.returns
returns c = record {
  needed = c.in_ok-needed.ensures;
  began = c.in_ok-began.ensures;
  ended = c.in_ok-ended.ensures;
  early = subst (λ (m : ManifestValue). AreEarly m.builds c.args.files.now c.in_ok-early.early.items) c.graph.ensures c.in_ok-early.ensures;
  hidden = c.in_ok-marks.ensures ∙ ap (hidden_marks c.args.filters.now) (c.paths.ensures.same ∙ ap (λ (e : EntriesValue). e.paths) c.entries.ensures);
}
