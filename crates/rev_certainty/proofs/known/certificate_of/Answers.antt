use Rattle.std.proofs.Common.{◌<◌, length, subst, sym, ap, ◌∙◌}
use Rattle.std.specs.List.{AllByRecursion}
use Rattle.rev_manifest.specs.Manifest.{ManifestValue}
use Rattle.rev_entry_conflicts.specs.Conflicts.{conflicts}
use Rattle.rev_entry_conflicts.specs.Orders.{scene}
use Rattle.rev_scene.specs.Scenes.{entries_of, runs_of, steps_of}
use Rattle.rev_certificate.specs.Obstacles.{obstacles}
use Rattle.rev_certainty.proofs.known.certificate_of.Goals as goal

pub certify-requires : goal.certify-requires
certify-requires c = record {
  within = subst (λ (m : ManifestValue). AllByRecursion (λ edge. edge < length m.builds) c.args.edges.now) (sym c.graph.ensures) c.requires;
}

pub returns : goal.returns
returns c =
    let o = c.args.places.now in
    let edges = c.args.edges.now in
    let s = c.in_ok-certificate.certificate.scene in
    record {
      steps = c.in_ok-certificate.ensures.steps ∙ ap (λ (m : ManifestValue). steps_of m.builds) c.graph.ensures;
      entries = c.in_ok-certificate.ensures.entries ∙ (λ i. entries_of (c.graph.ensures i).builds o (c.deref-5.ensures.value i));
      commands = c.in_ok-certificate.ensures.commands ∙ (λ i. runs_of (length (c.graph.ensures i).builds) c.args.builds.now o edges (c.deref-4.ensures.value i));
      obstacles_are = c.in_ok-certificate.ensures.obstacles
          ∙ (λ i. obstacles (c.graph.ensures i).builds o edges (c.deref-4.ensures.value i) (c.deref.ensures.value i) (c.deref-2.ensures.value i) (c.deref-3.ensures.value i)
          (conflicts (scene s.steps.items s.entries.items s.commands.items)));
    }
