use Rattle.rev_scene.specs.Scenes.{entry_at}
use Rattle.rev_scene.proofs.SceneLemmas.{pushed-more}
use Rattle.rev_scene.proofs.makers.entries_of.Goals as goal

pub loop-number-preserved : goal.loop-number-preserved
loop-number-preserved c =
    pushed-more (entry_at c.args.graph.now.manifest.builds c.args.observation.now c.args.hidden.now) c.loop-number.number c.entry_at.result c.loop-number.entries.items c.push.new.self.items c.loop-number.invariant c.in_ok-push.ensures.items
    c.entry_at.ensures
