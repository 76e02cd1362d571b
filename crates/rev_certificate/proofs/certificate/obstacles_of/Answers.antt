use Rattle.std.proofs.Common.{List, ◌++◌, map, ap, ◌∙◌}
use Rattle.rev_entry_conflicts.specs.declared.conflict.Conflict.{Conflict}
use Rattle.rev_entry_conflicts.specs.Conflicts.{conflicts}
use Rattle.rev_entry_conflicts.specs.Orders.{scene}
use Rattle.rev_certificate.specs.declared.obstacle.Obstacle.TheVariants as obstacle
use Rattle.rev_certificate.specs.Obstacles.{of_commands, of_edges, of_observation}
use Rattle.rev_certificate.proofs.CertificateLemmas.{all-added}
use Rattle.rev_certificate.proofs.certificate.obstacles_of.Goals as goal

pub returns : goal.returns
returns c =
    let s = c.args.scene.now in
    all-added (of_observation c.args.observation.now) (of_edges c.args.graph.now.manifest.builds c.args.edges.now c.args.early.now c.args.marks.needed.now c.args.marks.began.now c.args.marks.ended.now) (of_commands c.args.observation.now)
    (map obstacle.Conflict (conflicts (scene s.steps.items s.entries.items s.commands.items))) c.new-obstacles.result.items c.add_of_observation.new.obstacles.items c.add_of_edges.new.obstacles.items c.add_of_commands.new.obstacles.items
    c.add_conflicts.new.obstacles.items c.new-obstacles.ensures.items c.in_ok-add_of_observation.ensures c.in_ok-add_of_edges.ensures c.in_ok-add_of_commands.ensures
    (c.in_ok-add_conflicts.ensures
    ∙ ap (λ (found : List Conflict). c.add_of_commands.new.obstacles.items ++ map obstacle.Conflict found)
    (c.deref-4.ensures.value ∙ c.in_ok-found.ensures ∙ ap (λ steps. conflicts (scene steps c.deref-2.result.now c.deref-3.result.now)) c.deref.ensures.value
    ∙ ap (λ entries. conflicts (scene s.steps.items entries c.deref-3.result.now)) c.deref-2.ensures.value ∙ ap (λ commands. conflicts (scene s.steps.items s.entries.items commands)) c.deref-3.ensures.value))
