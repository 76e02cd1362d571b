use Rattle.std.proofs.Common.{[], List, get_or, ap, ◌∙◌}
use Rattle.std.proofs.lemmas.List.{get_or_default}
use Rattle.rev_observation.specs.Blocks.{CommandValue, new_command}
use Rattle.rev_scene.specs.Scenes.{run_at, run_of, run_value}
use Rattle.rev_scene.proofs.SceneLemmas.{values-more}
use Rattle.rev_scene.proofs.runs.command_runs.Goals as goal

pub loop-number-preserved : goal.loop-number-preserved
loop-number-preserved c =
    let n = c.loop-number.number in
    let builds = c.args.builds.now in
    let o = c.args.observation.now in
    let early = c.args.early.now in
    values-more run_value (run_at builds o c.args.edges.now early) n c.in_ok-run.run' c.loop-number.runs.items c.push.new.self.items c.loop-number.invariant c.in_ok-push.ensures.items
    (c.in_ok-run.ensures ∙ ap (λ e. run_of builds o early e c.index-commands-number.result) c.edge_at-edge.ensures
    ∙ ap (run_of builds o early (get_or c.args.edges.now n 0))
    (c.index-commands-number.is ∙ get_or_default c.commands-commands.result.now n c.index-commands-number.result (new_command []) c.loop-number-test.true
    ∙ ap (λ (cs : List CommandValue). get_or cs n (new_command [])) c.commands-commands.ensures.same))
