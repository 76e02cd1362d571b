use Rattle.std.proofs.Common.{◌≡◌, ◌<◌, ◌^◌, ◌≤◌, ap, arith, length, map, subst, ◌∙◌}
use Rattle.rev_graph.specs.declared.graph.TheConstants.Graph.{MAX_EDGES}
use Rattle.rev_scene.specs.Scenes.{run_value, runs_of}
use Rattle.rev_scene.proofs.SceneProof.{is-scene}
use Rattle.rev_scene.proofs.scene.scene_of.Goals as goal

pub returns-clause-scene : goal.returns-clause-scene
returns-clause-scene c =
    let builds = c.args.graph.now.manifest.builds in
    let lines = c.args.builds.now in
    let o = c.args.observation.now in
    let edges = c.args.edges.now in
    let early = c.args.early.now in
    let few : length builds ≤ MAX_EDGES = c.edges.ensures.graph.few in
    let paths : length o.entries.paths < 2 ^ 32 =
    subst (λ v. length v.paths < 2 ^ 32) c.entries.ensures (omega (arith, c.if-len-from.false, c.len.ensures, c.from.ensures)) in
    let commands : length c.in_ok-commands.commands.items < 2 ^ 32 = omega (arith, c.if-len.false, c.len-2.ensures) in
    let ran : map run_value c.in_ok-commands.commands.items ≡ runs_of (length builds) lines o edges early =
    c.in_ok-commands.ensures ∙ ap (λ n. runs_of n lines o edges early) c.edges.ensures.edges in
    is-scene builds lines o edges early c.args.hidden.now c.in_ok-steps.steps.items c.push.new.self.items c.new.result
    c.in_ok-entries.entries.items c.in_ok-commands.commands.items c.in_ok-steps.ensures c.in_ok-push.ensures.items c.new.ensures.items few c.in_ok-entries.ensures paths c.requires.within ran commands
