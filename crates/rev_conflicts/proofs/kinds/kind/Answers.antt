use Rattle.std.proofs.Common.{refl}
use Rattle.rev_conflicts.specs.Tables.{scene}
use Rattle.rev_conflicts.proofs.KindLemmas.{kind-found}
use Rattle.rev_conflicts.proofs.kinds.kind.Goals as goal

pub returns : goal.returns
returns c =
    kind-found (scene c.args.graph.now.manifest.builds c.args.files.now c.args.paths.now c.args.commands.now c.args.edges.now c.args.hidden.now) c.args.told.now c.index-commands-told.result c.index-commands-told-2.result
    c.waits_for-back.result c.leaves_too-both.result _ c.change_at-change.result c.look_at-look.result c.kind_by.result c.requires.met.touches.within c.requires.met.uses c.index-commands-told.is c.index-commands-told-2.is
    c.kind_by.ensures c.waits_for-back.ensures c.leaves_too-both.ensures refl c.change_at-change.ensures c.look_at-look.ensures
