use Rattle.std.proofs.Common.{◌++◌, ◌∷◌, [], ◌<◌, refl, sym, subst}
use Rattle.rev_dirty.specs.declared.walk.Task.{Task}
use Rattle.rev_dirty.specs.declared.walk.Task.TheVariants.{Leave}
use Rattle.rev_dirty.specs.Walk.{IsWalk, GoesOn, work_left, shown_behind}
use Rattle.rev_dirty.proofs.WalkLemmas.{left-needs, left-walk, left-goes_on, left-less, knowledge-more, last-edge}
use Rattle.rev_dirty.proofs.walk.step.Goals as goal

pub leave-requires-clause-needed : goal.leave-requires-clause-needed
leave-requires-clause-needed c = λ other at.
    let builds = c.args.graph.now.manifest.builds in
    let state = c.args.cells.now.state in
    let walk : IsWalk builds state c.args.known.now.entries (c.args.tasks.now.items ++ Leave c.in-Leave.edge ∷ []) =
    subst (λ (task : Task). IsWalk builds state c.args.known.now.entries (c.args.tasks.now.items ++ task ∷ [])) c.in-Leave.is c.requires.walk in
    left-needs builds state c.args.known.now.entries c.args.tasks.now.items c.in-Leave.edge other walk.ready at

pub returns-in_ok-leave-in-Leave-clause-walk : goal.returns-in_ok-leave-in-Leave-clause-walk
returns-in_ok-leave-in-Leave-clause-walk c =
    let builds = c.args.graph.now.manifest.builds in
    let state = c.args.cells.now.state in
    let edge = c.in-Leave.edge in
    let walk : IsWalk builds state c.args.known.now.entries (c.args.tasks.now.items ++ Leave edge ∷ []) =
    subst (λ (task : Task). IsWalk builds state c.args.known.now.entries (c.args.tasks.now.items ++ task ∷ [])) c.in-Leave.is c.requires.walk in
    left-walk builds state c.args.known.now.entries c.leave.new.known.entries c.args.tasks.now.items edge (shown_behind builds state edge) c.in_ok-leave-in-Leave.ensures.added
    (knowledge-more builds state c.args.known.now.entries c.leave.new.known.entries edge (shown_behind builds state edge) walk.knowledge
    (last-edge builds c.args.tasks.now.items (Leave edge) walk.edges) refl c.in_ok-leave-in-Leave.ensures.added)
    walk

pub returns-in_ok-leave-in-Leave-clause-goes_on : goal.returns-in_ok-leave-in-Leave-clause-goes_on
returns-in_ok-leave-in-Leave-clause-goes_on c =
    let builds = c.args.graph.now.manifest.builds in
    let state = c.args.cells.now.state in
    let edge = c.in-Leave.edge in
    subst (λ (task : Task). GoesOn c.args.known.now.entries (c.args.tasks.now.items ++ task ∷ []) c.leave.new.known.entries c.args.tasks.now.items) (sym c.in-Leave.is)
    (left-goes_on c.args.known.now.entries c.leave.new.known.entries c.args.tasks.now.items edge (shown_behind builds state edge) c.in_ok-leave-in-Leave.ensures.added)

pub returns-in_ok-leave-in-Leave-clause-less : goal.returns-in_ok-leave-in-Leave-clause-less
returns-in_ok-leave-in-Leave-clause-less c =
    let left = work_left c.args.graph.now.manifest.builds c.args.cells.now.state c.args.graph.now.ranks in
    subst (λ (task : Task). left c.args.tasks.now.items < left (c.args.tasks.now.items ++ task ∷ [])) (sym c.in-Leave.is)
    (left-less c.args.graph.now.manifest.builds c.args.cells.now.state c.args.graph.now.ranks c.args.tasks.now.items c.in-Leave.edge)
