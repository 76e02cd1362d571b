use Rattle.std.proofs.Common.{◌≡◌, ◌<◌, ◌++◌, ◌∷◌, [], List, map, sym, ◌∙◌, subst}
use Rattle.rev_dirty.specs.declared.walk.Task.{Task}
use Rattle.rev_dirty.specs.declared.walk.Task.TheVariants.{Enter, Leave}
use Rattle.rev_dirty.specs.Walk.{needed, IsWalk, GoesOn, work_left}
use Rattle.rev_dirty.proofs.WalkLemmas.{passed-walk, passed-less, passed-goes_on, entered-walk, entered-less, entered-goes_on, last-edge, entered-tasks}
use Rattle.rev_dirty.proofs.walk.enter.Goals as goal

pub returns-then-contains_key-clause-walk : goal.returns-then-contains_key-clause-walk
returns-then-contains_key-clause-walk c =
    passed-walk c.args.graph.now.manifest.builds c.args.cells.now.state c.args.known.now.entries c.args.tasks.now.items c.args.edge (sym c.contains_key.ensures ∙ c.if-contains_key.true) c.requires.walk

pub returns-then-contains_key-clause-goes_on : goal.returns-then-contains_key-clause-goes_on
returns-then-contains_key-clause-goes_on c =
    passed-goes_on c.args.known.now.entries c.args.tasks.now.items c.args.edge (sym c.contains_key.ensures ∙ c.if-contains_key.true)

pub returns-then-contains_key-clause-less : goal.returns-then-contains_key-clause-less
returns-then-contains_key-clause-less c = passed-less c.args.graph.now.manifest.builds c.args.cells.now.state c.args.graph.now.ranks c.args.tasks.now.items c.args.edge

pub counted_on_line-requires : goal.counted_on_line-requires
counted_on_line-requires c = (last-edge c.args.graph.now.manifest.builds c.args.tasks.now.items (Enter c.args.edge) c.requires.walk.edges).is_edge

tasks-are : (c : goal.After-drop-inputs-2) → c.push_entered.new.tasks.items ≡ c.args.tasks.now.items ++ Leave c.args.edge ∷ map Enter (needed c.args.graph.now.manifest.builds c.args.cells.now.state c.args.edge)
tasks-are c =
    entered-tasks c.args.graph.now.manifest.builds c.args.cells.now.state c.args.tasks.now.items c.push.new.self.items c.push_entered.new.tasks.items c.deref-2.result.now c.deref.result.now c.args.edge
    (c.deref.ensures.value ∙ c.in_ok-inputs.ensures) (c.deref-2.ensures.value ∙ c.in_ok-others.ensures) c.in_ok-push.ensures.items c.in_ok-push_entered.ensures

pub returns-clause-walk : goal.returns-clause-walk
returns-clause-walk c =
    let builds = c.args.graph.now.manifest.builds in
    let state = c.args.cells.now.state in
    subst (IsWalk builds state c.args.known.now.entries) (sym (tasks-are c)) (entered-walk builds state c.args.known.now.entries c.args.tasks.now.items c.args.edge c.requires.walk)

pub returns-clause-goes_on : goal.returns-clause-goes_on
returns-clause-goes_on c =
    let builds = c.args.graph.now.manifest.builds in
    let state = c.args.cells.now.state in
    subst (GoesOn c.args.known.now.entries (c.args.tasks.now.items ++ Enter c.args.edge ∷ []) c.args.known.now.entries) (sym (tasks-are c))
    (entered-goes_on builds state c.args.known.now.entries c.args.tasks.now.items c.args.edge (map Enter (needed builds state c.args.edge)))

pub returns-clause-less : goal.returns-clause-less
returns-clause-less c =
    let builds = c.args.graph.now.manifest.builds in
    let state = c.args.cells.now.state in
    let left = work_left builds state c.args.graph.now.ranks in
    subst (λ (tasks : List Task). left tasks < left (c.args.tasks.now.items ++ Enter c.args.edge ∷ [])) (sym (tasks-are c))
    (entered-less builds state c.args.graph.now.ranks c.args.tasks.now.items c.args.edge c.requires.graph.ranked)
