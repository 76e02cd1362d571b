use Rattle.std.proofs.Common.{◌≡◌, ◌++◌, ℕ, List, [], map, sym, subst, ◌∙◌}
use Rattle.std.specs.List.{Contains, All}
use Rattle.rev_dirty.specs.declared.walk.Task.{Task}
use Rattle.rev_dirty.specs.declared.walk.Task.TheVariants.{Enter}
use Rattle.rev_dirty.specs.Walk.{IsPhonyEdge, IsWalk, GoesOn, is_covered}
use Rattle.rev_dirty.proofs.WalkLemmas.{started-walk, all-known, nil-from_length}
use Rattle.rev_dirty.proofs.walk.know.Goals as goal

pub loop-task-init : goal.loop-task-init
loop-task-init c =
    let builds = c.args.graph.now.manifest.builds in
    let state = c.args.cells.now.state in
    let edges = c.in_ok-edges.edges.items in
    let before = c.args.known.now.entries in
    let tasks : c.push_entered.new.tasks.items ≡ map Enter edges = c.in_ok-push_entered.ensures ∙ (λ i. c.new-tasks.ensures.items i ++ map Enter (c.deref.ensures.value i)) in
    let phony : All (IsPhonyEdge builds) edges = subst (All (IsPhonyEdge builds)) (sym c.in_ok-edges.ensures) c.requires.phony in
    record {
      walk = subst (λ (ts : List Task). IsWalk builds state before ts) (sym tasks) (started-walk builds state before edges c.requires.knowledge phony);
      goes_on = λ edge h. (λ i. is_covered before (tasks i) edge) ∙ h;
    }

pub returns-clause-all : goal.returns-clause-all
returns-clause-all c = λ edge at.
    let edges = c.in_ok-edges.edges.items in
    let before = c.args.known.now.entries in
    let none : c.loop-task.tasks.items ≡ [] = nil-from_length c.loop-task.tasks.items (sym c.loop-task.tasks.ok.0 ∙ c.in_default.ensures.cases.0) in
    let goes : GoesOn before (map Enter edges) c.loop-task.known.entries [] =
    subst (λ (ts : List Task). GoesOn before (map Enter edges) c.loop-task.known.entries ts) none c.loop-task.invariant.goes_on in
    all-known before c.loop-task.known.entries edges goes edge (subst (λ (es : List ℕ). Contains es edge) (sym c.in_ok-edges.ensures) at)
