use Rattle.std.proofs.Common.{◌≡◌, ℕ, Bool, true, List, take, get_or, sym, subst, ◌∙◌}
use Rattle.std.specs.List.{list_all}
use Rattle.std.proofs.lemmas.Bool.{and_from}
use Rattle.std.proofs.lemmas.List.{take_all}
use Rattle.std.proofs.lemmas.List.Folds.{list_all_at, list_all_more}
use Rattle.rev_ranks.specs.Graph.{graph_of}
use Rattle.rev_needless.specs.Staying.{each_command, still_waits}
use Rattle.rev_needless.proofs.staying.roots_stay.Goals as goal

pub loop-root-preserved : goal.loop-root-preserved
loop-root-preserved c =
    let test : ℕ → Bool = λ root. each_command c.args.commands.now (still_waits (graph_of c.args.before.now) (graph_of c.args.after.now) root) in
    list_all_more test c.args.roots.now c.loop-root.root-index 0 c.loop-root-test.true
    ∙ and_from (list_all test (take c.loop-root.root-index c.args.roots.now)) (test (get_or c.args.roots.now c.loop-root.root-index 0)) c.loop-root.invariant (sym c.in_ok-stays.ensures ∙ c.if-not-stays.false)

pub returns-then-not-stays : goal.returns-then-not-stays
returns-then-not-stays c =
    let test : ℕ → Bool = λ root. each_command c.args.commands.now (still_waits (graph_of c.args.before.now) (graph_of c.args.after.now) root) in
    sym (list_all_at test c.args.roots.now c.loop-root.root-index 0 c.loop-root-test.true (sym c.in_ok-stays.ensures ∙ c.if-not-stays.true))

pub returns : goal.returns
returns c =
    let test : ℕ → Bool = λ root. each_command c.args.commands.now (still_waits (graph_of c.args.before.now) (graph_of c.args.after.now) root) in
    sym (subst (λ (xs : List ℕ). list_all test xs ≡ true) (take_all c.loop-root.root-index c.args.roots.now c.loop-root-test.false) c.loop-root.invariant)
