use Rattle.std.proofs.Common.{◌≡◌, ℕ, Bool, true, length, arith, sym, subst, ◌∙◌}
use Rattle.std.specs.List.{list_all, range_with_len}
use Rattle.rev_ranks.specs.Sets.{is_marked}
use Rattle.rev_needless.specs.Staying.{implies}
use Rattle.rev_needless.proofs.ListLemmas.{all-fails, all-next}
use Rattle.rev_needless.proofs.marks.commands_still_marked.Goals as goal

pub loop-node-preserved : goal.loop-node-preserved
loop-node-preserved c =
    all-next (λ n. implies (is_marked c.args.commands.now n) (implies (is_marked c.args.before.now n) (is_marked c.args.after.now n))) c.loop-node.node c.loop-node.invariant
    (sym c.command_still_marked-stays.ensures ∙ c.if-not-stays.false)

pub returns-then-not-stays : goal.returns-then-not-stays
returns-then-not-stays c =
    sym (all-fails (λ n. implies (is_marked c.args.commands.now n) (implies (is_marked c.args.before.now n) (is_marked c.args.after.now n))) c.loop-node.node (length c.args.commands.now) c.loop-node-test.true
    (sym c.command_still_marked-stays.ensures ∙ c.if-not-stays.true))

pub returns : goal.returns
returns c =
    let all : c.loop-node.node ≡ length c.args.commands.now = omega arith in
    sym (subst (λ k. list_all (λ n. implies (is_marked c.args.commands.now n) (implies (is_marked c.args.before.now n) (is_marked c.args.after.now n))) (range_with_len 0 k) ≡ true) all c.loop-node.invariant)
