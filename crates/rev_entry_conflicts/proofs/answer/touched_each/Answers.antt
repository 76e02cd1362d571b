use Rattle.std.proofs.Common.{length, take, map, ap, ◌∙◌, arith, ◌≡◌}
use Rattle.std.proofs.Math.Seq.{take-length}
use Rattle.rev_entry_conflicts.specs.Touches.{touched_in}
use Rattle.rev_entry_conflicts.proofs.AnswerLemmas.{lists-more}
use Rattle.rev_entry_conflicts.proofs.answer.touched_each.Goals as goal

pub loop-command-preserved : goal.loop-command-preserved
loop-command-preserved c =
    lists-more (touched_in c.args.count) c.loop-command.lists.items c.in_ok-touched.field-0 c.push.new.self.items c.args.commands.now c.loop-command.command-index c.command-item.result c.loop-command-test.true c.command-item.is
    c.in_ok-push.ensures.items c.loop-command.invariant c.in_ok-touched.ensures

pub returns : goal.returns
returns c =
    let all : c.loop-command.command-index ≡ length c.args.commands.now = omega (arith, c.loop-command-test.false, c.loop-command.auto.command-index-end) in
    c.loop-command.invariant ∙ ap (map (touched_in c.args.count)) (ap (λ n. take n c.args.commands.now) all ∙ take-length c.args.commands.now)
