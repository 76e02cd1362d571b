use Rattle.std.proofs.Common.{◌≡◌, length, [], ap, ◌∙◌, arith}
use Rattle.std.specs.List.{flat_map, range_with_len}
use Rattle.rev_entry_conflicts.specs.Conflicts.{of_user}
use Rattle.rev_entry_conflicts.specs.Deeds.{Scene}
use Rattle.rev_entry_conflicts.specs.Orders.{scene}
use Rattle.rev_entry_conflicts.proofs.PairLemmas.{flat-more}
use Rattle.rev_entry_conflicts.proofs.answer.conflicts.Goals as goal

pub loop-used_by-preserved : goal.loop-used_by-preserved
loop-used_by-preserved c =
    let s : Scene = scene c.args.steps.now c.args.entries.now c.args.commands.now in
    flat-more (of_user s) c.loop-used_by.used_by [] c.loop-used_by.found.items c.add_of_user.new.found.items c.loop-used_by.invariant c.in_ok-add_of_user.ensures

pub returns : goal.returns
returns c =
    let s : Scene = scene c.args.steps.now c.args.entries.now c.args.commands.now in
    let all : c.loop-used_by.used_by ≡ length c.args.commands.now = omega (arith, c.loop-used_by-test.false, c.loop-used_by.auto.used_by-end) in
    c.loop-used_by.invariant ∙ ap (λ n. flat_map (of_user s) (range_with_len 0 n)) all
