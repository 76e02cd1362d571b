use Rattle.std.proofs.Common.{◌≡◌, ◌≤◌, ◌++◌, length, sym, ap, ◌∙◌, arith}
use Rattle.std.specs.List.{flat_map, range_with_len}
use Rattle.rev_entry_conflicts.specs.Conflicts.{of_numbers}
use Rattle.rev_entry_conflicts.specs.Deeds.{Scene}
use Rattle.rev_entry_conflicts.specs.Orders.{scene}
use Rattle.rev_entry_conflicts.specs.Touches.{touched_in}
use Rattle.rev_entry_conflicts.proofs.AnswerLemmas.{all-entries, are-enough, few-entries, numbers-are, pair-is}
use Rattle.rev_entry_conflicts.proofs.PairLemmas.{flat-more}
use Rattle.rev_entry_conflicts.proofs.answer.add_of_user.Goals as goal

pub add_pair-requires-clause-numbers : goal.add_pair-requires-clause-numbers
add_pair-requires-clause-numbers c =
    all-entries (length c.args.entries.now) c.index-commands-made_by.result c.deref.result.now
    (numbers-are (touched_in (length c.args.entries.now)) c.args.lists.now c.args.commands.now c.loop-made_by.made_by c.index-commands-made_by.result c.index-lists-made_by.result c.deref.result.now c.requires.lists
    c.loop-made_by-test.true c.index-commands-made_by.is c.index-lists-made_by.is c.deref.ensures.value)

pub add_pair-requires-clause-small : goal.add_pair-requires-clause-small
add_pair-requires-clause-small c =
    let few : length c.deref.result.now ≤ length c.args.entries.now = few-entries (length c.args.entries.now) c.index-commands-made_by.result c.deref.result.now
    (numbers-are (touched_in (length c.args.entries.now)) c.args.lists.now c.args.commands.now c.loop-made_by.made_by c.index-commands-made_by.result c.index-lists-made_by.result c.deref.result.now c.requires.lists
    c.loop-made_by-test.true c.index-commands-made_by.is c.index-lists-made_by.is c.deref.ensures.value) in
    omega (arith, few, c.requires.entries)

pub add_pair-requires-clause-places : goal.add_pair-requires-clause-places
add_pair-requires-clause-places c =
    are-enough (scene c.args.steps.now c.args.entries.now c.args.commands.now) c.index-commands-made_by.result c.index-commands-used_by.result c.deref.result.now
    (numbers-are (touched_in (length c.args.entries.now)) c.args.lists.now c.args.commands.now c.loop-made_by.made_by c.index-commands-made_by.result c.index-lists-made_by.result c.deref.result.now c.requires.lists
    c.loop-made_by-test.true c.index-commands-made_by.is c.index-lists-made_by.is c.deref.ensures.value)

pub loop-made_by-preserved : goal.loop-made_by-preserved
loop-made_by-preserved c =
    let s : Scene = scene c.args.steps.now c.args.entries.now c.args.commands.now in
    flat-more (of_numbers s c.args.used_by) c.loop-made_by.made_by c.args.found.now.items c.loop-made_by.found.items c.add_pair.new.found.items c.loop-made_by.invariant
    (c.in_ok-add_pair.ensures
    ∙ ap (λ xs. c.loop-made_by.found.items ++ xs)
    (sym (pair-is s c.loop-made_by.made_by c.args.used_by c.index-commands-made_by.result c.index-commands-used_by.result c.loop-made_by-test.true c.requires.user c.index-commands-made_by.is c.index-commands-used_by.is)))

pub returns : goal.returns
returns c =
    let s : Scene = scene c.args.steps.now c.args.entries.now c.args.commands.now in
    let all : c.loop-made_by.made_by ≡ length c.args.commands.now = omega (arith, c.loop-made_by-test.false, c.loop-made_by.auto.made_by-end) in
    c.loop-made_by.invariant ∙ ap (λ n. c.args.found.now.items ++ flat_map (of_numbers s c.args.used_by) (range_with_len 0 n)) all
