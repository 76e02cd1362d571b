use Rattle.rev_paths.proofs.BytesLemmas.{left-all, left-less, left-differs, left-none}
use Rattle.rev_paths.proofs.bytes.same_before_end.Goals as goal

pub loop-word-init : goal.loop-word-init
loop-word-init c = left-all c.args.a.now c.args.b.now c.requires.length

pub returns-then-not-same_word : goal.returns-then-not-same_word
returns-then-not-same_word c =
    left-differs c.args.a.now c.args.b.now c.loop-word.rest.now c.loop-word.other.now c.in-Some.word.now c.in-Some-split_first_chunk.other_word.now c.same_word.result c.in-Some.ensures.cases.0
    c.in-Some-split_first_chunk.ensures.cases.0 c.same_word.ensures c.if-not-same_word.true c.loop-word.invariant

pub loop-word-preserved : goal.loop-word-preserved
loop-word-preserved c =
    left-less c.args.a.now c.args.b.now c.loop-word.rest.now c.loop-word.other.now c.in-Some.word.now c.in-Some-split_first_chunk.other_word.now c.in-Some.behind.now
    c.in-Some-split_first_chunk.other_behind.now c.same_word.result c.in-Some.ensures.cases.0 c.in-Some-split_first_chunk.ensures.cases.0 c.in-Some.ensures.cases.1
    c.in-Some-split_first_chunk.ensures.cases.1 c.in-Some.ensures.cases.2 c.same_word.ensures c.if-not-same_word.false c.loop-word.invariant

pub returns : goal.returns
returns c =
    left-none c.args.a.now c.args.b.now c.loop-word.rest.now c.loop-word.other.now c.requires.long c.in_default.ensures.cases c.requires.ends c.loop-word.invariant
