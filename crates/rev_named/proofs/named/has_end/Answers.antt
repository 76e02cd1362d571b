use Rattle.std.proofs.Common.{bytes_eq, sym, ◌∙◌}
use Rattle.std.specs.List.{list_any}
use Rattle.indexmap.specs.IndexSet.{contains}
use Rattle.rev_named.specs.Named.{ends_of}
use Rattle.rev_named.proofs.NamedLemmas.{end-here, end-later, end-test, no-end}
use Rattle.rev_named.proofs.named.has_end.Goals as goal

pub returns-then-branch : goal.returns-then-branch
returns-then-branch c =
    let f = end-test (contains bytes_eq c.args.words.now) in
    end-here f c.loop-byte.rest.now c.in-Some.byte.now c.in-Some.after.now (list_any f (ends_of c.args.path.now)) c.in-Some.ensures.cases.0 (sym c.in_ok-is_end.ensures ∙ c.if-branch.true) c.loop-byte.invariant

pub loop-byte-preserved : goal.loop-byte-preserved
loop-byte-preserved c =
    let f = end-test (contains bytes_eq c.args.words.now) in
    end-later f c.loop-byte.rest.now c.in-Some.byte.now c.in-Some.after.now (list_any f (ends_of c.args.path.now)) c.in-Some.ensures.cases.0 (sym c.in_ok-is_end.ensures ∙ c.if-branch.false) c.loop-byte.invariant

pub returns : goal.returns
returns c =
    let f = end-test (contains bytes_eq c.args.words.now) in
    no-end f c.loop-byte.rest.now (list_any f (ends_of c.args.path.now)) c.in_default.ensures.cases c.loop-byte.invariant
