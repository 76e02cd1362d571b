use Rattle.std.proofs.Common.{bytes_eq, sym, ◌∙◌, arith}
use Rattle.std.specs.Prelude.{find}
use Rattle.indexmap.specs.IndexSet.{contains}
use Rattle.rev_named.specs.Named.{is_named_by}
use Rattle.rev_named.proofs.NamedLemmas.{found-here, found-later, found-nowhere, item-in}
use Rattle.rev_named.proofs.named.first_among.Goals as goal

pub is_named-requires-clause-out : goal.is_named-requires-clause-out
is_named-requires-clause-out c = c.requires.outputs c.out-item.result (item-in c.args.outputs.now c.loop-out.out-index c.out-item.result c.loop-out-test.true c.out-item.is)

pub returns-then-branch : goal.returns-then-branch
returns-then-branch c =
    let p = is_named_by c.args.graph.now.manifest.builds (contains bytes_eq c.args.words.now) c.args.edge in
    found-here p c.args.outputs.now c.loop-out.out-index c.out-item.result (find p c.args.outputs.now) c.loop-out-test.true c.out-item.is (sym c.in_ok-is_named.ensures ∙ c.if-branch.true) c.loop-out.invariant

pub loop-out-preserved : goal.loop-out-preserved
loop-out-preserved c =
    let p = is_named_by c.args.graph.now.manifest.builds (contains bytes_eq c.args.words.now) c.args.edge in
    found-later p c.args.outputs.now c.loop-out.out-index c.out-item.result (find p c.args.outputs.now) c.loop-out-test.true c.out-item.is (sym c.in_ok-is_named.ensures ∙ c.if-branch.false) c.loop-out.invariant

pub returns : goal.returns
returns c =
    let p = is_named_by c.args.graph.now.manifest.builds (contains bytes_eq c.args.words.now) c.args.edge in
    found-nowhere p c.args.outputs.now c.loop-out.out-index (find p c.args.outputs.now) (omega (arith, c.loop-out-test.false)) c.loop-out.invariant
