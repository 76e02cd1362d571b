use Rattle.std.proofs.Common.{Some, ap, sym, ◌∙◌}
use Rattle.rev_graph.specs.Entries.{entry}
use Rattle.rev_graph.proofs.GraphLemmas.{double-found, double-none, producers-more}
use Rattle.rev_graph.proofs.table.outputs_table.Goals as goal

pub returns-in-Some-clause-fault : goal.returns-in-Some-clause-fault
returns-in-Some-clause-fault c = (
  c.requires,
  double-found c.args.edges.now c.loop-number.table.entries c.loop-number.number c.index-edges-number.result c.in-Some.name.now c.index-edges-number.is c.loop-number-test.true
      c.loop-number.invariant.entries c.loop-number.invariant.double c.in-Some.ensures
      ∙ ap Some (sym c.in_ok-copy.ensures.equal),
)

pub loop-number-preserved : goal.loop-number-preserved
loop-number-preserved c = record {
  entries = λ path.
      producers-more c.args.edges.now (entry c.loop-number.table.entries path) (entry c.add_outputs.new.table.entries path) c.loop-number.number c.index-edges-number.result path
      c.index-edges-number.is c.loop-number-test.true (c.loop-number.invariant.entries path) (c.in_ok-add_outputs.ensures path);
  double =
      double-none c.args.edges.now c.loop-number.table.entries c.loop-number.number c.index-edges-number.result c.index-edges-number.is c.loop-number-test.true
      c.loop-number.invariant.entries c.loop-number.invariant.double c.in_default.ensures;
}
