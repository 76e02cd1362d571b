use Rattle.rev_graph.specs.Entries.{entry}
use Rattle.rev_graph.proofs.EntryLemmas.{added_more}
use Rattle.rev_graph.proofs.table.add.Goals as goal

pub loop-name-preserved : goal.loop-name-preserved
loop-name-preserved c = λ path.
    added_more (entry c.loop-name.table.entries path) _ (entry c.args.table.now.entries path) c.args.names.now c.loop-name.name-index c.name-item.result path c.args.value c.name-item.is
    c.loop-name-test.true (c.loop-name.invariant path) (c.in_ok-value_or_add.ensures.entries path)
