use Rattle.std.proofs.Common.{find, sym, ap, ◌∙◌}
use Rattle.rev_graph.specs.Entries.{has_entry}
use Rattle.rev_graph.proofs.EntryLemmas.{find-append, first-or, second-or}
use Rattle.rev_graph.proofs.table.taken.Goals as goal

pub returns-in-Some : goal.returns-in-Some
returns-in-Some c =
    let p = has_entry c.args.table.now.entries in
    first-or (find p c.args.edge.now.explicit_outs) (find p c.args.edge.now.implicit_outs) c.in-Some.name.now (c.in-Some.ensures ∙ ap (find p) c.explicit_outs.ensures)
    ∙ sym (find-append p c.args.edge.now.explicit_outs c.args.edge.now.implicit_outs)

pub returns : goal.returns
returns c =
    let p = has_entry c.args.table.now.entries in
    second-or (find p c.args.edge.now.explicit_outs) (find p c.args.edge.now.implicit_outs) _ (c.in_default.ensures ∙ ap (find p) c.explicit_outs.ensures)
    (c.first_taken-2.ensures ∙ ap (find p) c.implicit_outs.ensures)
    ∙ sym (find-append p c.args.edge.now.explicit_outs c.args.edge.now.implicit_outs)
