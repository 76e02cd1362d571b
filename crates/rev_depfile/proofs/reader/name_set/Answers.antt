use Rattle.std.proofs.Common.{ap, bytes_eq, ◌∙◌}
use Rattle.std.specs.List.{list_any}
use Rattle.indexmap.specs.IndexSet.{insert_key}
use Rattle.rev_paths.proofs.MentionLemmas.{members-more}
use Rattle.rev_depfile.proofs.reader.name_set.Goals as goal

pub loop-name-preserved : goal.loop-name-preserved
loop-name-preserved c = λ path.
    let l = c.loop-name in
    let item = c.name-item.result in
    ap (list_any (bytes_eq path)) (c.in_ok-insert.ensures.keys ∙ ap (insert_key bytes_eq l.set.keys) c.in_ok-copy.ensures.equal)
    ∙ members-more l.set.keys c.args.names.now l.name-index item path c.loop-name-test.true c.name-item.is (l.invariant path)
