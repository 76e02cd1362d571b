use Rattle.std.proofs.Common.{◌||◌, bytes_eq, ap, sym, ◌∙◌}
use Rattle.rev_manifest.specs.Names.{has_path}
use Rattle.rev_manifest.proofs.NameLemmas.{has_path-insert, skipped}
use Rattle.rev_manifest.proofs.ends.add_if_output.Goals as goal

pub returns-then-not-contains : goal.returns-then-not-contains
returns-then-not-contains c = λ path there.
    skipped c.args.outputs.now.keys c.args.used.now.keys c.args.name.now path (sym c.contains.ensures ∙ c.if-not-contains.true) there

pub returns : goal.returns
returns c = λ path there.
    ap (λ keys. has_path keys path) c.in_ok-insert.ensures.keys ∙ has_path-insert c.args.used.now.keys c.in_ok-copy.field-0 path
    ∙ ap (λ y. has_path c.args.used.now.keys path || bytes_eq path y) c.in_ok-copy.ensures.equal
