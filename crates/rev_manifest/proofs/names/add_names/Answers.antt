use Rattle.std.proofs.Common.{◌||◌, ◌++◌, ◌∷◌, [], ap, sym, ◌∙◌, take}
use Rattle.std.proofs.lemmas.List.{take_more}
use Rattle.rev_manifest.specs.Names.{has_path}
use Rattle.rev_manifest.proofs.NameLemmas.{names_more}
use Rattle.rev_manifest.proofs.names.add_names.Goals as goal

pub loop-name-preserved : goal.loop-name-preserved
loop-name-preserved c = λ path.
    let names = c.args.names.now in
    let i = c.loop-name.name-index in
    let x = c.name-item.result in
    ap (λ keys. has_path keys path) c.in_ok-insert.ensures.keys
    ∙ names_more c.loop-name.set.keys c.args.set.now.keys (take i names) c.in_ok-copy.field-0 x path c.in_ok-copy.ensures.equal (c.loop-name.invariant path)
    ∙ ap (λ y. has_path c.args.set.now.keys path || has_path (take i names ++ y ∷ []) path) c.name-item.is
    ∙ ap (λ ns. has_path c.args.set.now.keys path || has_path ns path) (sym (take_more names i x c.loop-name-test.true))
