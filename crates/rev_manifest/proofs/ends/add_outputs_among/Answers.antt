use Rattle.std.proofs.Common.{◌||◌, ◌++◌, ◌∷◌, [], ap, sym, ◌∙◌, take}
use Rattle.std.proofs.lemmas.List.{take_more}
use Rattle.rev_manifest.specs.Names.{has_path}
use Rattle.rev_manifest.proofs.NameLemmas.{one_more}
use Rattle.rev_manifest.proofs.ends.add_outputs_among.Goals as goal

pub loop-name-preserved : goal.loop-name-preserved
loop-name-preserved c = λ path there.
    let first = c.args.used.now.keys in
    let names = c.args.names.now in
    let i = c.loop-name.name-index in
    let x = c.name-item.result in
    c.in_ok-add_if_output.ensures path there
    ∙ one_more first (take i names) x path (has_path c.loop-name.used.keys path) (c.loop-name.invariant path there)
    ∙ ap (λ y. has_path first path || has_path (take i names ++ y ∷ []) path) c.name-item.is
    ∙ ap (λ ns. has_path first path || has_path ns path) (sym (take_more names i x c.loop-name-test.true))
