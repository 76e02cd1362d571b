use Rattle.std.proofs.Common.{◌++◌, false, map, ap, ◌∙◌}
use Rattle.rev_depfile.specs.Lines.{byte_of}
use Rattle.rev_depfile.proofs.WordLemmas.{dollars_after, dollars-single}
use Rattle.rev_depfile.proofs.words.word_bytes.Goals as goal

pub loop-sign-init : goal.loop-sign-init
loop-sign-init c =
    let bytes = map byte_of c.args.word.now in
    ap (λ xs. xs ++ dollars_after false bytes) c.new-text.ensures.items ∙ dollars-single bytes
