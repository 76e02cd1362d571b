use Rattle.std.proofs.Common.{rules, refl}
use Rattle.rev_paths.proofs.BytesLemmas.{words-same}
use Rattle.rev_paths.proofs.bytes.same_word.Goals as goal

pub returns : goal.returns
returns c = words-same c.args.a.now c.args.b.now c.from_le_bytes.result c.from_le_bytes-2.result _ (search rules) (search rules) (search rules) (search rules) c.from_le_bytes.ensures c.from_le_bytes-2.ensures refl
