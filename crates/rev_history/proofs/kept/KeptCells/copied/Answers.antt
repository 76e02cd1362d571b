use Rattle.std.proofs.Common.{◌≡◌, length, arith}
use Rattle.rev_history.proofs.KeptLemmas.{copied_all}
use Rattle.rev_history.proofs.kept.KeptCells.copied.Goals as goal

pub returns : goal.returns
returns c = copied_all c.args.self.now c.loop-index.index c.loop-index.copied.items c.loop-index.invariant (let done : length c.args.self.now ≡ c.loop-index.index = omega arith in done)
