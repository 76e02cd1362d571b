use Rattle.rev_contents.proofs.Compared.{Parted}
use Rattle.rev_contents.proofs.compare.disagreement.Given as goal

abbrev pub invariant-loop-look : goal.invariant-loop-look
invariant-loop-look l = Parted l.one l.other l.look-index l.at
