use Rattle.std.proofs.Common.{length}
use Rattle.rev_paths.specs.Kept.{texts}
use Rattle.rev_named.proofs.PieceLemmas.{IsCut}
use Rattle.rev_named.proofs.pieces.pieces.Given as goal

abbrev pub invariant-loop-byte : goal.invariant-loop-byte
invariant-loop-byte l = IsCut l.text (texts l.pieces.items) l.begin l.mode l.rest

abbrev pub decreases-loop-byte : goal.decreases-loop-byte
decreases-loop-byte l = length l.rest
