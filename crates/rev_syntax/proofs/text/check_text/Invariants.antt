use Rattle.std.proofs.Common.{◌≡◌, length}
use Rattle.rev_syntax.specs.Texts.{fault_of}
use Rattle.rev_syntax.proofs.text.check_text.Given as goal

abbrev pub invariant-loop-byte : goal.invariant-loop-byte
invariant-loop-byte l = fault_of l.rest ≡ fault_of l.raw

abbrev pub decreases-loop-byte : goal.decreases-loop-byte
decreases-loop-byte l = length l.rest
