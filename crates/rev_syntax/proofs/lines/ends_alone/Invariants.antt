use Rattle.std.proofs.Common.{◌≡◌, drop}
use Rattle.rev_syntax.specs.Lines.{ends_alone}
use Rattle.rev_syntax.proofs.LineLemmas.{alone_after}
use Rattle.rev_syntax.proofs.lines.ends_alone.Given as goal

abbrev pub invariant-loop-byte : goal.invariant-loop-byte
invariant-loop-byte l = alone_after l.takes (drop l.byte-index l.text) ≡ ends_alone l.text
