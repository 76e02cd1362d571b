-- what has been written: the bytes before this one
use Rattle.std.proofs.Common.{take}
use Rattle.std.specs.Fmt.{HasWritten, IsPlainFormatter}
use Rattle.rev_races_text.specs.Names.{text_shown}
use Rattle.rev_races_text.proofs.names.TextDisplay.fmt.Given as goal

abbrev pub invariant-loop-byte : goal.invariant-loop-byte
invariant-loop-byte g l =
    IsPlainFormatter l.initial.f
    → HasWritten g.W.Write.write_str_gives l.initial.f (text_shown (take l.byte-index l.byte-items)) l.f
