use Rattle.std.proofs.Common.{◌≡◌, ◌≤◌, vec_len}
use Rattle.std.specs.Io.KnownBytes.{Consumes}
use Rattle.rev_input.proofs.InputLemmas.{ReadSoFar}
use Rattle.rev_input.proofs.reading.take_up_to.Given as goal

-- there is room for the next read, what was read is what the reader has lost, it is not too much, and no read failed
abbrev pub invariant-loop-count : goal.invariant-loop-count
invariant-loop-count g l =
    (vec_len l.room ≡ 65536) × Consumes (g.S.Source.remaining l.fn.reader) (g.S.Source.remaining l.reader) l.bytes.items
    × (vec_len l.bytes ≤ l.fn.most) × ReadSoFar g.S.Source.gives l.fn.reader l.reader l.count l.bytes.items
