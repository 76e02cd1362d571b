use Rattle.std.proofs.Common.{◌≡◌, ◌++◌, take}
use Rattle.std.specs.List.{flat_map}
use Rattle.rev_picture.specs.Escape.{escaped_byte, word_byte}
use Rattle.rev_picture.proofs.escape.push_escaped_words.Given as goal

-- the bytes so far were added
abbrev pub invariant-loop-byte : goal.invariant-loop-byte
invariant-loop-byte l = l.text.items ≡ l.initial.text.items ++ flat_map (word_byte escaped_byte) (take l.byte-index l.words)
