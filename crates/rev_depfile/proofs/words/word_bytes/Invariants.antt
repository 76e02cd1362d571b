use Rattle.std.proofs.Common.{◌≡◌, ◌++◌, map, drop}
use Rattle.rev_depfile.specs.Lines.{byte_of, word_text}
use Rattle.rev_depfile.proofs.WordLemmas.{dollars_after}
use Rattle.rev_depfile.proofs.words.word_bytes.Given as goal

-- what is written, with what is left, is the whole
abbrev pub invariant-loop-sign : goal.invariant-loop-sign
invariant-loop-sign l = l.text.items ++ dollars_after l.after_dollar (map byte_of (drop l.sign-index l.word)) ≡ word_text l.word
