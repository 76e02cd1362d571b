use Rattle.std.proofs.Common.{◌≡◌, ◌<◌, ◌++◌, All, length}
use Rattle.rev_depfile.specs.Lines.{words}
use Rattle.rev_depfile.specs.Slices.{texts}
use Rattle.rev_depfile.proofs.words.part_words.Given as goal

-- the words that are found, with those of what is left, are all; each has some bytes
abbrev pub invariant-loop-found : goal.invariant-loop-found
invariant-loop-found l = (texts l.found.items ++ words l.rest ≡ words l.part) × All (λ word. 0 < length word.now) l.found.items

abbrev pub decreases-loop-found : goal.decreases-loop-found
decreases-loop-found l = length l.rest
