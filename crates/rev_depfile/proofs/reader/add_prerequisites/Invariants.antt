use Rattle.std.proofs.Common.{◌≡◌, map, drop, bytes_eq}
use Rattle.indexmap.specs.IndexSet.{insert_all}
use Rattle.rev_depfile.specs.Slices.{texts}
use Rattle.rev_depfile.specs.Value.{long_fault, path_of}
use Rattle.rev_depfile.proofs.reader.add_prerequisites.Given as goal

-- what is found, with the words that are left, is what all words give
abbrev pub invariant-loop-word : goal.invariant-loop-word
invariant-loop-word l =
    (insert_all bytes_eq l.found.keys (map path_of (texts (drop l.word-index l.words))) ≡ insert_all bytes_eq l.initial.found.keys (map path_of (texts l.words)))
    × (long_fault (texts (drop l.word-index l.words)) ≡ long_fault (texts l.words))
