use Rattle.std.proofs.Common.{◌≡◌, ℕ, ◌||◌, List, drop, bytes_eq}
use Rattle.std.specs.List.{filter_map, list_any}
use Rattle.indexmap.specs.IndexSet.{contains}
use Rattle.rev_paths.specs.Kept.{texts}
use Rattle.rev_named.specs.Words.{word_in}
use Rattle.rev_named.proofs.words.words.Given as goal

-- the words so far, and those of the pieces that are left
abbrev pub invariant-loop-piece : goal.invariant-loop-piece
invariant-loop-piece l =
    (word : List ℕ)
    → (contains bytes_eq l.words word || list_any (bytes_eq word) (filter_map word_in (drop l.piece-index (texts l.piece-items))))
    ≡ list_any (bytes_eq word) (filter_map word_in (texts l.piece-items))
