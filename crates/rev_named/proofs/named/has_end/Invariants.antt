use Rattle.std.proofs.Common.{◌≡◌, length, bytes_eq}
use Rattle.std.specs.List.{list_any}
use Rattle.indexmap.specs.IndexSet.{contains}
use Rattle.rev_named.specs.Named.{ends_of, is_one}
use Rattle.rev_named.specs.Words.{path_in}
use Rattle.rev_named.proofs.named.has_end.Given as goal

abbrev pub invariant-loop-byte : goal.invariant-loop-byte
invariant-loop-byte l =
    list_any (λ end. is_one (contains bytes_eq l.words) (path_in end)) (ends_of l.rest)
    ≡ list_any (λ end. is_one (contains bytes_eq l.words) (path_in end)) (ends_of l.path)

abbrev pub decreases-loop-byte : goal.decreases-loop-byte
decreases-loop-byte l = length l.rest
