use Rattle.std.proofs.Common.{◌≡◌, ℕ, List, take, bytes_eq}
use Rattle.std.specs.List.{list_any}
use Rattle.rev_depfile.proofs.reader.name_set.Given as goal

-- the set has the names so far
abbrev pub invariant-loop-name : goal.invariant-loop-name
invariant-loop-name l = (path : List ℕ) → list_any (bytes_eq path) l.set.keys ≡ list_any (bytes_eq path) (take l.name-index l.names)
