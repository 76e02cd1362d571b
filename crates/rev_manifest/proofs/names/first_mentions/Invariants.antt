use Rattle.std.proofs.Common.{◌≡◌, ◌++◌, drop, filter}
use Rattle.rev_paths.specs.Mentions.{first_mentions}
use Rattle.rev_manifest.proofs.NameLemmas.{is_left}
use Rattle.rev_manifest.proofs.names.first_mentions.Given as goal

abbrev pub invariant-loop-name : goal.invariant-loop-name
invariant-loop-name l =
    (l.seen.keys ≡ l.once.items) × (l.once.items ++ filter (is_left l.once.items) (first_mentions (drop l.name-index l.name-items)) ≡ first_mentions l.name-items)
