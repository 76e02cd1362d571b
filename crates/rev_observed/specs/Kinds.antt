-- Kinds of uses, in the order of their lines.
use Rattle.std.specs.Prelude.{ℕ}
use Rattle.rev_observed.specs.declared.kind.Kind.{Kind}
use Rattle.rev_observed.specs.declared.kind.Kind.TheVariants.{Reads, Stats, Misses, Lists, Writes, Edits, Deletes, Temps, Folders}

-- the place of a kind among the nine
abbrev pub rank_of : Kind → ℕ
rank_of Reads = 0
rank_of Stats = 1
rank_of Misses = 2
rank_of Lists = 3
rank_of Writes = 4
rank_of Edits = 5
rank_of Deletes = 6
rank_of Temps = 7
rank_of Folders = 8
