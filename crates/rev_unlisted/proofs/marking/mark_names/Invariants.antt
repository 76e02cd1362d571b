use Rattle.std.proofs.Common.{◌≡◌, ◌+◌, ◌≤◌, length, take}
use Rattle.rev_unlisted.specs.Found.{IsMarked}
use Rattle.rev_unlisted.proofs.marking.mark_names.Given as goal

abbrev pub invariant-loop-name : goal.invariant-loop-name
invariant-loop-name l = record {
  last : l.last ≤ length l.paths;
  nexts : length l.nexts.items ≡ length l.paths + 1;
  marks : IsMarked l.paths l.user (take l.name-index l.names) l.initial.marks.items l.marks.items;
}
