use Rattle.std.proofs.Common.{length, take}
use Rattle.rev_several.specs.Holders.{AreHolders, lists_of}
use Rattle.rev_several.proofs.shared.Shared.holders.Given as goal

abbrev pub invariant-loop-note : goal.invariant-loop-note
invariant-loop-note l = AreHolders (take l.note-index l.note-items) (length l.self.names.keys) (lists_of l.lists.items)
