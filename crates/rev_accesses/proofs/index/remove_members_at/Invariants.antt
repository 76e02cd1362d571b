use Rattle.std.proofs.Common.{take}
use Rattle.rev_accesses.specs.Thinned.{AreThinnedUnder, IsGoneUnder}
use Rattle.rev_accesses.specs.Users.{IsSame, listed, other}
use Rattle.rev_accesses.proofs.index.remove_members_at.Given as goal

-- the lists at the places so far are thinned, and the number is gone from them
abbrev pub invariant-loop-place : goal.invariant-loop-place
invariant-loop-place l = record {
  thinned : AreThinnedUnder l.members (listed l.access l.fn.index.items) (listed l.access l.index.items);
  gone : IsGoneUnder l.number (take l.place-index l.places) (listed l.access l.index.items);
  rest : IsSame (listed (other l.access) l.fn.index.items) (listed (other l.access) l.index.items);
}
