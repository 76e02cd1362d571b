use Rattle.std.proofs.Common.{◌≡◌, ℕ, ◌<◌, ◌||◌, false, get_or, length, take}
use Rattle.rev_certificate.specs.Obstacles.{is_seen}
use Rattle.rev_certificate.proofs.edges.mark_all.Given as goal

abbrev pub invariant-loop-edge : goal.invariant-loop-edge
invariant-loop-edge l = (n : ℕ) → n < length l.initial.marks → get_or l.marks n false ≡ (get_or l.initial.marks n false || is_seen (take l.edge-index l.edges) n)
