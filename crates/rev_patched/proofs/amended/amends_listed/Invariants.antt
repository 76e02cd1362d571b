use Rattle.std.proofs.Common.{◌≡◌, drop, length}
use Rattle.rev_patched.specs.Amended.{amends_from}
use Rattle.rev_patched.proofs.amended.amends_listed.Given as goal

-- what is left decides
abbrev pub invariant-loop-place : goal.invariant-loop-place
invariant-loop-place l =
    record {
      same : amends_from l.place l.outs l.ins l.ords (drop l.place l.edges) (drop l.place l.others) ≡ amends_from 0 l.outs l.ins l.ords l.edges l.others;
      one_each : length l.others ≡ length l.edges;
    }
