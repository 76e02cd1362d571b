use Rattle.std.proofs.Common.{◌≡◌, ◌+◌, drop}
use Rattle.std.specs.List.{prefix_len}
use Rattle.rev_queries.specs.Statement.{is_between}
use Rattle.rev_queries.proofs.statement.between_len.Given as goal

abbrev pub invariant-loop-place : goal.invariant-loop-place
invariant-loop-place l = prefix_len is_between l.text ≡ l.place + prefix_len is_between (drop l.place l.text)
