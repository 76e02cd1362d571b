use Rattle.std.proofs.Common.{◌≡◌, ◌+◌, drop}
use Rattle.std.specs.List.{prefix_len}
use Rattle.rev_syntax.specs.Bytes.{is_in_name}
use Rattle.rev_queries.proofs.statement.name_len.Given as goal

abbrev pub invariant-loop-place : goal.invariant-loop-place
invariant-loop-place l = prefix_len is_in_name l.text ≡ l.place + prefix_len is_in_name (drop l.place l.text)
