use Rattle.std.proofs.Common.{◌≡◌, false, drop}
use Rattle.rev_queries.specs.Statement.{after_colon}
use Rattle.rev_queries.proofs.statement.after_colon.Given as goal

abbrev pub invariant-loop-place : goal.invariant-loop-place
invariant-loop-place l = after_colon false l.statement ≡ after_colon l.escaped (drop l.place l.statement)
