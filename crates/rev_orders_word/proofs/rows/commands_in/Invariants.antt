use Rattle.std.proofs.Common.{◌≡◌, filter, take}
use Rattle.rev_ranks.specs.Sets.{is_marked}
use Rattle.rev_orders_word.proofs.rows.commands_in.Given as goal

-- those so far
abbrev pub invariant-loop-node : goal.invariant-loop-node
invariant-loop-node l = l.found.items ≡ filter (is_marked l.commands) (take l.node-index l.nodes)
