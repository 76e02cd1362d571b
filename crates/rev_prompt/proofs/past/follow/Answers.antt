use Rattle.std.proofs.Common.{sym, ◌∙◌}
use Rattle.rev_history.proofs.Effects.{state_found}
use Rattle.rev_history.proofs.Written.{stored-is}
use Rattle.rev_prompt.proofs.past.follow.Goals as goal

pub returns-in_ok-write_all-in-Ok-clause-state : goal.returns-in_ok-write_all-in-Ok-clause-state
returns-in_ok-write_all-in-Ok-clause-state c accepted =
    state_found c.args.graph.now.manifest c.args.cells.now.state c.write_all.new.self.state c.args.event.now
    c.in-Ok.writes.items c.in_ok-write_all-in-Ok.ensures.state
    (sym (stored-is c.in-Ok.writes.items) ∙ c.in-Ok.ensures.writes)
