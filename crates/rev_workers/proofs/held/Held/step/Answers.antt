use Rattle.std.proofs.Common.{rules, ◌≡◌, ◌∙◌, ◌++◌, List, drop, length, take, ap, arith}
use Rattle.std.proofs.lemmas.Grind.{common_steps}
use Rattle.rev_desk.specs.Machine.{DeskValue, after}
use Rattle.rev_workers.specs.declared.standing.Standing.{Standing}
use Rattle.rev_workers.specs.Waiting.{standings_after}
use Rattle.rev_workers.proofs.Stands.{after-stands, fitted, kept-after, length-after, same-stands}
use Rattle.rev_workers.proofs.held.Held.step.Goals as goal

-- the lanes that wait stand so over the next desk
pub invariant_of-self-2 : goal.invariant_of-self-2
invariant_of-self-2 g c =
    let d : DeskValue = c.self.inside.desk in
    let ss : List Standing = c.self.inside.standings.items in
    let next : c.apply.new.self ≡ after d c.lane.inside.number c.args.command = c.in_ok-reply.ensures.ok in
    let kept : c.keep_waiting.new.standings ≡ standings_after d c.args.command ss =
    kept-after d c.args.command _ _ _ _ ss c.keep_waiting.new.standings c.is_touch-touches.ensures c.in_ok-reply.ensures.reply (ap length c.journal.ensures.journal) c.deref_mut.ensures.value c.keep_waiting.ensures in
    let many : length c.keep_waiting.new.standings ≡ length ss = ap length kept ∙ length-after d c.args.command ss in
    let whole : take c.self.inside.standings.len (c.keep_waiting.new.standings ++ drop (length c.keep_waiting.new.standings) ss) ≡ c.keep_waiting.new.standings =
    fitted c.self.inside.standings.len c.keep_waiting.new.standings ss (search rules) many in
    let total : c.add.new.self.total ≡ length c.apply.new.self.journal = first_of (search rules, grind (arith, common_steps)) in
    let lanes : c.apply.new.self.lanes ≡ g.L.Ledger.parts = first_of (search rules, grind (arith, common_steps)) in
    let stand : length (take c.self.inside.standings.len (c.keep_waiting.new.standings ++ drop (length c.keep_waiting.new.standings) ss)) ≡ g.L.Ledger.parts =
    ap length whole ∙ (many ∙ c.self.invariant.2) in (
      total,
      lanes,
      stand,
      c.self.invariant.3,
      same-stands _ c.apply.new.self _ _ next (whole ∙ kept) (after-stands d c.lane.inside.number c.args.command ss c.journal.ensures.legal c.self.invariant.4),
    )
