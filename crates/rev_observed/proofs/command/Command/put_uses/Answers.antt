use Rattle.std.proofs.Common.{List, ap, ◌∙◌, sym, subst}
use Rattle.rev_observed.specs.declared.command.Uses.{Uses}
use Rattle.rev_observed.specs.CommandValues.{AreUses, CommandValue, may_take}
use Rattle.rev_observed.proofs.CommandLemmas.{lesser_kinds, uses_more}
use Rattle.rev_observed.proofs.command.Command.put_uses.Goals as goal

pub invariant_of-self-2 : goal.invariant_of-self-2
invariant_of-self-2 c =
    let P : List Uses → Type 0 = AreUses in
    let before : CommandValue = record { output = c.self.inside.output; flags = c.self.inside.flags; uses = c.self.inside.uses.items; outside = c.self.inside.outside } in
    let lesser = lesser_kinds c.args.kind before (ap (may_take c.args.kind) c.self.view_is ∙ c.requires.turn) in
    subst P (sym c.in_ok-push.ensures.items) (uses_more c.self.inside.uses.items (record { kind = c.args.kind; paths = c.args.paths }) c.self.invariant lesser c.requires.some)
