use Rattle.std.proofs.Common.{◌≤◌, length, arith}
use Rattle.rev_history.proofs.RemovalLemmas.{none_out, next_free, next_out, all_out}
use Rattle.rev_history.proofs.removal.put_all_back.Goals as goal

pub loop-left-init : goal.loop-left-init
loop-left-init c = (omega arith, none_out c.args.members.now c.args.accepted.now.entries c.args.steps.now.items c.args.cells.now)

pub put_back-requires : goal.put_back-requires
put_back-requires c =
    next_free c.args.members.now c.loop-left.left c.args.accepted.now.entries c.args.steps.now.items c.args.cells.now c.loop-left.steps c.loop-left.cells
    c.loop-left.invariant.1 (omega arith) c.loop-left.invariant.0 c.requires

pub loop-left-preserved : goal.loop-left-preserved
loop-left-preserved c =
    let within : c.loop-left.left ≤ length c.args.members.now = c.loop-left.invariant.0 in (
      omega arith,
      next_out c.args.members.now c.loop-left.left c.args.accepted.now.entries c.args.steps.now.items c.args.cells.now c.loop-left.steps c.loop-left.cells
          c.loop-left.invariant.1 (omega arith) within c.put_back.new.steps.items c.put_back.new.cells c.put_back.ensures,
    )

pub returns : goal.returns
returns c =
    all_out c.args.members.now c.loop-left.left c.args.accepted.now.entries c.args.steps.now.items c.args.cells.now c.loop-left.steps.items c.loop-left.cells
    (omega arith) c.loop-left.invariant.1
