-- What goes to the thread of the later half. What is shared lies under the lock, also where a lane waits: the command that
-- stands there is a snapshot, which owns nothing.
use denote.Param.{param}
use denote.Param.Send.{IsSend, IsSync, sendable}
use denote.RattleType.{RattleType}
use denote.Ref.{NamedLft}
use denote.Struct.Field.{shr_ref_field, shr_slice_field, u32-field}
use denote.Struct.Tuple.{TupleAt}
use mir.Syntax.{Sym}
use Rattle.std.specs.Prelude.{◌∷◌, []}
use Rattle.std.proofs.Crossing.{crosses}
use Rattle.std.proofs.sync.ledger.Book.TheSendSync as book
use Rattle.std.proofs.sync.ledger.Share.TheSendSync as share
use Rattle.std.specs.contracts.alloc.Global
use Rattle.std.specs.contracts.vec.Vec
use Rattle.std.specs.contracts.impls.GlobalAllocator.TheImpl as heap
use Rattle.std.specs.declared.sync.ledger.Ledger.{Ghosts}
use Rattle.rev_commands.proofs.command.Command.TheSendSync as command
use Rattle.rev_desk.proofs.desk.Desk.TheSendSync as desk
use Rattle.rev_desk.proofs.reply.Reply.TheSendSync as reply
use Rattle.rev_workers.specs.contracts.held.Held
use Rattle.rev_workers.specs.contracts.jobs.Job
use Rattle.rev_workers.specs.contracts.jobs.Done
use Rattle.rev_workers.specs.contracts.shared.Shared
use Rattle.rev_workers.specs.contracts.standing.Standing

standing_send : IsSend Standing.the_row
standing_send = search (sendable, crosses) depth 40

module _ (L : RattleType) (g : Ghosts L.Denot) where
  held_send : IsSend (Held.the_row L g)
  held_send = search (sendable, crosses, standing_send, book.the_send, desk.the_send) depth 40 fits 4000

  shared_sync : IsSync (Shared.the_row L g)
  shared_sync = search (sendable, crosses, held_send) depth 40 fits 4000

  job_send : IsSend (Job.the_row L g)
  job_send = search (sendable, crosses, share.the_send, command.the_send, reply.the_send) depth 40 fits 4000

  done_send : IsSend (Done.the_row L g)
  done_send = search (sendable, crosses, share.the_send, command.the_send, reply.the_send) depth 40 fits 4000

-- what the thread is given: what waits, the allocator, what is shared, the gate, the lanes' numbers, their jobs, and room
pub given_send : (ν : Sym) (L R G : RattleType) (g : Ghosts L.Denot) (ℓ ℓ' ℓ'' ℓ'3 : NamedLft) → IsSync (param 1 R) → IsSync (param 2 G) →
    IsSend (TupleAt ν ((shr_ref_field ℓ (param 1 R) tt).row ∷ Global.the_row ∷ (shr_ref_field ℓ' (Shared.the_row (param 0 L) g) tt).row ∷ (shr_ref_field ℓ'' (param 2 G) tt).row
    ∷ (shr_slice_field ℓ'3 u32-field.row tt).row ∷ Vec.the_row (Job.the_row (param 0 L) g) Global.the_row heap.ghosts ∷ Vec.the_row (Done.the_row (param 0 L) g) Global.the_row heap.ghosts ∷ []))
given_send ν L R G g ℓ ℓ' ℓ'' ℓ'3 runtime gate = search (sendable, crosses, shared_sync, job_send, done_send) depth 30
