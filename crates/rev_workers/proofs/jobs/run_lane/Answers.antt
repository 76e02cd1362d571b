use Rattle.std.proofs.Common.{◌≡◌, ◌∙◌, ◌+◌, ◌<◌, ◌^◌, [], ◌∷◌, ◌++◌, length, length-append, sym, arith}
use Rattle.rev_workers.proofs.Runs.{ran-one_more, told-more}
use Rattle.rev_workers.proofs.jobs.run_lane.Goals as goal

pub loop-command-preserved : goal.loop-command-preserved
loop-command-preserved g c =
    let after = c.send_when_able-answer.new.self in
    let so_far = c.loop-command.yielded in
    let i = c.loop-command.invariant in
    let one : length (so_far ++ c.in-Some.command ∷ []) ≡ length so_far + 1 = length-append so_far (c.in-Some.command ∷ []) in
    let at : length so_far + 1 < 2 ^ 32 → c.saturating_add-place.result ≡ length so_far + 1 = λ fits.
    let last : c.loop-command.place ≡ length so_far = i.place (omega (arith, fits)) in
    omega (arith, last, fits, c.saturating_add-place.ensures) in
    record {
      ran = rw c.in-Ok.ensures.ok (ran-one_more c.args.lane c.loop-command.lane so_far c.in-Some.command c.in-Ok._reply after.seen i.ran);
      place = λ fits. at (omega (arith, one, fits)) ∙ sym one;
      told = told-more g.G.Gate.told g.G.Gate.answered c.args.gate.now _ (length so_far) c.saturating_add-place.result _ one at c.tell_sending.ensures c.tell_answered.ensures i.told;
    }
