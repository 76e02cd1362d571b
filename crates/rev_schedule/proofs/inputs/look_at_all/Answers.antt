use Rattle.std.proofs.Common.{◌≡◌, ℕ, ◌+◌, ◌<◌, ◌∷◌, ◌++◌, [], true, Vec, length, get_or, take, sym, ap, ◌∙◌}
use Rattle.std.specs.Global.{Global}
use Rattle.std.proofs.lemmas.List.{take_more}
use Rattle.rev_schedule.specs.Builds.{job_of, makers_of, edges_of}
use Rattle.rev_schedule.specs.declared.job.Job.{Job}
use Rattle.rev_schedule.specs.Turns.{Turn}
use Rattle.rev_schedule.proofs.LookLemmas.{looked-is, looked-same, looked-push}
use Rattle.rev_schedule.proofs.PoolLemmas.{job-read}
use Rattle.rev_schedule.proofs.inputs.look_at_all.Goals as goal
use Rattle.rev_schedule.proofs.inputs.look_at_all.Goals.{then-look+in_ok-push, else-look}

pub loop-user-preserved : goal.loop-user-preserved
loop-user-preserved c =
    let user : ℕ = get_or c.args.users.now c.loop-user.user-index 0 in
    let front : take (c.loop-user.user-index + 1) c.args.users.now ≡ take c.loop-user.user-index c.args.users.now ++ user ∷ [] = take_more c.args.users.now c.loop-user.user-index 0 c.loop-user-test.true in
    let inside : user < edges_of c.args.build.now = c.requires.edges c.loop-user.user-index c.loop-user-test.true in
    elim c.if-look.branch [
      | then-look+in_ok-push w ↦
          let both : (get_or c.loop-user.missing.items user 0 < length (makers_of c.args.build.now user)) × (get_or c.look.new.missing.items user 0 ≡ length (makers_of c.args.build.now user)) = c.look.ensures.comes.0 w.if-look.true in
          let job : job_of c.args.build.now user ≡ w.index.result.now = job-read c.args.build.now user w.index.result.now inside w.index.ensures in
          looked-is c.args.build.now c.args.through.now c.args.missing.now.items c.look.new.missing.items _ _ c.if-look.turns.items _ front
          (ap (λ (v : Vec Turn Global). v.items) w.turns-is ∙ w.in_ok-push.ensures.items
          ∙ ap (λ (j : Job). c.loop-user.turns.items ++ (j.rank, user) ∷ []) (sym job))
          (looked-push c.args.build.now c.args.through.now c.args.missing.now.items (take c.loop-user.user-index c.args.users.now) user c.loop-user.missing.items c.look.new.missing.items c.loop-user.turns.items c.loop-user.invariant c.look.ensures.looks both.0 both.1 inside)
      | else-look w ↦
          looked-is c.args.build.now c.args.through.now c.args.missing.now.items c.look.new.missing.items _ _ c.if-look.turns.items _ front
          (ap (λ (v : Vec Turn Global). v.items) w.turns-is)
          (looked-same c.args.build.now c.args.through.now c.args.missing.now.items (take c.loop-user.user-index c.args.users.now) user c.loop-user.missing.items c.look.new.missing.items c.loop-user.turns.items c.loop-user.invariant c.look.ensures.looks
          (λ less full. let t : c.look.result ≡ true = c.look.ensures.comes.1 (less, full) in let f = w.if-look.false in cc) inside)
    ]
