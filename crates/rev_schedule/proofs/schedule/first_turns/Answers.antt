use Rattle.std.proofs.Common.{◌≡◌, ℕ, ◌+◌, ◌<◌, [], ◌∷◌, ◌++◌, true, false, Bool, eqb, length, sym, subst, ap, ◌∙◌, arith, Vec}
use Rattle.std.specs.Global.{Global}
use Rattle.std.specs.Vec.{vec_len}
use Rattle.std.proofs.lemmas.Bool.Decides.{nat_tests}
use Rattle.rev_schedule.specs.declared.job.Job.{Job}
use Rattle.rev_schedule.specs.Builds.{makers_of, edges_of, job_of, first_turn_of}
use Rattle.rev_schedule.specs.Turns.{Turn}
use Rattle.rev_schedule.proofs.FirstLemmas.{AreFirst, first-push, first-same, first-all}
use Rattle.rev_schedule.proofs.InsideLemmas.{empty-of}
use Rattle.rev_schedule.proofs.OpenLemmas.{list-of}
use Rattle.rev_schedule.proofs.PoolLemmas.{job-read}
use Rattle.rev_schedule.proofs.schedule.first_turns.Goals as goal
use Rattle.rev_schedule.proofs.schedule.first_turns.Goals.{then-is_empty+in_ok-push, else-is_empty}

is-zero : (n : ℕ) (b : Bool) → b ≡ eqb n 0 → b ≡ true → n ≡ 0
is-zero n b e t = grind (arith, nat_tests)

not-zero : (n : ℕ) (b : Bool) → b ≡ eqb n 0 → b ≡ false → n ≡ 0 → ⊥
not-zero n b e f z = grind (arith, nat_tests)

pub loop-edge-preserved : goal.loop-edge-preserved
loop-edge-preserved c =
    let in_jobs : c.loop-edge.edge < edges_of c.args.build.now = omega (arith, c.loop-edge-test.true, c.len-edge-end.ensures, c.args.build.now.jobs.ok.0) in
    let in_makers : c.loop-edge.edge < length c.args.build.now.makers.items = omega (arith, c.requires.whole.each) in
    let list : makers_of c.args.build.now c.loop-edge.edge ≡ c.index.result.now.items = list-of c.args.build.now.makers.items c.loop-edge.edge c.index.result.now in_makers c.index.ensures in
    elim c.if-is_empty.branch [
      | then-is_empty+in_ok-push w ↦
          let none : vec_len c.index.result.now ≡ 0 = is-zero (vec_len c.index.result.now) c.is_empty.result c.is_empty.ensures w.if-is_empty.true in
          let empty : makers_of c.args.build.now c.loop-edge.edge ≡ [] = list ∙ empty-of c.index.result.now.items (omega (arith, c.index.result.now.ok.0)) in
          let job : job_of c.args.build.now c.loop-edge.edge ≡ w.index-then-is_empty.result.now = job-read c.args.build.now c.loop-edge.edge w.index-then-is_empty.result.now in_jobs w.index-then-is_empty.ensures in
          let items : c.if-is_empty.turns.items ≡ c.loop-edge.turns.items ++ first_turn_of c.args.build.now c.loop-edge.edge ∷ [] =
          ap (λ (v : Vec Turn Global). v.items) w.turns-is ∙ w.in_ok-push.ensures.items
          ∙ ap (λ (j : Job). c.loop-edge.turns.items ++ (j.planned, c.loop-edge.edge) ∷ []) (sym job) in
          subst (AreFirst c.args.build.now (c.loop-edge.edge + 1)) (sym items) (first-push c.args.build.now c.loop-edge.edge c.loop-edge.turns.items c.loop-edge.invariant empty)
      | else-is_empty w ↦
          subst (λ (v : Vec Turn Global). AreFirst c.args.build.now (c.loop-edge.edge + 1) v.items) (sym w.turns-is)
          (first-same c.args.build.now c.loop-edge.edge c.loop-edge.turns.items c.loop-edge.invariant
          (λ e. not-zero (vec_len c.index.result.now) c.is_empty.result c.is_empty.ensures w.if-is_empty.false
          (omega (arith, ap length (sym list ∙ e), c.index.result.now.ok.0))))
    ]

pub returns : goal.returns
returns c =
    let all : c.loop-edge.edge ≡ edges_of c.args.build.now = omega (arith, c.loop-edge-test.false, c.loop-edge.auto.edge-end, c.len-edge-end.ensures, c.args.build.now.jobs.ok.0) in
    first-all c.args.build.now c.loop-edge.turns.items c.sort_unstable.new.self.items
    (subst (λ n. AreFirst c.args.build.now n c.loop-edge.turns.items) all c.loop-edge.invariant) c.sort_unstable.ensures.permutation c.sort_unstable.ensures.sorted
