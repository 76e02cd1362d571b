-- An edge arrives at its pool, and leaves it.
use Rattle.std.proofs.Common.{◌≡◌, ℕ, ◌-◌, ◌<◌, ◌≤◌, [], ◌∷◌, length, get_or, set, sym, subst, refl}
use Rattle.std.specs.List.Sorted.{IsPermutation}
use Rattle.std.proofs.lemmas.List.{get_or_read_under}
use Rattle.rev_schedule.specs.declared.job.Job.{Job}
use Rattle.rev_schedule.specs.declared.job.Build.{Build}
use Rattle.rev_schedule.specs.Builds.{job_of, no_job, places_of, edges_of}
use Rattle.rev_schedule.specs.Turns.{Turn, IsFirst}
use Rattle.rev_schedule.specs.Moments.{Moment, OnlyQueues, OnlyLine, line_of}
use Rattle.rev_schedule.specs.Ninja.{Waits, HandsOn, Frees}

pub job-read : (build : Build) (edge : ℕ) (job : Job) → edge < edges_of build → job ≡ get_or build.jobs.items edge job → job_of build edge ≡ job
job-read build edge job h e = sym (get_or_read_under build.jobs.items edge (length build.jobs.items) job no_job e h refl)

module _ (build : Build) (edge : ℕ) (job : Job) (is : job_of build edge ≡ job) (before after : Moment) where
  pub waits-of : places_of build job.pool ≤ get_or before.used job.pool 0 → IsPermutation ((job.rank, edge) ∷ line_of before job.pool) (line_of after job.pool)
      → OnlyLine job.pool before.waiting after.waiting → after.used ≡ before.used → after.ready ≡ before.ready → OnlyQueues before after → Waits build edge before after
  waits-of none line others used ready rest = record {
    no_place = subst (λ (j : Job). places_of build j.pool ≤ get_or before.used j.pool 0) (sym is) none;
    line = subst (λ (j : Job). IsPermutation ((j.rank, edge) ∷ line_of before j.pool) (line_of after j.pool)) (sym is) line;
    others = subst (λ (j : Job). OnlyLine j.pool before.waiting after.waiting) (sym is) others;
    used = used;
    ready = ready;
    rest = rest;
  }

  pub hands_on-of : (next : Turn) → IsFirst next (line_of before job.pool) (line_of after job.pool)
      → OnlyLine job.pool before.waiting after.waiting → IsPermutation (next ∷ before.ready) after.ready → after.used ≡ before.used → OnlyQueues before after → HandsOn build edge before after
  hands_on-of next first others ready used rest = record {
    next = next;
    first = subst (λ (j : Job). IsFirst next (line_of before j.pool) (line_of after j.pool)) (sym is) first;
    others = subst (λ (j : Job). OnlyLine j.pool before.waiting after.waiting) (sym is) others;
    ready = ready;
    used = used;
    rest = rest;
  }

  pub frees-of : line_of before job.pool ≡ [] → after.used ≡ set before.used job.pool (get_or before.used job.pool 0 - 1)
      → after.waiting ≡ before.waiting → after.ready ≡ before.ready → OnlyQueues before after → Frees build edge before after
  frees-of nobody used waiting ready rest = record {
    nobody = subst (λ (j : Job). line_of before j.pool ≡ []) (sym is) nobody;
    used = subst (λ (j : Job). after.used ≡ set before.used j.pool (get_or before.used j.pool 0 - 1)) (sym is) used;
    waiting = waiting;
    ready = ready;
    rest = rest;
  }
