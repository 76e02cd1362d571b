-- A history that goes over the kept events of another.
use Rattle.std.proofs.Common.{◌≡◌, ℕ, ◌+◌, ◌<◌, List, [], ◌∷◌, ◌++◌, Option, Some, None, sym, ap, ◌∙◌, arith}
use Rattle.rev_causal.specs.Machine.{run}
use Rattle.rev_causal.proofs.Chosen.{all_below, chosen-push}
use Rattle.rev_causal.proofs.Runs as Runs
use Rattle.rev_events.specs.declared.event.Event.{Event}
use Rattle.rev_events.specs.Machine.{after}
use Rattle.rev_history.specs.Timeline.{IsHistory, Timeline, accepted_as, chosen, event_at, kept_events, last_of, machine_at, state_at, under}
use Rattle.rev_races.proofs.AnswerLemmas.{chosen-one-more}
use Rattle.rev_suspects.specs.Past.{IsPast}

pub next_state : (p u : Timeline) (n : ℕ) (e : Event) → IsHistory p → n ≡ last_of p.accepted + 1 → u ≡ accepted_as n e p
    → state_at u ≡ after p.manifest (state_at p) e
next_state p u n e h next is =
    let lt : last_of p.accepted < n = omega (arith, next) in
    ap state_at is
    ∙ ap (run (machine_at p) p.opening) (chosen-push p.accepted p.kept n e lt (all_below p.accepted p.kept n lt h.accepted))
    ∙ Runs.run-append (machine_at p) p.opening (kept_events p) ((n, e) ∷ [])

-- the state after one more number
run-more : (t : Timeline) (ks : List ℕ) (n : ℕ) (o : Option Event) → event_at t n ≡ o
    → run (machine_at t) t.opening (chosen t.accepted (ks ++ n ∷ [])) ≡ run (machine_at t) (run (machine_at t) t.opening (chosen t.accepted ks)) (under n o [])
run-more t ks n o is =
    ap (run (machine_at t) t.opening) (chosen-one-more t.accepted ks n ∙ ap (λ q. chosen t.accepted ks ++ under n q []) is)
    ∙ Runs.run-append (machine_at t) t.opening (chosen t.accepted ks) (under n o [])

pub past-more : (t p u : Timeline) (ks : List ℕ) (n : ℕ) (e : Event) → event_at t n ≡ Some e → u.manifest ≡ p.manifest → u.jobs ≡ p.jobs
    → state_at u ≡ after p.manifest (state_at p) e → IsPast t ks p → IsPast t (ks ++ n ∷ []) u
past-more t p u ks n e is manifest jobs state before = record {
  manifest_is = manifest ∙ before.manifest_is;
  jobs_are = jobs ∙ before.jobs_are;
  state_is = state ∙ (λ i. after (before.manifest_is i) (before.state_is i) e) ∙ sym (run-more t ks n (Some e) is);
}

pub past-same : (t p : Timeline) (ks : List ℕ) (n : ℕ) → event_at t n ≡ None → IsPast t ks p → IsPast t (ks ++ n ∷ []) p
past-same t p ks n none before = record {
  manifest_is = before.manifest_is;
  jobs_are = before.jobs_are;
  state_is = before.state_is ∙ sym (run-more t ks n None none);
}
