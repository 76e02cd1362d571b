use Rattle.std.proofs.Common.{◌≡◌, ◌≤◌, ◌∙◌, Contains, sym, subst, ℕ, List, Some}
use Rattle.std.specs.List.{AllByRecursion}
use Rattle.std.proofs.lemmas.List.Elements.{Contains-append_left, Contains-append_right}
use Rattle.rev_workers.specs.Running.{Covers, IsUnder, numbers_in}
use Rattle.rev_workers.proofs.Covered.{all-from, covers-lost}
use Rattle.rev_workers.proofs.Together.{below-numbers, if-weaker, numbers-earlier, numbers-halves, numbers-later}
use Rattle.rev_workers.proofs.Told.{as_promised, told-joined, told-lost}
use denote.Param.Send.{arg_send, param_send}
use Rattle.rev_workers.proofs.Sends.{given_send}
use Rattle.rev_workers.proofs.halves.+halves.Goals as goal

pub run_both-scope-end_all-requires : goal.run_both-scope-end_all-requires
run_both-scope-end_all-requires g t c = rw c.requires.5 (below-numbers _ _ c.requires.4)

pub run_halves-end_all-requires : goal.run_halves-end_all-requires
run_halves-end_all-requires g t c = rw c.requires.numbers (below-numbers _ _ c.requires.below)

pub run_halves-run_both-requires-clause-numbers : goal.run_halves-run_both-requires-clause-numbers
run_halves-run_both-requires-clause-numbers g t c κs within =
    numbers-earlier c.len-middle.result _ c.args.numbers.now _ c.args.jobs.items _ c.requires.numbers c.split_at.ensures.front c.len-middle.ensures c.in-Ok.ensures.earlier

pub run_halves-run_both-requires-clause-later_numbers : goal.run_halves-run_both-requires-clause-later_numbers
run_halves-run_both-requires-clause-later_numbers g t c κs within =
    numbers-later c.len-middle.result _ c.args.numbers.now _ c.args.jobs.items _ c.requires.numbers c.split_at.ensures.back c.len-middle.ensures c.in-Ok.ensures.later

pub run_halves-run_both-requires-clause-all : goal.run_halves-run_both-requires-clause-all
run_halves-run_both-requires-clause-all g t c κs within =
    c.requires.numbers ∙ numbers-halves _ c.args.jobs.items _ _ c.in-Ok.ensures.earlier c.in-Ok.ensures.later

pub run_halves-returns-clause-stopped : goal.run_halves-returns-clause-stopped
run_halves-returns-clause-stopped g t c =
    if-weaker c.run_both.result.1 _ _
    (λ n h. subst (λ (xs : List ℕ). Contains xs n) (sym (numbers-halves _ c.args.jobs.items _ _ c.in-Ok.ensures.earlier c.in-Ok.ensures.later)) h)
    c.run_both.ensures.stopped

pub run_both-scope-together-requires-in-Err : goal.run_both-scope-together-requires-in-Err
run_both-scope-together-requires-in-Err g t c =
    let n = c.least_of.result in
    record {
      some = c.requires.10;
      earlier =
          if-weaker c.run_halves-earlier.result.1 _ _
          (λ n h. subst (λ (xs : List ℕ). Contains xs n) (sym c.requires.7) (Contains-append_left _ _ n h))
          c.run_halves-earlier.ensures.stopped;
      later = subst (λ (xs : List ℕ). Contains xs n) (sym c.requires.7)
          (Contains-append_right (numbers_in c.captures.jobs.items) (numbers_in c.captures.later.items) n
          (subst (λ (xs : List ℕ). Contains xs n) c.requires.5 c.least_of.ensures.among));
    }

pub run_both-scope-together-requires : goal.run_both-scope-together-requires
run_both-scope-together-requires g t c =
    let started = rw c.in-Ok.is at c.spawn_with-worker.ensures.ok in
    let same : c.in-Ok.handle.promise.0.value ≡ c.captures.later = (λ i. (started i).0.value) ∙ c.of-promise.ensures.0 in
    let gate : c.in-Ok.handle.promise.1.value ≡ c.captures.gate.now = (λ i. (started i).1.value) ∙ c.of-promise.ensures.1 in
    let said = as_promised g.G.Gate.told g.G.Gate.answered (λ v. v.items) c.join.result c.in-Ok.handle.promise.0.value.items c.captures.later.items _ c.captures.gate.now (λ i. (same i).items) gate c.join.ensures in
    record {
      some = c.requires.10;
      earlier =
          if-weaker c.run_halves-earlier.result.1 _ _
          (λ n h. subst (λ (xs : List ℕ). Contains xs n) (sym c.requires.7) (Contains-append_left _ _ n h))
          c.run_halves-earlier.ensures.stopped;
      later =
          if-weaker c.join.result.1 _ _
          (λ n h. subst (λ (xs : List ℕ). Contains xs n) (sym c.requires.7) (Contains-append_right _ _ n h))
          said.1;
    }

pub run_both-scope-returns-in-Ok : goal.run_both-scope-returns-in-Ok
run_both-scope-returns-in-Ok g t c =
    let started = rw c.in-Ok.is at c.spawn_with-worker.ensures.ok in
    let same : c.in-Ok.handle.promise.0.value ≡ c.captures.later = (λ i. (started i).0.value) ∙ c.of-promise.ensures.0 in
    let gate : c.in-Ok.handle.promise.1.value ≡ c.captures.gate.now = (λ i. (started i).1.value) ∙ c.of-promise.ensures.1 in
    let said = as_promised g.G.Gate.told g.G.Gate.answered (λ v. v.items) c.join.result c.in-Ok.handle.promise.0.value.items c.captures.later.items _ c.captures.gate.now (λ i. (same i).items) gate c.join.ensures in (
      c.together.ensures.ran c.captures.jobs.items c.captures.later.items c.requires.7 c.run_halves-earlier.ensures.ran said.0,
      if-weaker c.together.result.1 _ _ (λ n h. subst (λ (xs : List ℕ). Contains xs n) c.requires.7 h) c.together.ensures.stopped,
      told-joined g.G.Gate.told g.G.Gate.answered c.captures.gate.now c.run_halves-earlier.result.1 c.join.result.1 c.together.result.1 c.captures.jobs.items c.captures.later.items
          (subst (AllByRecursion (λ n. IsUnder c.together.result.1 n → IsUnder c.run_halves-earlier.result.1 n × IsUnder c.join.result.1 n)) c.requires.7 c.together.ensures.under)
          c.run_halves-earlier.ensures.told said.2,
    )

pub run_both-scope-returns-in-Err : goal.run_both-scope-returns-in-Err
run_both-scope-returns-in-Err g t c =
    let n = c.least_of.result in
    let later = c.captures.later.items in
    let least : AllByRecursion (λ k. n ≤ k) (numbers_in later) = subst (AllByRecursion (λ k. n ≤ k)) c.requires.5 (all-from n c.captures.later_numbers.now c.least_of.ensures.least) in
    let lost : Covers (Some n) later c.new-none.result.items = subst (Covers (Some n) later) (sym c.new-none.ensures.items) (covers-lost n later least) in (
      c.together-in-Err.ensures.ran c.captures.jobs.items later c.requires.7 c.run_halves-earlier.ensures.ran lost,
      if-weaker c.together-in-Err.result.1 _ _ (λ n h. subst (λ (xs : List ℕ). Contains xs n) c.requires.7 h) c.together-in-Err.ensures.stopped,
      told-joined g.G.Gate.told g.G.Gate.answered c.captures.gate.now c.run_halves-earlier.result.1 (Some n) c.together-in-Err.result.1 c.captures.jobs.items later
          (subst (AllByRecursion (λ k. IsUnder c.together-in-Err.result.1 k → IsUnder c.run_halves-earlier.result.1 k × IsUnder (Some n) k)) c.requires.7 c.together-in-Err.ensures.under)
          c.run_halves-earlier.ensures.told (told-lost g.G.Gate.told g.G.Gate.answered c.captures.gate.now n later least),
    )

pub run_halves-returns-in_default-clause-ran : goal.run_halves-returns-in_default-clause-ran
run_halves-returns-in_default-clause-ran g t c =
    let n = c.least_of.result in
    let least : AllByRecursion (λ k. n ≤ k) (numbers_in c.args.jobs.items) = subst (AllByRecursion (λ k. n ≤ k)) c.requires.numbers (all-from n c.args.numbers.now c.least_of.ensures.least) in
    subst (Covers (Some n) c.args.jobs.items) (sym c.requires.room) (covers-lost n c.args.jobs.items least)

pub run_halves-returns-in_default-clause-told : goal.run_halves-returns-in_default-clause-told
run_halves-returns-in_default-clause-told g t c =
    let n = c.least_of.result in
    told-lost g.G.Gate.told g.G.Gate.answered c.args.gate.now n c.args.jobs.items
    (subst (AllByRecursion (λ k. n ≤ k)) c.requires.numbers (all-from n c.args.numbers.now c.least_of.ensures.least))

pub run_both-scope-spawn_with-worker-requires-send-F : goal.run_both-scope-spawn_with-worker-requires-send-F
run_both-scope-spawn_with-worker-requires-send-F g t c κs within = search (param_send, arg_send, given_send, c.requires.0, c.requires.11)
