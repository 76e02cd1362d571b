-- Which runs there are, and which event ends one.
use Rattle.std.proofs.Common.{◌≡◌, ℕ, zero, suc, ◌<◌, ◌+◌, ◌==◌, Bool, true, false, not, List, [], ◌∷◌, ◌++◌, Option, Some, None, Contains, inl, inr, refl, sym, ap, subst, ◌∙◌, arith, true≢false, if◌then◌else◌}
use Rattle.std.specs.Prelude.{◌↔◌}
use Rattle.std.specs.List.{range_with_len}
use Rattle.std.proofs.lemmas.Bool.{cases_eq, eq-eqb, eqb-true}
use Rattle.std.proofs.lemmas.List.Elements.{Contains-append_cases, Contains-append_left, Contains-append_right, Contains-push, Contains-push_cases}
use Rattle.rev_history.specs.Timeline.{Timeline, last_of}
use Rattle.rev_runs.specs.declared.ran.Run.{Run}
use Rattle.rev_runs.specs.declared.steps.Step.{Step}
use Rattle.rev_runs.specs.declared.steps.Step.TheVariants.{Begin, End}
use Rattle.rev_runs.specs.Runs.{alike, edge_of, end_among, is_kept, next_end, run_by, runs_in, step_at}
use Rattle.rev_runs.specs.Laws.{IsNextEnd, IsRunWithin, RunsEndNext, Turns}

-- BOTH HOLD, OR BOTH DO NOT
alike-is : (kept b : Bool) → alike kept b ≡ true → b ≡ kept
alike-is true b e = e
alike-is false true e = absurd (true≢false (sym e))
alike-is false false e = refl

is-alike : (kept b : Bool) → b ≡ kept → alike kept b ≡ true
is-alike true b e = e
is-alike false b e = ap not e

-- THE NEXT END
module _ (t : Timeline) (kept : Bool) (edge : ℕ) where
  -- a number that does not turn the command is passed over
  pass : (from bound n : ℕ) → (Turns t kept edge from → ⊥) → IsNextEnd t kept edge (from + 1) bound n ↔ IsNextEnd t kept edge from bound n
  pass from bound n apart = (
    λ next. record {
      after = let after = next.after in omega (arith, after);
      within = next.within;
      ends = next.ends;
      kept_is = next.kept_is;
      first = λ between low less turns. elim (cases_eq between from) [
        | inl same ↦ apart (subst (Turns t kept edge) same turns)
        | inr other ↦ next.first between (omega (arith, low, other)) less turns
      ];
    },
    λ next. elim (cases_eq n from) [
      | inl same ↦ absurd (apart (subst (Turns t kept edge) same (record { step = End edge; does = next.ends; of_edge = refl; kept_is = next.kept_is })))
      | inr other ↦ record {
        after = let after = next.after in omega (arith, after, other);
        within = next.within;
        ends = next.ends;
        kept_is = next.kept_is;
        first = λ between low less turns. next.first between (omega (arith, low)) less turns;
      }
    ],
  )

  -- nothing is found where the number begins the command
  begun : (from bound n : ℕ) (step : Step) → step_at t from ≡ Some step → is_kept t from ≡ kept → edge_of step ≡ edge → (step_at t from ≡ Some (End edge) → ⊥) → IsNextEnd t kept edge from bound n → ⊥
  begun from bound n step does alike-kept of apart next = elim (cases_eq n from) [
    | inl same ↦ apart (subst (λ k. step_at t k ≡ Some (End edge)) same next.ends)
    | inr other ↦
        let after = next.after in
        next.first from (omega arith) (omega (arith, after, other)) (record { step = step; does = does; of_edge = of; kept_is = alike-kept })
  ]

  -- the number itself, where it ends the command
  ended-here : (from bound n : ℕ) → from < bound → step_at t from ≡ Some (End edge) → is_kept t from ≡ kept → (Some from ≡ Some n) ↔ IsNextEnd t kept edge from bound n
  ended-here from bound n less ends alike-kept = (
    λ e.
        let same : from ≡ n = cc in
        subst (IsNextEnd t kept edge from bound) same (record {
          after = omega arith;
          within = less;
          ends = ends;
          kept_is = alike-kept;
          first = λ between low high turns. omega (arith, low, high);
        }),
    λ next. elim (cases_eq n from) [
      | inl same ↦ ap Some (sym same)
      | inr other ↦
          let after = next.after in
          absurd (next.first from (omega arith) (omega (arith, after, other)) (record { step = End edge; does = ends; of_edge = refl; kept_is = alike-kept }))
    ],
  )

  -- what is found from a number on, by what its event does
  one-more : (from bound n : ℕ) (rest : Option ℕ) → from < bound → (rest ≡ Some n) ↔ IsNextEnd t kept edge (from + 1) bound n
      → ((if alike kept (is_kept t from) then next_end edge from (step_at t from) rest else rest) ≡ Some n) ↔ IsNextEnd t kept edge from bound n
  one-more from bound n rest less further = by (alike kept (is_kept t from)) (step_at t from) refl refl
    where
      on : (Turns t kept edge from → ⊥) → (rest ≡ Some n) ↔ IsNextEnd t kept edge from bound n
      on apart = (λ e. (pass from bound n apart).0 (further.0 e), λ next. further.1 ((pass from bound n apart).1 next))

      none-some : None ≡ Some n → ⊥
      none-some e = true≢false cc

      begins : (e job : ℕ) (c : Bool) → step_at t from ≡ Some (Begin e job) → is_kept t from ≡ kept → (e == edge) ≡ c → ((if c then None else rest) ≡ Some n) ↔ IsNextEnd t kept edge from bound n
      begins e job true does alike-kept is = (
        λ none. absurd (none-some none),
        λ next. absurd (begun from bound n (Begin e job) does alike-kept (eqb-true e edge is) (λ ends. let two : Some (Begin e job) ≡ Some (End edge) = sym does ∙ ends in true≢false cc) next),
      )
      begins e job false does alike-kept is = on (λ turns.
          let two : Some (Begin e job) ≡ Some turns.step = sym does ∙ turns.does in
          let same : Begin e job ≡ turns.step = cc in
          true≢false (sym (eq-eqb e edge (ap edge_of same ∙ turns.of_edge)) ∙ is))

      ends : (e : ℕ) (c : Bool) → step_at t from ≡ Some (End e) → is_kept t from ≡ kept → (e == edge) ≡ c → ((if c then Some from else rest) ≡ Some n) ↔ IsNextEnd t kept edge from bound n
      ends e true does alike-kept is = ended-here from bound n less (does ∙ ap (λ k. Some (End k)) (eqb-true e edge is)) alike-kept
      ends e false does alike-kept is = on (λ turns.
          let two : Some (End e) ≡ Some turns.step = sym does ∙ turns.does in
          let same : End e ≡ turns.step = cc in
          true≢false (sym (eq-eqb e edge (ap edge_of same ∙ turns.of_edge)) ∙ is))

      by : (b : Bool) (o : Option Step) → alike kept (is_kept t from) ≡ b → step_at t from ≡ o → ((if b then next_end edge from o rest else rest) ≡ Some n) ↔ IsNextEnd t kept edge from bound n
      by false o apart does = on (λ turns. true≢false (sym (is-alike kept (is_kept t from) turns.kept_is) ∙ apart))
      by true None is does = on (λ turns. let no : None ≡ Some turns.step = sym does ∙ turns.does in true≢false cc)
      by true (Some (Begin e job)) is does = begins e job (e == edge) does (alike-is kept (is_kept t from) is) refl
      by true (Some (End e)) is does = ends e (e == edge) does (alike-is kept (is_kept t from) is) refl

  next-end : (from many n : ℕ) → (end_among t kept edge (range_with_len from many) ≡ Some n) ↔ IsNextEnd t kept edge from (from + many) n
  next-end from zero n = (
    λ e. let no : None ≡ Some n = e in absurd (true≢false cc),
    λ next. let after = next.after in let within = next.within in absurd (omega (arith, after, within)),
  )
  next-end from (suc many) n =
      let bound : from + 1 + many ≡ from + suc many = omega arith in
      one-more from (from + suc many) n (end_among t kept edge (range_with_len (from + 1) many)) (omega arith)
      (subst (λ b. (end_among t kept edge (range_with_len (from + 1) many) ≡ Some n) ↔ IsNextEnd t kept edge (from + 1) b n) bound (next-end (from + 1) many n))

-- THE RUNS
-- two numbers that may be missing are one where they are the same numbers
same-number : (o p : Option ℕ) → ((n : ℕ) → (o ≡ Some n) ↔ (p ≡ Some n)) → o ≡ p
same-number None None h = refl
same-number None (Some m) h = (h m).1 refl
same-number (Some m) p h = sym ((h m).0 refl)

module _ (t : Timeline) where
  -- a run of the later numbers is one of all
  later : (from bound : ℕ) (r : Run) → IsRunWithin t (from + 1) bound r → IsRunWithin t from bound r
  later from bound r is = record {
    after = let after = is.after in omega (arith, after);
    within = is.within;
    begins = is.begins;
    kept_is = is.kept_is;
    ended = is.ended;
  }

  -- a run that another number begins is one of the later numbers
  not-here : (from bound : ℕ) (r : Run) → (r.began ≡ from → ⊥) → IsRunWithin t from bound r → IsRunWithin t (from + 1) bound r
  not-here from bound r other is = record {
    after = let after = is.after in omega (arith, after, other);
    within = is.within;
    begins = is.begins;
    kept_is = is.kept_is;
    ended = is.ended;
  }

  -- the run that a number begins
  abbrev begun-by : ℕ → ℕ → ℕ → List ℕ → Run
  begun-by from edge job rest = record { edge = edge; job = job; began = from; ended = end_among t (is_kept t from) edge rest; kept = is_kept t from }

  module _ (from many : ℕ) (edge job : ℕ) (does : step_at t from ≡ Some (Begin edge job)) where
    abbrev run : Run
    run = begun-by from edge job (range_with_len (from + 1) many)

    ends-next : (n : ℕ) → (end_among t (is_kept t from) edge (range_with_len (from + 1) many) ≡ Some n) ↔ IsNextEnd t (is_kept t from) edge (from + 1) (from + suc many) n
    ends-next n =
        let bound : from + 1 + many ≡ from + suc many = omega arith in
        subst (λ b. (end_among t (is_kept t from) edge (range_with_len (from + 1) many) ≡ Some n) ↔ IsNextEnd t (is_kept t from) edge (from + 1) b n) bound (next-end t (is_kept t from) edge (from + 1) many n)

    is-run : IsRunWithin t from (from + suc many) run
    is-run = record { after = omega arith; within = omega arith; begins = does; kept_is = refl; ended = ends-next }

    -- no other run begins there
    only-run : (r : Run) → r.began ≡ from → IsRunWithin t from (from + suc many) r → run ≡ r
    only-run r here is = λ i. record { edge = edges i; job = jobs i; began = sym here i; ended = ended i; kept = kept i }
      where
        begins : Some (Begin edge job) ≡ Some (Begin r.edge r.job)
        begins = sym does ∙ sym (ap (step_at t) here) ∙ is.begins

        edges : edge ≡ r.edge
        edges = cc

        jobs : job ≡ r.job
        jobs = cc

        kept : is_kept t from ≡ r.kept
        kept = sym (is.kept_is ∙ ap (is_kept t) here)

        as-it : (n : ℕ) → IsNextEnd t (is_kept t from) edge (from + 1) (from + suc many) n → IsNextEnd t r.kept r.edge (r.began + 1) (from + suc many) n
        as-it n next =
            subst (λ k. IsNextEnd t k r.edge (r.began + 1) (from + suc many) n) kept
            (subst (λ k. IsNextEnd t (is_kept t from) k (r.began + 1) (from + suc many) n) edges
            (subst (λ k. IsNextEnd t (is_kept t from) edge (k + 1) (from + suc many) n) (sym here) next))

        as-this : (n : ℕ) → IsNextEnd t r.kept r.edge (r.began + 1) (from + suc many) n → IsNextEnd t (is_kept t from) edge (from + 1) (from + suc many) n
        as-this n next =
            subst (λ k. IsNextEnd t k edge (from + 1) (from + suc many) n) (sym kept)
            (subst (λ k. IsNextEnd t r.kept k (from + 1) (from + suc many) n) (sym edges)
            (subst (λ k. IsNextEnd t r.kept r.edge (k + 1) (from + suc many) n) here next))

        ended : end_among t (is_kept t from) edge (range_with_len (from + 1) many) ≡ r.ended
        ended = same-number (end_among t (is_kept t from) edge (range_with_len (from + 1) many)) r.ended (λ n. (
          λ e. (is.ended n).1 (as-it n ((ends-next n).0 e)),
          λ e. (ends-next n).1 (as-this n ((is.ended n).0 e)),
        ))

  -- the runs of one number more
  more-runs : (from many : ℕ) (r : Run) (rest : List Run) (o : Option Step) → step_at t from ≡ o → Contains rest r ↔ IsRunWithin t (from + 1) (from + suc many) r
      → Contains (run_by t from (range_with_len (from + 1) many) o ++ rest) r ↔ IsRunWithin t from (from + suc many) r
  more-runs from many r rest None does further = (
    λ c. later from (from + suc many) r (further.0 c),
    λ is. further.1 (not-here from (from + suc many) r (λ here. let no : None ≡ Some (Begin r.edge r.job) = sym does ∙ sym (ap (step_at t) here) ∙ is.begins in true≢false cc) is),
  )
  more-runs from many r rest (Some (End edge)) does further = (
    λ c. later from (from + suc many) r (further.0 c),
    λ is. further.1 (not-here from (from + suc many) r (λ here. let no : Some (End edge) ≡ Some (Begin r.edge r.job) = sym does ∙ sym (ap (step_at t) here) ∙ is.begins in true≢false cc) is),
  )
  more-runs from many r rest (Some (Begin edge job)) does further = (
    λ c. elim (Contains-append_cases (run from many edge job does ∷ []) rest r c) [
      | inl one ↦ elim (Contains-push_cases [] (run from many edge job does) r one) [
        | inl none ↦ let within = none.1 in absurd (omega (arith, within))
        | inr same ↦ subst (IsRunWithin t from (from + suc many)) same (is-run from many edge job does)
      ]
      | inr old ↦ later from (from + suc many) r (further.0 old)
    ],
    λ is. elim (cases_eq r.began from) [
      | inl here ↦
          Contains-append_left (run from many edge job does ∷ []) rest r
          (subst (Contains (run from many edge job does ∷ [])) (only-run from many edge job does r here is) (Contains-push [] (run from many edge job does)))
      | inr other ↦ Contains-append_right (run from many edge job does ∷ []) rest r (further.1 (not-here from (from + suc many) r other is))
    ],
  )

  runs-within : (from many : ℕ) (r : Run) → Contains (runs_in t (range_with_len from many)) r ↔ IsRunWithin t from (from + many) r
  runs-within from zero r = (
    λ c. let within = c.1 in absurd (omega (arith, within)),
    λ is. let after = is.after in let within = is.within in absurd (omega (arith, after, within)),
  )
  runs-within from (suc many) r =
      let bound : from + 1 + many ≡ from + suc many = omega arith in
      more-runs from many r (runs_in t (range_with_len (from + 1) many)) (step_at t from) refl
      (subst (λ b. Contains (runs_in t (range_with_len (from + 1) many)) r ↔ IsRunWithin t (from + 1) b r) bound (runs-within (from + 1) many r))

pub runs-end-next : RunsEndNext
runs-end-next t r = runs-within t 1 (last_of t.accepted) r
