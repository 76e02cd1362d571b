-- Two commands by which the statement is false without a premise.
use Rattle.std.proofs.Common.{◌≡◌, ℕ, zero, suc, true, List, [], ◌∷◌, ◌++◌, Some, None, inr, refl, sym, ap, subst, ◌∙◌, arith, true≢false}
use Rattle.std.specs.Prelude.{◌≢◌}
use Rattle.rev_manifest.specs.Manifest.{BuildValue}
use Rattle.rev_graph.specs.Graph.{EdgeReaches.step as one_step, EdgeReaches.further as then_on, no_build}
use Rattle.rev_waits.specs.Waits.{Waits}
use Rattle.rev_outcome.specs.Commands.{Act.Ask, Act.Leave, Act.End, Command, Disk, Look.File, Seen.Holds, Step, Step.Saw, Step.Left}
use Rattle.rev_outcome.proofs.StepLemmas.{with-other}
use Rattle.rev_outcome.specs.Schedules.{after, HasSameOutcome, IsComplete, NoneConflict, World, leaves, opening, run, uses}
use Rattle.rev_outcome.specs.Premises.{LooksCount, NoneLeaveBoth, OrderCounts}

-- edge 0 leaves a path, and edge 1 looks at it
maker : Command
maker [] = Leave [] (Some [])
maker (step ∷ steps) = End 0

reader : Command
reader [] = Ask (File [])
reader (step ∷ steps) = End 0

abbrev two : ℕ → Command
two zero = maker
two (suc zero) = reader
two (suc (suc n)) = λ steps. End 0

bare : Disk
bare path = None

abbrev forth : World
forth = run two (opening bare) (0 ∷ 1 ∷ [])

abbrev back : World
back = run two (opening bare) (1 ∷ 0 ∷ [])

complete : IsComplete two forth
unfolding maker reader
complete zero = refl
complete (suc zero) = refl
complete (suc (suc n)) = refl

by-maker : forth.steps 0 ≡ Left [] (Some []) ∷ []
unfolding maker reader
by-maker = refl

by-reader : forth.steps 1 ≡ Saw (File []) (Holds (Some [])) ∷ []
unfolding maker reader bare
by-reader = refl

by-reader-back : back.steps 1 ≡ Saw (File []) (Holds None) ∷ []
unfolding maker reader bare
by-reader-back = refl

by-others : (n : ℕ) → forth.steps (suc (suc n)) ≡ []
unfolding maker reader bare
by-others n =
    let first : World = after two (opening bare) 0 in
    with-other first.steps 1 (Saw (File []) (Holds (Some []))) (suc (suc n)) (λ e. omega (arith, e))
    ∙ with-other (λ edge. []) 0 (Left [] (Some [])) (suc (suc n)) (λ e. omega (arith, e))

none-else : (edge : ℕ) (path : List ℕ) → leaves path (forth.steps edge) ≡ true → edge ≡ 0
none-else zero path h = refl
none-else (suc zero) path h = absurd (true≢false (sym h ∙ ap (leaves path) by-reader))
none-else (suc (suc n)) path h = absurd (true≢false (sym h ∙ ap (leaves path) (by-others n)))

none-uses : (edge : ℕ) (path : List ℕ) → edge ≢ 0 → uses path (forth.steps edge) ≡ true → edge ≡ 1
none-uses zero path apart h = absurd (apart refl)
none-uses (suc zero) path apart h = refl
none-uses (suc (suc n)) path apart h = absurd (true≢false (sym h ∙ ap (uses path) (by-others n)))

-- the two schedules differ in what the reader saw
differ : HasSameOutcome two forth back → ⊥
differ h = by (h.as_here 1).0 (sym by-reader ∙ (h.as_here 1).1 ∙ ap (λ steps. (h.as_here 1).0 ++ steps) by-reader-back)
  where
    by : (later : List Step) → Saw (File []) (Holds (Some [])) ∷ [] ≡ later ++ Saw (File []) (Holds None) ∷ [] → ⊥
    by [] e = cc
    by (step ∷ []) e = cc
    by (step ∷ another ∷ later) e = cc

-- WITHOUT LOOKS
-- with no build lines nothing waits
none-waits : (edge other : ℕ) → Waits [] edge other → ⊥
none-waits edge other (one_step step) = no-producer step.produced
  where
    no-producer : None ≡ Some other → ⊥
    no-producer e = cc
none-waits edge other (then_on {middle = m} step way) = no-producer m step.produced
  where
    no-producer : (m : ℕ) → None ≡ Some m → ⊥
    no-producer m e = cc

pub looks-count : LooksCount
looks-count h =
    differ (h [] two bare (0 ∷ 1 ∷ []) (1 ∷ 0 ∷ [])
    (λ other way. absurd (none-waits 0 other way), (λ other way. absurd (none-waits 1 other way), tt)) complete none
    (λ other way. absurd (none-waits 1 other way), (λ other way. absurd (none-waits 0 other way), tt)))
  where
    none : NoneLeaveBoth (Waits []) forth.steps
    none a b path apart one another = absurd (apart (none-else a path one ∙ sym (none-else b path another)))

-- WITHOUT AN ORDER
-- what edge 0 makes is an input of edge 1
lines : List BuildValue
lines = record no_build { explicit_outs = [] ∷ [] } ∷ record no_build { explicit = [] ∷ [] } ∷ []

one-waits : Waits lines 1 0
unfolding lines
one-waits = one_step (record { path = []; is_input = (0, omega arith, refl); produced = refl })

pub order-counts : OrderCounts
order-counts h = differ (h lines two bare (0 ∷ 1 ∷ []) (1 ∷ 0 ∷ []) tt complete none tt)
  where
    none : NoneConflict (Waits lines) forth.steps
    none a b path apart leave used =
        let first = none-else a path leave in
        let second = none-uses b path (λ e. apart (first ∙ sym e)) used in
        inr (subst (λ x. Waits lines b x) (sym first) (subst (λ x. Waits lines x 0) (sym second) one-waits))
