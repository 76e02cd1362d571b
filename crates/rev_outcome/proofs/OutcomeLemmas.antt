-- One schedule, followed by another one.
use Rattle.std.proofs.Common.{◌≡◌, ℕ, true, List, [], ◌∷◌, ◌++◌, Option, Some, None, inl, inr, refl, sym, ap, subst, ◌∙◌, true≢false, true≢false, append-nil}
use Rattle.std.specs.Prelude.{◌||◌}
use Rattle.std.proofs.lemmas.Bool.{cases_eq}
use Rattle.rev_manifest.specs.Manifest.{BuildValue}
use Rattle.rev_graph.specs.Graph.{EdgeReaches, EdgeReaches.step as one_step, EdgeReaches.further as then_on}
use Rattle.rev_outcome.specs.Commands.{Act.Ask, Command, Disk, Look, Step, Step.Saw, see, is_asked, is_end, is_used}
use Rattle.rev_outcome.specs.Schedules.{HasEnded, IsLegal, NoneConflict, World, after, after_step, leaves, opening, run, step_of, uses, with_step}
use Rattle.rev_outcome.specs.Laws.{OneOutcome, OneOutcomeBy}
use Rattle.rev_outcome.proofs.StepLemmas.{Grown, any-grown, grown-on, grown-one, grown-same, no-step, none-begun, same-or-next, see-same, step-same, with-other, with-same}
use Rattle.rev_outcome.proofs.WorldLemmas.{IsOnTheWay, IsReady, acts-if, none-yet, one-more, same-held}

-- A PROPERTY OF EACH EDGE'S STEPS, THROUGH ONE STEP
-- the steps of an edge grow
after-grown : (world : World) (edge : ℕ) (step : Option Step) (other : ℕ) → Grown (world.steps other) ((after_step world edge step).steps other)
after-grown world edge None other = grown-same (world.steps other)
after-grown world edge (Some step) other = elim (cases_eq other edge) [
  | inl same ↦ subst (λ x. Grown (world.steps x) (with_step world.steps edge step x)) (sym same) (subst (λ steps. Grown (world.steps edge) steps) (sym (with-same world.steps edge step)) (grown-one step (world.steps edge)))
  | inr apart ↦ subst (λ steps. Grown (world.steps other) steps) (sym (with-other world.steps edge step other apart)) (grown-same (world.steps other))
]

run-grown : (commands : ℕ → Command) (edges : List ℕ) (world : World) (other : ℕ) → Grown (world.steps other) ((run commands world edges).steps other)
run-grown commands [] world other = grown-same (world.steps other)
run-grown commands (edge ∷ edges) world other =
    grown-on (after-grown world edge (step_of world.disk (commands edge (world.steps edge))) other) (run-grown commands edges (after commands world edge) other)

module _ (Waits : ℕ → ℕ → Type 0) (through : (a b c : ℕ) → Waits a b → Waits b c → Waits a c) (commands : ℕ → Command) (first : Disk) (all : ℕ → List Step) where
  abbrev OnTheWay : World → Type 0
  OnTheWay world = IsOnTheWay Waits through commands first all world

  abbrev Ready : World → ℕ → Type 0
  Ready world edge = IsReady Waits through commands first all world edge

  -- where one of all steps was done in the schedule that shows no conflict
  record IsFound (edge : ℕ) (before : List Step) (step : Step) : Type 0 where
    world : World
    on : OnTheWay world
    at : world.steps edge ≡ before
    ready : Ready world edge
    is : step_of world.disk (commands edge before) ≡ Some step

  abbrev AreFound : ℕ → List Step → Type 0
  AreFound edge [] = Unit {0}
  AreFound edge (step ∷ steps) = IsFound edge steps step × AreFound edge steps

  found-in : (edge : ℕ) (later before : List Step) (step : Step) → AreFound edge (later ++ step ∷ before) → IsFound edge before step
  found-in edge [] before step h = h.0
  found-in edge (_ ∷ later) before step h = found-in edge later before step h.1

  module _ (none : NoneConflict Waits all) where
    -- THE SCHEDULE THAT SHOWS NO CONFLICT
    one-on : (world : World) (edge : ℕ) → OnTheWay world → Ready world edge → ((other : ℕ) → Grown ((after commands world edge).steps other) (all other)) → OnTheWay (after commands world edge)
    one-on world edge on ready grown = by (step_of world.disk (commands edge (world.steps edge))) refl grown
      where
        by : (step : Option Step) → step_of world.disk (commands edge (world.steps edge)) ≡ step → ((other : ℕ) → Grown ((after_step world edge step).steps other) (all other)) → OnTheWay (after_step world edge step)
        by None is grown = on
        by (Some step) is grown =
            one-more Waits through commands first all none world edge step on ready (acts-if Waits through commands first all world edge step is)
            (subst (λ steps. Grown steps (all edge)) (with-same world.steps edge step) (grown edge))

    one-found : (world : World) (edge : ℕ) → OnTheWay world → Ready world edge → ((other : ℕ) → AreFound other (world.steps other)) → (other : ℕ) → AreFound other ((after commands world edge).steps other)
    one-found world edge on ready found other = by (step_of world.disk (commands edge (world.steps edge))) refl
      where
        by : (step : Option Step) → step_of world.disk (commands edge (world.steps edge)) ≡ step → AreFound other ((after_step world edge step).steps other)
        by None is = found other
        by (Some step) is = elim (cases_eq other edge) [
          | inl same ↦
              subst (λ x. AreFound x (with_step world.steps edge step x)) (sym same)
              (subst (λ steps. AreFound edge steps) (sym (with-same world.steps edge step))
              (let here : IsFound edge (world.steps edge) step = record { world = world; on = on; at = refl; ready = ready; is = is } in (here, found edge)))
          | inr apart ↦ subst (λ steps. AreFound other steps) (sym (with-other world.steps edge step other apart)) (found other)
        ]

    record IsSeen (world : World) : Type 0 where
      on : OnTheWay world
      found : (other : ℕ) → AreFound other (world.steps other)

    seen : (edges : List ℕ) (world : World) → IsLegal Waits commands world edges → IsSeen world → ((other : ℕ) → Grown ((run commands world edges).steps other) (all other)) → IsSeen (run commands world edges)
    seen [] world legal before grown = before
    seen (edge ∷ edges) world legal before grown =
        seen edges (after commands world edge) legal.1
        (record {
          on = one-on world edge before.on legal.0 (λ other. grown-on (run-grown commands edges (after commands world edge) other) (grown other));
          found = one-found world edge before.on legal.0 before.found;
        })
        grown

    -- ANOTHER SCHEDULE
    module _ (found : (edge : ℕ) → AreFound edge (all edge)) (ended : (edge : ℕ) → is_end (commands edge (all edge)) ≡ true) where
      -- an edge that has ended did all
      whole : (world : World) (edge : ℕ) → OnTheWay world → HasEnded commands world edge → world.steps edge ≡ all edge
      whole world edge on here = elim (same-or-next (on.grown edge)) [
        | inl same ↦ same
        | inr (step, (later, e)) ↦
            let next = found-in edge later (world.steps edge) step (subst (λ steps. AreFound edge steps) e (found edge)) in
            absurd (no-step next.world.disk (commands edge (world.steps edge)) step here next.is)
      ]

      -- an edge's look shows here what it showed there
      alike : (world there : World) (edge : ℕ) (look : Look) → OnTheWay world → OnTheWay there → Ready world edge → Ready there edge
          → world.steps edge ≡ there.steps edge → commands edge (world.steps edge) ≡ Ask look
          → ((path : List ℕ) → is_asked path look ≡ true → uses path (all edge) ≡ true) → see world.disk look ≡ see there.disk look
      alike world there edge look on on_there ready ready_there same asks used =
          see-same world.disk there.disk look (λ path asked. same-held Waits through commands first all world there on on_there path (λ other leave. steps path asked other leave))
        where
          goes-on : HasEnded commands world edge → ⊥
          goes-on over = true≢false (sym over ∙ ap is_end asks)

          goes-on-there : HasEnded commands there edge → ⊥
          goes-on-there over = true≢false (sym over ∙ ap (λ steps. is_end (commands edge steps)) (sym same) ∙ ap is_end asks)

          steps : (path : List ℕ) → is_asked path look ≡ true → (other : ℕ) → leaves path (all other) ≡ true → world.steps other ≡ there.steps other
          steps path asked other leave = elim (cases_eq other edge) [
            | inl own ↦ subst (λ x. world.steps x ≡ there.steps x) (sym own) same
            | inr apart ↦ elim (none other edge path apart leave (used path asked)) [
              | inl waits ↦
                  none-begun (world.steps other) (λ begun. goes-on (on.waited other edge begun waits))
                  ∙ sym (none-begun (there.steps other) (λ begun. goes-on-there (on_there.waited other edge begun waits)))
              | inr waits ↦ whole world other on (ready other waits) ∙ sym (whole there other on_there (ready_there other waits))
            ]
          ]

      -- the next step of an edge is the one that it did there
      same-step : (world : World) (edge : ℕ) (step : Step) → OnTheWay world → Ready world edge → step_of world.disk (commands edge (world.steps edge)) ≡ Some step → Grown (step ∷ world.steps edge) (all edge)
      same-step world edge step on ready is = elim (same-or-next (on.grown edge)) [
        | inl same ↦ absurd (acts-if Waits through commands first all world edge step is (ap (λ steps. is_end (commands edge steps)) same ∙ ended edge))
        | inr (twin, (later, e)) ↦
            let next = found-in edge later (world.steps edge) twin (subst (λ steps. AreFound edge steps) e (found edge)) in
            let same : step ≡ twin = step-same world.disk next.world.disk (commands edge (world.steps edge)) step twin (looks twin later e next) is next.is in
            subst (λ s. Grown (s ∷ world.steps edge) (all edge)) (sym same) (later, e)
      ]
        where
          looks : (twin : Step) (later : List Step) → all edge ≡ later ++ twin ∷ world.steps edge → (next : IsFound edge (world.steps edge) twin) → (look : Look) → commands edge (world.steps edge) ≡ Ask look
              → see world.disk look ≡ see next.world.disk look
          looks twin later e next look asks =
              alike world next.world edge look on next.on ready next.ready (sym next.at) asks (λ path asked. any-grown (is_used path) (later, e) (used path asked))
            where
              is-look : Some (Saw look (see next.world.disk look)) ≡ Some twin
              is-look = sym (ap (step_of next.world.disk) asks) ∙ next.is

              used : (path : List ℕ) → is_asked path look ≡ true → uses path (twin ∷ world.steps edge) ≡ true
              used path asked =
                  let here : Saw look (see next.world.disk look) ≡ twin = cc in
                  ap (λ s. is_used path s || uses path (world.steps edge)) (sym here) ∙ ap (λ b. b || uses path (world.steps edge)) asked

      follow : (edges : List ℕ) (world : World) → IsLegal Waits commands world edges → OnTheWay world → OnTheWay (run commands world edges)
      follow [] world legal on = on
      follow (edge ∷ edges) world legal on = follow edges (after commands world edge) legal.1 (by (step_of world.disk (commands edge (world.steps edge))) refl)
        where
          by : (step : Option Step) → step_of world.disk (commands edge (world.steps edge)) ≡ step → OnTheWay (after_step world edge step)
          by None is = on
          by (Some step) is = one-more Waits through commands first all none world edge step on legal.0 (acts-if Waits through commands first all world edge step is) (same-step world edge step on legal.0 is)

pub one-outcome-of : (Waits : ℕ → ℕ → Type 0) → ((a b c : ℕ) → Waits a b → Waits b c → Waits a c) → OneOutcomeBy (IsLegal Waits) (NoneConflict Waits)
one-outcome-of Waits through commands disk schedule other legal complete none other_legal = record {
  as_here = there.grown;
  all_steps = λ edge over. whole Waits through commands disk all none s.found complete last edge there over;
  same_status = λ edge over. ap (commands edge) (whole Waits through commands disk all none s.found complete last edge there over);
  same_disk = λ over path. same-held Waits through commands disk all last end there s.on path (λ edge leave. whole Waits through commands disk all none s.found complete last edge there (over edge));
}
  where
    end : World
    end = run commands (opening disk) schedule

    all : ℕ → List Step
    all = end.steps

    last : World
    last = run commands (opening disk) other

    start : IsOnTheWay Waits through commands disk all (opening disk)
    start = none-yet Waits through commands disk all (λ edge. (all edge, sym (append-nil (all edge))))

    s : IsSeen Waits through commands disk all none end
    s = seen Waits through commands disk all none schedule (opening disk) legal (record { on = start; found = λ edge. tt }) (λ edge. grown-same (all edge))

    there : IsOnTheWay Waits through commands disk all last
    there = follow Waits through commands disk all none s.found complete other (opening disk) other_legal start

-- a way, and one behind it
pub longer : (builds : List BuildValue) (a b c : ℕ) → EdgeReaches builds a b → EdgeReaches builds b c → EdgeReaches builds a c
longer builds a b c (one_step step) way = then_on step way
longer builds a b c (then_on {middle = m} step front) way = then_on step (longer builds m b c front way)

pub one-outcome : OneOutcome
one-outcome builds = one-outcome-of (λ a b. EdgeReaches builds a b) (longer builds)
