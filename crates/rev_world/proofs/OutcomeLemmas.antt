-- One schedule, followed by another one.
use Rattle.std.proofs.Common.{◌≡◌, ℕ, true, false, List, [], ◌∷◌, ◌++◌, Option, Some, None, inl, inr, refl, sym, ap, subst, ◌∙◌, true≢false, append-nil}
use Rattle.std.specs.Prelude.{◌≢◌, ◌⊎◌, ◌||◌}
use Rattle.std.proofs.lemmas.Bool.{cases_Bool, cases_eq, false_from_ne_true}
use Rattle.rev_world.specs.Commands.{Act, Act.Ask, Act.Leave, Act.Ensure, Act.End, Command, Disk, Look, Look.Entry, Place, Seen, Seen.Holds, Step, Step.Saw, Step.Ensured, Value.Nothing, see, pass, is_asked, is_passed, is_blocked, is_end, is_ensured, is_left}
use Rattle.rev_world.specs.Schedules.{HasEnded, IsDetermined, IsLegal, NoneConflict, NoneConflictAt, World, after, after_step, asks, ensures_at, leaves, opening, run, step_of, uses, with_step}
use Rattle.rev_world.specs.Pools.{IsLegalInPools, IsReady, IsTemporary, NoneConflictInPools, OneOutcomeInPools, last_change}
use Rattle.rev_world.specs.Laws.{By, OneOutcome, OneOutcomeBy, OneOutcomeFrom}
use Rattle.rev_world.proofs.StepLemmas.{Grown, any-grown, asks-first, asks-grown, ensure-blocked, ensure-free, grown-on, grown-one, grown-same, no-step, none-begun, place-same, same-or-next, see-same, uses-asked, uses-ensured, uses-grown-pass, with-other, with-same}
use Rattle.rev_world.proofs.WorldLemmas.{IsAligned, IsInUse, IsInUse.at_rest, IsInUse.in_use, IsOnTheWay, acts-if, aligned, none-stays, none-yet, one-more, own-change, same-blocked, same-held, same-over, same-pass}

-- A PROPERTY OF EACH EDGE'S STEPS, THROUGH ONE STEP
-- the steps of an edge grow
after-grown : (world : World) (edge : ℕ) (step : Option Step) (other : ℕ) → Grown (world.steps other) ((after_step world edge step).steps other)
after-grown world edge None other = grown-same (world.steps other)
after-grown world edge (Some step) other = elim (cases_eq other edge) [
  | inl same ↦ subst (λ x. Grown (world.steps x) (with_step world.steps edge step x)) (sym same) (subst (λ steps. Grown (world.steps edge) steps) (sym (with-same world.steps edge step)) (grown-one step (world.steps edge)))
  | inr apart ↦ subst (λ steps. Grown (world.steps other) steps) (sym (with-other world.steps edge step other apart)) (grown-same (world.steps other))
]

run-grown : (commands : ℕ → Command) (edges : List ℕ) (world : World) (other : ℕ) → Grown (world.steps other) ((run commands world edges).steps other)
run-grown commands [] world other = grown-same (world.steps other)
run-grown commands (edge ∷ edges) world other =
    grown-on (after-grown world edge (step_of world.disk (commands edge (world.steps edge))) other) (run-grown commands edges (after commands world edge) other)

module _ (Waits Excludes : ℕ → ℕ → Type 0) (through : (a b c : ℕ) → Waits a b → Waits b c → Waits a c) (commands : ℕ → Command) (first : Disk) (all : ℕ → List Step) where
  abbrev OnTheWay : World → Type 0
  OnTheWay world = IsOnTheWay Waits Excludes through commands first all world

  abbrev Ready : World → ℕ → Type 0
  Ready world edge = IsReady Waits Excludes commands world edge

  -- where one of all steps was done in the schedule that shows no conflict
  record IsFound (edge : ℕ) (before : List Step) (step : Step) : Type 0 where
    world : World
    on : OnTheWay world
    at : world.steps edge ≡ before
    ready : Ready world edge
    is : step_of world.disk (commands edge before) ≡ Some step

  abbrev AreFound : ℕ → List Step → Type 0
  AreFound edge [] = Unit {0}
  AreFound edge (step ∷ steps) = IsFound edge steps step × AreFound edge steps

  found-in : (edge : ℕ) (later before : List Step) (step : Step) → AreFound edge (later ++ step ∷ before) → IsFound edge before step
  found-in edge [] before step h = h.0
  found-in edge (_ ∷ later) before step h = found-in edge later before step h.1

  module _ (none : NoneConflictInPools Waits Excludes first all) where
    -- THE SCHEDULE THAT SHOWS NO CONFLICT
    one-on : (world : World) (edge : ℕ) → OnTheWay world → Ready world edge → ((other : ℕ) → Grown ((after commands world edge).steps other) (all other)) → OnTheWay (after commands world edge)
    one-on world edge on ready grown = by (step_of world.disk (commands edge (world.steps edge))) refl grown
      where
        by : (step : Option Step) → step_of world.disk (commands edge (world.steps edge)) ≡ step → ((other : ℕ) → Grown ((after_step world edge step).steps other) (all other)) → OnTheWay (after_step world edge step)
        by None is grown = on
        by (Some step) is grown =
            one-more Waits Excludes through commands first all world edge step on ready is
            (subst (λ steps. Grown steps (all edge)) (with-same world.steps edge step) (grown edge))

    one-found : (world : World) (edge : ℕ) → OnTheWay world → Ready world edge → ((other : ℕ) → AreFound other (world.steps other)) → (other : ℕ) → AreFound other ((after commands world edge).steps other)
    one-found world edge on ready found other = by (step_of world.disk (commands edge (world.steps edge))) refl
      where
        by : (step : Option Step) → step_of world.disk (commands edge (world.steps edge)) ≡ step → AreFound other ((after_step world edge step).steps other)
        by None is = found other
        by (Some step) is = elim (cases_eq other edge) [
          | inl same ↦
              subst (λ x. AreFound x (with_step world.steps edge step x)) (sym same)
              (subst (λ steps. AreFound edge steps) (sym (with-same world.steps edge step))
              (let here : IsFound edge (world.steps edge) step = record { world = world; on = on; at = refl; ready = ready; is = is } in (here, found edge)))
          | inr apart ↦ subst (λ steps. AreFound other steps) (sym (with-other world.steps edge step other apart)) (found other)
        ]

    record IsSeen (world : World) : Type 0 where
      on : OnTheWay world
      found : (other : ℕ) → AreFound other (world.steps other)

    seen : (edges : List ℕ) (world : World) → IsLegalInPools Waits Excludes commands world edges → IsSeen world → ((other : ℕ) → Grown ((run commands world edges).steps other) (all other)) → IsSeen (run commands world edges)
    seen [] world legal before grown = before
    seen (edge ∷ edges) world legal before grown =
        seen edges (after commands world edge) legal.1
        (record {
          on = one-on world edge before.on legal.0 (λ other. grown-on (run-grown commands edges (after commands world edge) other) (grown other));
          found = one-found world edge before.on legal.0 before.found;
        })
        grown

    -- ANOTHER SCHEDULE
    module _ (found : (edge : ℕ) → AreFound edge (all edge)) (ended : (edge : ℕ) → is_end (commands edge (all edge)) ≡ true) where
      -- an edge that has ended did all
      whole : (world : World) (edge : ℕ) → OnTheWay world → HasEnded commands world edge → world.steps edge ≡ all edge
      whole world edge on here = elim (same-or-next (on.grown edge)) [
        | inl same ↦ same
        | inr (step, (later, e)) ↦
            let next = found-in edge later (world.steps edge) step (subst (λ steps. AreFound edge steps) e (found edge)) in
            absurd (no-step next.world.disk (commands edge (world.steps edge)) step here next.is)
      ]

      -- where an edge that leaves something at a temporary is next, and has left nothing there yet, nothing is there
      not-in-use : (world : World) {edge : ℕ} → OnTheWay world → Ready world edge → (place : Place) → IsTemporary Excludes first all place → leaves place (all edge) ≡ true → leaves place (world.steps edge) ≡ false
          → world.disk place ≡ Nothing
      not-in-use world {edge} on ready place temporary leave not_left = by (on.in_turn place temporary)
        where
          by : IsInUse commands world place → world.disk place ≡ Nothing
          by (at_rest none is) = is
          by (in_use user value left last is others) = elim (cases_eq user edge) [
            | inl same ↦ absurd (true≢false (sym left ∙ ap (λ x. leaves place (world.steps x)) same ∙ not_left))
            | inr apart ↦
                let left_all : leaves place (all user) ≡ true = any-grown (is_left place) (on.grown user) left in
                elim (ready.alone user apart (temporary.pooled edge user (λ e. apart (sym e)) leave left_all)) [
                  | inl none_yet ↦ absurd (true≢false (sym left ∙ ap (leaves place) none_yet))
                  | inr over ↦
                      let both : Some value ≡ Some Nothing = sym last ∙ ap (last_change place) (whole world user on over) ∙ temporary.gone user left_all in
                      let same : value ≡ Nothing = cc in
                      is ∙ same
                ]
          ]

      -- two worlds in which the edge did the same, has not ended, and may go on
      module _ (world there : World) (edge : ℕ) (on : OnTheWay world) (on_there : OnTheWay there) (ready : Ready world edge) (ready_there : Ready there edge)
          (same : world.steps edge ≡ there.steps edge) (goes-on : HasEnded commands world edge → ⊥) where
        goes-on-there : HasEnded commands there edge → ⊥
        goes-on-there over = goes-on (ap (λ steps. is_end (commands edge steps)) same ∙ over)

        -- who is ordered with it did the same in both
        ordered-same : (other : ℕ) → Waits other edge ⊎ Waits edge other → world.steps other ≡ there.steps other
        ordered-same other (inl waits) =
            none-begun (world.steps other) (λ begun. goes-on (on.waited other edge begun waits))
            ∙ sym (none-begun (there.steps other) (λ begun. goes-on-there (on_there.waited other edge begun waits)))
        ordered-same other (inr waits) = whole world other on (ready.waited other waits) ∙ sym (whole there other on_there (ready_there.waited other waits))

        same-unless : (other : ℕ) → (other ≢ edge → Waits other edge ⊎ Waits edge other) → world.steps other ≡ there.steps other
        same-unless other ordered = elim (cases_eq other edge) [
          | inl own ↦ subst (λ x. world.steps x ≡ there.steps x) (sym own) same
          | inr apart ↦ ordered-same other (ordered apart)
        ]

        turned : {a b : ℕ} → Waits a b ⊎ Waits b a → Waits b a ⊎ Waits a b
        turned (inl waits) = inr waits
        turned (inr waits) = inl waits

        abbrev Aligned : Place → Type 0
        Aligned place = IsAligned Waits Excludes through commands first all world there on on_there place

        -- who leaves a place that the edge uses did the same in both
        align : (place : Place) → NoneConflictAt Waits all place → uses place (all edge) ≡ true → Aligned place
        align place calm used = aligned Waits Excludes through commands first all world there on on_there place calm (λ other leave. same-unless other (λ apart. calm.at_left other edge apart leave used))

        -- who left a place that it uses, and does not leave itself, is behind it
        behind : (place : Place) → NoneConflictAt Waits all place → uses place (all edge) ≡ true → leaves place (all edge) ≡ false → (leaver : ℕ) → leaves place (world.steps leaver) ≡ true → Waits edge leaver
        behind place calm used no_leave leaver leave =
            let leave_all : leaves place (all leaver) ≡ true = any-grown (is_left place) (on.grown leaver) leave in
            let apart : leaver ≢ edge = (λ e. true≢false (sym leave_all ∙ ap (λ x. leaves place (all x)) e ∙ no_leave)) in
            elim (calm.at_left leaver edge apart leave_all used) [
              | inl waits ↦ absurd (goes-on (on.waited leaver edge (λ e. true≢false (sym leave ∙ ap (leaves place) e)) waits))
              | inr waits ↦ waits
            ]

        -- Where it leaves a place itself, it is ordered with all that ensure it: what stands there is the same in both.
        same-left : (place : Place) → NoneConflictAt Waits all place → uses place (all edge) ≡ true → leaves place (all edge) ≡ true → world.disk place ≡ there.disk place
        same-left place calm used leave =
            same-held Waits Excludes through commands first all world there on on_there place (align place calm used)
            (λ other other_made. same-unless other (λ apart. turned (calm.at_left edge other (λ e. apart (sym e)) leave (uses-ensured place (all other) other_made))))

        -- where it is determined that it finds a folder, it does in both
        same-determined : (place : Place) → NoneConflictAt Waits all place → uses place (all edge) ≡ true → leaves place (all edge) ≡ false → IsDetermined Waits all place edge → world.disk place ≡ there.disk place
        same-determined place calm used no_leave d =
            same-over Waits Excludes through commands first all world there on on_there place a d.maker
            (a.above d.maker (λ leaver leave. d.later leaver (any-grown (is_left place) (on.grown leaver) leave) (behind place calm used no_leave leaver leave)))
            (ap (ensures_at place) (whole world d.maker on (ready.waited d.maker d.before)) ∙ d.ensured)
            (ap (ensures_at place) (whole there d.maker on_there (ready_there.waited d.maker d.before)) ∙ d.ensured)
          where
            a : Aligned place
            a = align place calm used

        -- what it asks for is the same in both
        same-asked : (place : Place) → NoneConflictAt Waits all place → asks place (all edge) ≡ true → world.disk place ≡ there.disk place
        same-asked place calm asked = elim (cases_Bool (leaves place (all edge))) [
          | inl leave ↦ same-left place calm (uses-asked place (all edge) asked) leave
          | inr no_leave ↦ elim (calm.at_asked edge asked) [
            | inl d ↦ same-determined place calm (uses-asked place (all edge) asked) no_leave d
            | inr ordered ↦
                same-held Waits Excludes through commands first all world there on on_there place (align place calm (uses-asked place (all edge) asked))
                (λ other made. same-unless other (λ apart. ordered other apart made))
          ]
        ]

        -- so is what it ensured before
        same-ensured : (place : Place) → NoneConflictAt Waits all place → ensures_at place (world.steps edge) ≡ true → world.disk place ≡ there.disk place
        same-ensured place calm made = elim (cases_Bool (leaves place (all edge))) [
          | inl leave ↦ same-left place calm used leave
          | inr no_leave ↦
              same-over Waits Excludes through commands first all world there on on_there place a edge (a.above edge (behind place calm used no_leave)) made (ap (ensures_at place) (sym same) ∙ made)
        ]
          where
            used : uses place (all edge) ≡ true
            used = uses-ensured place (all edge) (any-grown (is_ensured place) (on.grown edge) made)

            a : Aligned place
            a = align place calm used

        -- so is what stands at a temporary
        same-temporary : (place : Place) → IsTemporary Excludes first all place → leaves place (all edge) ≡ true → world.disk place ≡ there.disk place
        same-temporary place temporary leave = elim (cases_Bool (leaves place (world.steps edge))) [
          | inl left ↦
              let mine : last_change place (world.steps edge) ≡ Some (world.disk place) = own-change Waits Excludes through commands first all world on place temporary edge left goes-on in
              let theirs : last_change place (there.steps edge) ≡ Some (there.disk place) = own-change Waits Excludes through commands first all there on_there place temporary edge (ap (leaves place) (sym same) ∙ left) goes-on-there in
              let both : Some (world.disk place) ≡ Some (there.disk place) = sym mine ∙ ap (last_change place) same ∙ theirs in
              cc
          | inr not_left ↦
              not-in-use world on ready place temporary leave not_left
              ∙ sym (not-in-use there on_there ready_there place temporary leave (ap (leaves place) (sym same) ∙ not_left))
        ]

        used-look : (look : Look) (shown : Seen) → Grown (Saw look shown ∷ world.steps edge) (all edge) → (place : Place) → IsTemporary Excludes first all place → is_asked place look ≡ true → leaves place (all edge) ≡ true
        used-look look shown grown place temporary asked =
            temporary.inside edge (uses-asked place (all edge) (asks-grown place grown (asks-first place look shown (world.steps edge) asked
            (false_from_ne_true (ensures_at place (world.steps edge)) (λ h. true≢false (sym (any-grown (is_ensured place) (on.grown edge) h) ∙ temporary.none_ensure edge))))))

        -- a look that it does shows the same in both
        same-look : (look : Look) (shown : Seen) → Grown (Saw look shown ∷ world.steps edge) (all edge) → (place : Place) → is_asked place look ≡ true → world.disk place ≡ there.disk place
        same-look look shown grown place asked = elim (none place) [
          | inr temporary ↦ same-temporary place temporary (used-look look shown grown place temporary asked)
          | inl calm ↦ elim (cases_Bool (ensures_at place (world.steps edge))) [
            | inl made ↦ same-ensured place calm made
            | inr not_made ↦ same-asked place calm (asks-grown place grown (asks-first place look shown (world.steps edge) asked not_made))
          ]
        ]

        same-way : (look : Look) (shown : Seen) → Grown (Saw look shown ∷ world.steps edge) (all edge) → (place : Place) → is_passed place look ≡ true → pass (world.disk place) ≡ pass (there.disk place)
        same-way look shown grown place passed = elim (none place) [
          | inr temporary ↦ ap pass (same-temporary place temporary (temporary.inside edge (uses-grown-pass place look shown (world.steps edge) passed grown)))
          | inl calm ↦ same-pass Waits Excludes through commands first all world there on on_there place (align place calm (uses-grown-pass place look shown (world.steps edge) passed grown))
        ]

        -- the same act is the same step
        same-by : (act : Act) (step twin : Step) → Grown (twin ∷ world.steps edge) (all edge) → step_of world.disk act ≡ Some step → step_of there.disk act ≡ Some twin → step ≡ twin
        same-by (Ask look) step twin grown e f =
            let here : twin ≡ Saw look (see there.disk look) = cc in
            let grows : Grown (Saw look (see there.disk look) ∷ world.steps edge) (all edge) = subst (λ s. Grown (s ∷ world.steps edge) (all edge)) here grown in
            let shows : see world.disk look ≡ see there.disk look = see-same world.disk there.disk look (same-look look (see there.disk look) grows) (same-way look (see there.disk look) grows) in
            let both : Saw look (see world.disk look) ≡ Saw look (see there.disk look) = ap (Saw look) shows in
            cc
        same-by (Leave place value) step twin grown e f =
            let all : Some step ≡ Some twin = sym e ∙ f in
            cc
        same-by (Ensure place) step twin grown e f = elim (cases_Bool (is_blocked (there.disk place))) [
          | inl blocked ↦
              let by = ensure-blocked place (there.disk place) blocked in
              let here : twin ≡ Saw (Entry place) (Holds (there.disk place)) = cc in
              let held : world.disk place ≡ there.disk place = same-look (Entry place) (Holds (there.disk place)) (subst (λ s. Grown (s ∷ world.steps edge) (all edge)) here grown) place (place-same place) in
              let mine = ensure-blocked place (world.disk place) (ap is_blocked held ∙ blocked) in
              cc
          | inr free ↦
              let by = ensure-free place (there.disk place) free in
              let here : twin ≡ Ensured place = cc in
              let made : ensures_at place (twin ∷ world.steps edge) ≡ true = ap (λ s. is_ensured place s || ensures_at place (world.steps edge)) here ∙ ap (λ b. b || ensures_at place (world.steps edge)) (place-same place) in
              let made_all : ensures_at place (all edge) ≡ true = any-grown (is_ensured place) grown made in
              let as_there : is_blocked (world.disk place) ≡ is_blocked (there.disk place) = (elim (none place) [
                | inl calm ↦ same-blocked Waits Excludes through commands first all world there on on_there place (align place calm (uses-ensured place (all edge) made_all))
                | inr temporary ↦ absurd (true≢false (sym made_all ∙ temporary.none_ensure edge))
              ]) in
              let mine = ensure-free place (world.disk place) (as_there ∙ free) in
              cc
        ]
        same-by (End status) step twin grown e f = cc

      -- the next step of an edge is the one that it did there
      same-step : (world : World) (edge : ℕ) (step : Step) → OnTheWay world → Ready world edge → step_of world.disk (commands edge (world.steps edge)) ≡ Some step → Grown (step ∷ world.steps edge) (all edge)
      same-step world edge step on ready is = elim (same-or-next (on.grown edge)) [
        | inl same ↦ absurd (acts-if Waits Excludes through commands first all world edge step is (ap (λ steps. is_end (commands edge steps)) same ∙ ended edge))
        | inr (twin, (later, e)) ↦
            let next = found-in edge later (world.steps edge) twin (subst (λ steps. AreFound edge steps) e (found edge)) in
            let same : step ≡ twin = same-by world next.world edge on next.on ready next.ready (sym next.at) (acts-if Waits Excludes through commands first all world edge step is) (commands edge (world.steps edge)) step twin (later, e) is next.is in
            subst (λ s. Grown (s ∷ world.steps edge) (all edge)) (sym same) (later, e)
      ]

      follow : (edges : List ℕ) (world : World) → IsLegalInPools Waits Excludes commands world edges → OnTheWay world → OnTheWay (run commands world edges)
      follow [] world legal on = on
      follow (edge ∷ edges) world legal on = follow edges (after commands world edge) legal.1 (by (step_of world.disk (commands edge (world.steps edge))) refl)
        where
          by : (step : Option Step) → step_of world.disk (commands edge (world.steps edge)) ≡ step → OnTheWay (after_step world edge step)
          by None is = on
          by (Some step) is = one-more Waits Excludes through commands first all world edge step on legal.0 is (same-step world edge step on legal.0 is)

pub one-outcome-in-pools-of : (Waits Excludes : ℕ → ℕ → Type 0) → ((a b c : ℕ) → Waits a b → Waits b c → Waits a c) → OneOutcomeFrom (IsLegalInPools Waits Excludes) (NoneConflictInPools Waits Excludes)
one-outcome-in-pools-of Waits Excludes through commands disk schedule other legal complete none other_legal = record {
  as_here = there.grown;
  all_steps = λ edge over. whole Waits Excludes through commands disk all none s.found complete last edge there over;
  same_status = λ edge over. ap (commands edge) (whole Waits Excludes through commands disk all none s.found complete last edge there over);
  same_disk = λ over place. same-disk (λ edge. whole Waits Excludes through commands disk all none s.found complete last edge there (over edge)) place (none place);
}
  where
    end : World
    end = run commands (opening disk) schedule

    all : ℕ → List Step
    all = end.steps

    last : World
    last = run commands (opening disk) other

    start : IsOnTheWay Waits Excludes through commands disk all (opening disk)
    start = none-yet Waits Excludes through commands disk all (λ edge. (all edge, sym (append-nil (all edge))))

    s : IsSeen Waits Excludes through commands disk all none end
    s = seen Waits Excludes through commands disk all none schedule (opening disk) legal (record { on = start; found = λ edge. tt }) (λ edge. grown-same (all edge))

    there : IsOnTheWay Waits Excludes through commands disk all last
    there = follow Waits Excludes through commands disk all none s.found complete other (opening disk) other_legal start

    same-disk : ((edge : ℕ) → last.steps edge ≡ end.steps edge) → (place : Place) → NoneConflictAt Waits all place ⊎ IsTemporary Excludes disk all place → last.disk place ≡ end.disk place
    same-disk same place (inl calm) =
        same-held Waits Excludes through commands disk all last end there s.on place
        (aligned Waits Excludes through commands disk all last end there s.on place calm (λ edge leave. same edge)) (λ edge made. same edge)
    same-disk same place (inr temporary) =
        none-stays Waits Excludes through commands disk all last there place temporary same
        ∙ sym (none-stays Waits Excludes through commands disk all end s.on place temporary (λ edge. refl))

pub one-outcome-in-pools : OneOutcomeInPools
one-outcome-in-pools waits excludes through = one-outcome-in-pools-of (λ a b. By waits a b) (λ a b. By excludes a b) through

-- WITHOUT POOLS
-- Where no edge excludes another one, what is legal without pools is legal with them.
abbrev None-excludes : ℕ → ℕ → Type 0
None-excludes a b = ⊥

legal-in-pools : (Waits : ℕ → ℕ → Type 0) (commands : ℕ → Command) (edges : List ℕ) (world : World) → IsLegal Waits commands world edges → IsLegalInPools Waits None-excludes commands world edges
legal-in-pools Waits commands [] world legal = tt
legal-in-pools Waits commands (edge ∷ edges) world legal =
    (record { waited = legal.0; alone = λ other apart excluded. absurd excluded }, legal-in-pools Waits commands edges (after commands world edge) legal.1)

pub one-outcome-of : (Waits : ℕ → ℕ → Type 0) → ((a b c : ℕ) → Waits a b → Waits b c → Waits a c) → OneOutcomeBy (IsLegal Waits) (NoneConflict Waits)
one-outcome-of Waits through commands disk schedule other legal complete none other_legal =
    one-outcome-in-pools-of Waits None-excludes through commands disk schedule other
    (legal-in-pools Waits commands schedule (opening disk) legal) complete (λ place. inl (none place))
    (legal-in-pools Waits commands other (opening disk) other_legal)

pub one-outcome : OneOutcome
one-outcome waits through = one-outcome-of (λ a b. By waits a b) through
