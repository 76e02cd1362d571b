-- What commands that ask before they make a folder do is what commands do that ensure it.
use Rattle.std.proofs.Common.{◌≡◌, ℕ, Bool, true, false, List, [], ◌∷◌, Option, Some, inl, inr, refl, sym, ap, subst, ◌∙◌, if◌then◌else◌}
use Rattle.std.specs.Prelude.{◌⊎◌}
use Rattle.std.proofs.lemmas.Bool.{cases_eq}
use Rattle.rev_world.specs.Commands.{Act, Act.Ask, Act.Leave, Act.Ensure, Act.End, Command, Disk, Look.Entry, Place, Seen.Holds, Step, Step.Saw, Step.Left, Step.Ensured, Value, Value.Nothing, Value.File, Value.Folder, Value.Link, is_end, place_eq, see}
use Rattle.rev_world.specs.Schedules.{HasEnded, HasSameOutcome, IsComplete, IsLegal, NoneConflict, World, after, after_step, ensure_at, opening, run, step_of, with_change, with_step}
use Rattle.rev_world.specs.Laws.{By}
use Rattle.rev_world.specs.Making.{MakersMayAsk, as_made, asking_first, by_call, made, next_call}
use Rattle.rev_world.proofs.StepLemmas.{place-is, with-other, with-same}
use Rattle.rev_world.proofs.OutcomeLemmas.{one-outcome-of}

end-same : (act : Act) (pending : Bool) → is_end (next_call act pending) ≡ is_end act
end-same (Ask look) pending = refl
end-same (Leave place value) pending = refl
end-same (Ensure place) true = refl
end-same (Ensure place) false = refl
end-same (End status) pending = refl

-- to ensure a folder where one is changes nothing
still : (disk : Disk) (place : Place) → disk place ≡ Folder → with_change disk (Ensured place) ≡ disk
still disk place is = λ i other. each other i
  where
    by : (other : Place) (b : Bool) → place_eq place other ≡ b → (if b then Folder else disk other) ≡ disk other
    by other true e = sym is ∙ ap disk (place-is place other e)
    by other false e = refl

    each : (other : Place) → (if place_eq place other then Folder else disk other) ≡ disk other
    each other = by other (place_eq place other) refl

module _ (commands : ℕ → Command) where
  abbrev first : ℕ → Command
  first edge = asking_first (commands edge)

  abbrev told : World → World
  told world = as_made commands world

  ended-as : (world : World) (edge : ℕ) → HasEnded first world edge → HasEnded commands (told world) edge
  ended-as world edge h = sym (end-same (commands edge ((told world).steps edge)) (made (commands edge) (world.steps edge)).pending) ∙ h

  ended-back : (world : World) (edge : ℕ) → HasEnded commands (told world) edge → HasEnded first world edge
  ended-back world edge h = end-same (commands edge ((told world).steps edge)) (made (commands edge) (world.steps edge)).pending ∙ h

  -- ONE CALL
  module _ (world : World) (edge : ℕ) where
    abbrev mine : List Step
    mine = (made (commands edge) (world.steps edge)).steps

    abbrev waiting : Bool
    waiting = (made (commands edge) (world.steps edge)).pending

    -- the call is a step of the command
    is-step : (call step : Step) → (by_call (commands edge mine) mine waiting call).steps ≡ step ∷ mine → with_change world.disk step ≡ with_change world.disk call
        → after_step (told world) edge (Some step) ≡ told (after_step world edge (Some call))
    is-step call step calls disk = λ i. record { disk = disk i; steps = λ other. each other i }
      where
        each : (other : ℕ) → with_step (told world).steps edge step other ≡ (made (commands other) (with_step world.steps edge call other)).steps
        each other = elim (cases_eq other edge) [
          | inl same ↦
              subst (λ x. with_step (told world).steps edge step x ≡ (made (commands x) (with_step world.steps edge call x)).steps) (sym same)
              (with-same (told world).steps edge step ∙ sym calls ∙ ap (λ s. (made (commands edge) s).steps) (sym (with-same world.steps edge call)))
          | inr apart ↦ with-other (told world).steps edge step other apart ∙ ap (λ s. (made (commands other) s).steps) (sym (with-other world.steps edge call other apart))
        ]

    -- the call is none
    is-none : (call : Step) → (by_call (commands edge mine) mine waiting call).steps ≡ mine → with_change world.disk call ≡ world.disk → told world ≡ told (after_step world edge (Some call))
    is-none call calls disk = λ i. record { disk = sym disk i; steps = λ other. each other i }
      where
        each : (other : ℕ) → (told world).steps other ≡ (made (commands other) (with_step world.steps edge call other)).steps
        each other = elim (cases_eq other edge) [
          | inl same ↦
              subst (λ x. (told world).steps x ≡ (made (commands x) (with_step world.steps edge call x)).steps) (sym same)
              (sym calls ∙ ap (λ s. (made (commands edge) s).steps) (sym (with-same world.steps edge call)))
          | inr apart ↦ ap (λ s. (made (commands other) s).steps) (sym (with-other world.steps edge call other apart))
        ]

    abbrev IsOne : Option Step → Option Step → Type 0
    IsOne step call = (after_step (told world) edge step ≡ told (after_step world edge call)) ⊎ (told world ≡ told (after_step world edge call))

    one-call : IsOne (step_of world.disk (commands edge mine)) (step_of world.disk (next_call (commands edge mine) waiting))
    one-call = by (commands edge mine) refl waiting refl
      where
        at : (act : Act) → commands edge mine ≡ act → (pending : Bool) → waiting ≡ pending → (call : Step) → (by_call (commands edge mine) mine waiting call).steps ≡ (by_call act mine pending call).steps
        at act e pending f call = ap (λ a. (by_call a mine waiting call).steps) e ∙ ap (λ b. (by_call act mine b call).steps) f

        looked : (place : Place) → commands edge mine ≡ Ensure place → waiting ≡ false → (value : Value) → world.disk place ≡ value → IsOne (Some (ensure_at place value)) (Some (Saw (Entry place) (Holds value)))
        looked place e f Nothing is = inr (is-none (Saw (Entry place) (Holds Nothing)) (at (Ensure place) e false f (Saw (Entry place) (Holds Nothing))) refl)
        looked place e f (File content) is = inl (is-step (Saw (Entry place) (Holds (File content))) (Saw (Entry place) (Holds (File content))) (at (Ensure place) e false f (Saw (Entry place) (Holds (File content)))) refl)
        looked place e f Folder is = inl (is-step (Saw (Entry place) (Holds Folder)) (Ensured place) (at (Ensure place) e false f (Saw (Entry place) (Holds Folder))) (still world.disk place is))
        looked place e f (Link text) is = inl (is-step (Saw (Entry place) (Holds (Link text))) (Saw (Entry place) (Holds (Link text))) (at (Ensure place) e false f (Saw (Entry place) (Holds (Link text)))) refl)

        by : (act : Act) → commands edge mine ≡ act → (pending : Bool) → waiting ≡ pending → IsOne (step_of world.disk act) (step_of world.disk (next_call act pending))
        by (Ask look) e pending f = inl (is-step (Saw look (see world.disk look)) (Saw look (see world.disk look)) (at (Ask look) e pending f (Saw look (see world.disk look))) refl)
        by (Leave place value) e pending f = inl (is-step (Left place value) (Left place value) (at (Leave place value) e pending f (Left place value)) refl)
        by (Ensure place) e false f = looked place e f (world.disk place) refl
        by (Ensure place) e true f = inl (is-step (ensure_at place (world.disk place)) (ensure_at place (world.disk place)) (at (Ensure place) e true f (ensure_at place (world.disk place))) refl)
        by (End status) e pending f = inl refl

  -- A SCHEDULE
  record IsAs (Waits : ℕ → ℕ → Type 0) (world : World) (edges : List ℕ) : Type 0 where
    schedule : List ℕ
    same : run commands (told world) schedule ≡ told (run first world edges)
    legal : IsLegal Waits commands (told world) schedule

  as-first : (Waits : ℕ → ℕ → Type 0) (edges : List ℕ) (world : World) → IsLegal Waits first world edges → IsAs Waits world edges
  as-first Waits [] world legal = record { schedule = []; same = refl; legal = tt }
  as-first Waits (edge ∷ edges) world legal =
      let rest = as-first Waits edges (after first world edge) legal.1 in
      elim (one-call world edge) [
        | inl step ↦ record {
          schedule = edge ∷ rest.schedule;
          same = ap (λ w. run commands w rest.schedule) step ∙ rest.same;
          legal = (λ other way. ended-as world other (legal.0 other way), subst (λ w. IsLegal Waits commands w rest.schedule) (sym step) rest.legal);
        }
        | inr none ↦ record {
          schedule = rest.schedule;
          same = ap (λ w. run commands w rest.schedule) none ∙ rest.same;
          legal = subst (λ w. IsLegal Waits commands w rest.schedule) (sym none) rest.legal;
        }
      ]

pub makers-may-ask : MakersMayAsk
makers-may-ask waits through commands disk schedule other legal complete none other_legal =
    let one = as-first commands (λ a b. By waits a b) schedule (opening disk) legal in
    let two = as-first commands (λ a b. By waits a b) other (opening disk) other_legal in
    subst (λ w. HasSameOutcome commands w (as_made commands (run (λ edge. asking_first (commands edge)) (opening disk) other))) one.same
    (subst (λ w. HasSameOutcome commands (run commands (opening disk) one.schedule) w) two.same
    (one-outcome-of (λ a b. By waits a b) through commands disk one.schedule two.schedule one.legal
    (subst (λ w. IsComplete commands w) (sym one.same) (λ edge. ended-as commands (run (λ edge. asking_first (commands edge)) (opening disk) schedule) edge (complete edge)))
    (subst (λ w. NoneConflict (λ a b. By waits a b) w.steps) (sym one.same) none) two.legal))
