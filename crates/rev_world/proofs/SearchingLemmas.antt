-- What commands that ask for a folder before its entries do is what commands do that ask for the entries.
use Rattle.std.proofs.Common.{◌≡◌, ℕ, Bool, true, false, List, [], ◌∷◌, Option, Some, inl, inr, refl, sym, ap, subst, ◌∙◌, true≢false, if◌then◌else◌}
use Rattle.std.specs.Prelude.{◌≢◌, ◌⊎◌}
use Rattle.std.proofs.lemmas.Bool.{cases_eq}
use Rattle.rev_world.specs.Commands.{Act, Act.Ask, Act.Leave, Act.Ensure, Act.End, Command, Disk, Look.Entry, Look.Way, Look.Names, Place, Seen.Holds, Seen.Shows, Step, Step.Saw, Step.Left, Value, Value.Nothing, Value.File, Value.Folder, Value.Link, is_end, is_entry_of, see, shape}
use Rattle.rev_world.specs.Schedules.{HasEnded, HasSameOutcome, IsComplete, IsLegal, NoneConflict, World, after, after_step, ensure_at, opening, run, step_of, with_change, with_step}
use Rattle.rev_world.specs.Laws.{By}
use Rattle.rev_world.specs.Searching.{AreSearched, IsSound, NothingBelow, SearchersMayAsk, as_found, by_call, found, next_call, searching}
use Rattle.rev_world.proofs.StepLemmas.{place-is, with-other, with-same}
use Rattle.rev_world.proofs.OutcomeLemmas.{one-outcome-of}

end-same : (search : Place) (act : Act) (pending : Bool) → is_end (next_call search act pending) ≡ is_end act
end-same search (Ask (Entry place)) pending = refl
end-same search (Ask (Way place)) pending = refl
end-same search (Ask (Names test)) true = refl
end-same search (Ask (Names test)) false = refl
end-same search (Leave place value) pending = refl
end-same search (Ensure place) pending = refl
end-same search (End status) pending = refl

-- of a folder that is not there no entry is
none-below : (disk : Disk) (search : Place) (test : Place → Bool) → NothingBelow disk → ((place : Place) → test place ≡ true → is_entry_of search place ≡ true) → disk search ≢ Folder
    → see disk (Names test) ≡ Shows (λ place. Nothing)
none-below disk search test sound within missing = ap Shows (λ i place. by place (test place) refl i)
  where
    at : (place : Place) → is_entry_of search place ≡ true → disk place ≡ Nothing
    at [] h = absurd (true≢false (sym h))
    at (name ∷ there) h = sound there name (λ is. missing (ap disk (place-is search there h) ∙ is))

    by : (place : Place) (b : Bool) → test place ≡ b → (if b then shape (disk place) else Nothing) ≡ Nothing
    by place true e = ap shape (at place (within place e))
    by place false e = refl

module _ (search : ℕ → Place) (commands : ℕ → Command) (searched : AreSearched search commands) where
  abbrev first : ℕ → Command
  first edge = searching search commands edge

  abbrev told : World → World
  told world = as_found commands world

  ended-as : (world : World) (edge : ℕ) → HasEnded first world edge → HasEnded commands (told world) edge
  ended-as world edge h = sym (end-same (search edge) (commands edge ((told world).steps edge)) (found (commands edge) (world.steps edge)).pending) ∙ h

  ended-back : (world : World) (edge : ℕ) → HasEnded commands (told world) edge → HasEnded first world edge
  ended-back world edge h = end-same (search edge) (commands edge ((told world).steps edge)) (found (commands edge) (world.steps edge)).pending ∙ h

  -- ONE CALL
  module _ (world : World) (edge : ℕ) (sound : NothingBelow world.disk) where
    abbrev mine : List Step
    mine = (found (commands edge) (world.steps edge)).steps

    abbrev waiting : Bool
    waiting = (found (commands edge) (world.steps edge)).pending

    -- the call is a step of the command
    is-step : (call step : Step) → (by_call (commands edge mine) mine waiting call).steps ≡ step ∷ mine → with_change world.disk step ≡ with_change world.disk call
        → after_step (told world) edge (Some step) ≡ told (after_step world edge (Some call))
    is-step call step calls disk = λ i. record { disk = disk i; steps = λ other. each other i }
      where
        each : (other : ℕ) → with_step (told world).steps edge step other ≡ (found (commands other) (with_step world.steps edge call other)).steps
        each other = elim (cases_eq other edge) [
          | inl same ↦
              subst (λ x. with_step (told world).steps edge step x ≡ (found (commands x) (with_step world.steps edge call x)).steps) (sym same)
              (with-same (told world).steps edge step ∙ sym calls ∙ ap (λ s. (found (commands edge) s).steps) (sym (with-same world.steps edge call)))
          | inr apart ↦ with-other (told world).steps edge step other apart ∙ ap (λ s. (found (commands other) s).steps) (sym (with-other world.steps edge call other apart))
        ]

    -- the call is none
    is-none : (call : Step) → (by_call (commands edge mine) mine waiting call).steps ≡ mine → with_change world.disk call ≡ world.disk → told world ≡ told (after_step world edge (Some call))
    is-none call calls disk = λ i. record { disk = sym disk i; steps = λ other. each other i }
      where
        each : (other : ℕ) → (told world).steps other ≡ (found (commands other) (with_step world.steps edge call other)).steps
        each other = elim (cases_eq other edge) [
          | inl same ↦
              subst (λ x. (told world).steps x ≡ (found (commands x) (with_step world.steps edge call x)).steps) (sym same)
              (sym calls ∙ ap (λ s. (found (commands edge) s).steps) (sym (with-same world.steps edge call)))
          | inr apart ↦ ap (λ s. (found (commands other) s).steps) (sym (with-other world.steps edge call other apart))
        ]

    abbrev IsOne : Option Step → Option Step → Type 0
    IsOne step call = (after_step (told world) edge step ≡ told (after_step world edge call)) ⊎ (told world ≡ told (after_step world edge call))

    one-call : IsOne (step_of world.disk (commands edge mine)) (step_of world.disk (next_call (search edge) (commands edge mine) waiting))
    one-call = by (commands edge mine) refl waiting refl
      where
        at : (act : Act) → commands edge mine ≡ act → (pending : Bool) → waiting ≡ pending → (call : Step) → (by_call (commands edge mine) mine waiting call).steps ≡ (by_call act mine pending call).steps
        at act e pending f call = ap (λ a. (by_call a mine waiting call).steps) e ∙ ap (λ b. (by_call act mine b call).steps) f

        missing : (test : Place → Bool) → commands edge mine ≡ Ask (Names test) → waiting ≡ false → (value : Value) → world.disk (search edge) ≢ Folder
            → ((steps : List Step) → (by_call (Ask (Names test)) steps false (Saw (Entry (search edge)) (Holds value))).steps ≡ Saw (Names test) (Shows (λ place. Nothing)) ∷ steps)
            → IsOne (Some (Saw (Names test) (see world.disk (Names test)))) (Some (Saw (Entry (search edge)) (Holds value)))
        missing test e f value no_folder is =
            inl (is-step (Saw (Entry (search edge)) (Holds value)) (Saw (Names test) (see world.disk (Names test)))
            (at (Ask (Names test)) e false f (Saw (Entry (search edge)) (Holds value)) ∙ is mine
            ∙ ap (λ s. Saw (Names test) s ∷ mine) (sym (none-below world.disk (search edge) test sound (searched edge mine test e) no_folder))) refl)

        looked : (test : Place → Bool) → commands edge mine ≡ Ask (Names test) → waiting ≡ false → (value : Value) → world.disk (search edge) ≡ value
            → IsOne (Some (Saw (Names test) (see world.disk (Names test)))) (Some (Saw (Entry (search edge)) (Holds value)))
        looked test e f Folder is = inr (is-none (Saw (Entry (search edge)) (Holds Folder)) (at (Ask (Names test)) e false f (Saw (Entry (search edge)) (Holds Folder))) refl)
        looked test e f Nothing is = missing test e f Nothing (λ h. cc) (λ steps. refl)
        looked test e f (File content) is = missing test e f (File content) (λ h. cc) (λ steps. refl)
        looked test e f (Link text) is = missing test e f (Link text) (λ h. cc) (λ steps. refl)

        by : (act : Act) → commands edge mine ≡ act → (pending : Bool) → waiting ≡ pending → IsOne (step_of world.disk act) (step_of world.disk (next_call (search edge) act pending))
        by (Ask (Entry place)) e pending f = inl (is-step (Saw (Entry place) (see world.disk (Entry place))) (Saw (Entry place) (see world.disk (Entry place))) (at (Ask (Entry place)) e pending f (Saw (Entry place) (see world.disk (Entry place)))) refl)
        by (Ask (Way place)) e pending f = inl (is-step (Saw (Way place) (see world.disk (Way place))) (Saw (Way place) (see world.disk (Way place))) (at (Ask (Way place)) e pending f (Saw (Way place) (see world.disk (Way place)))) refl)
        by (Ask (Names test)) e false f = looked test e f (world.disk (search edge)) refl
        by (Ask (Names test)) e true f = inl (is-step (Saw (Names test) (see world.disk (Names test))) (Saw (Names test) (see world.disk (Names test))) (at (Ask (Names test)) e true f (Saw (Names test) (see world.disk (Names test)))) refl)
        by (Leave place value) e pending f = inl (is-step (Left place value) (Left place value) (at (Leave place value) e pending f (Left place value)) refl)
        by (Ensure place) e pending f = inl (is-step (ensure_at place (world.disk place)) (ensure_at place (world.disk place)) (at (Ensure place) e pending f (ensure_at place (world.disk place))) refl)
        by (End status) e pending f = inl refl

  -- A SCHEDULE
  record IsAs (Waits : ℕ → ℕ → Type 0) (world : World) (edges : List ℕ) : Type 0 where
    schedule : List ℕ
    same : run commands (told world) schedule ≡ told (run first world edges)
    legal : IsLegal Waits commands (told world) schedule

  as-first : (Waits : ℕ → ℕ → Type 0) (edges : List ℕ) (world : World) → IsLegal Waits first world edges → IsSound first world edges → IsAs Waits world edges
  as-first Waits [] world legal sound = record { schedule = []; same = refl; legal = tt }
  as-first Waits (edge ∷ edges) world legal sound =
      let rest = as-first Waits edges (after first world edge) legal.1 sound.1 in
      elim (one-call world edge sound.0) [
        | inl step ↦ record {
          schedule = edge ∷ rest.schedule;
          same = ap (λ w. run commands w rest.schedule) step ∙ rest.same;
          legal = (λ other way. ended-as world other (legal.0 other way), subst (λ w. IsLegal Waits commands w rest.schedule) (sym step) rest.legal);
        }
        | inr none ↦ record {
          schedule = rest.schedule;
          same = ap (λ w. run commands w rest.schedule) none ∙ rest.same;
          legal = subst (λ w. IsLegal Waits commands w rest.schedule) (sym none) rest.legal;
        }
      ]

pub searchers-may-ask : SearchersMayAsk
searchers-may-ask waits through search commands searched disk schedule other legal sound complete none other_legal other_sound =
    let one = as-first search commands searched (λ a b. By waits a b) schedule (opening disk) legal sound in
    let two = as-first search commands searched (λ a b. By waits a b) other (opening disk) other_legal other_sound in
    subst (λ w. HasSameOutcome commands w (as_found commands (run (searching search commands) (opening disk) other))) one.same
    (subst (λ w. HasSameOutcome commands (run commands (opening disk) one.schedule) w) two.same
    (one-outcome-of (λ a b. By waits a b) through commands disk one.schedule two.schedule one.legal
    (subst (λ w. IsComplete commands w) (sym one.same) (λ edge. ended-as search commands searched (run (searching search commands) (opening disk) schedule) edge (complete edge)))
    (subst (λ w. NoneConflict (λ a b. By waits a b) w.steps) (sym one.same) none) two.legal))
