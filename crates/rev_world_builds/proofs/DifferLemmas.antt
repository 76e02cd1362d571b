-- Two edges that need not wait for one another, and commands by which that matters.
use Rattle.std.proofs.Common.{◌≡◌, ℕ, true, List, [], ◌∷◌, ◌++◌, Option, Some, None, inl, inr, refl, sym, ap, subst, ◌∙◌, if◌then◌else◌}
use Rattle.std.specs.Prelude.{◌≢◌, ◌⊎◌, ◌==◌, Bool, false}
use Rattle.std.proofs.Common.{true≢false}
use Rattle.std.proofs.lemmas.Bool.{cases_eq, eq-eqb, ne_eqb}
use Rattle.rev_manifest.specs.Manifest.{BuildValue}
use Rattle.rev_waits.specs.Waits.{Waits}
use Rattle.rev_world.specs.Commands.{Act.Ask, Act.Leave, Act.End, Command, Disk, Look.Entry, Seen.Holds, Step, Step.Saw, Step.Left, Value, Value.Nothing, Value.File, is_end, is_ensured, is_left}
use Rattle.rev_world.specs.Schedules.{HasEnded, HasSameOutcome, IsComplete, NoneConflict, World, after, after_step, asks, opening, run, step_of, uses}
use Rattle.rev_world.proofs.StepLemmas.{any-begun, no-step, with-other, with-same}
use Rattle.rev_world_builds.specs.Unordered.{CanDiffer, UnorderedMatters}
use Rattle.rev_world_builds.proofs.BuildLemmas.{one-outcome}

-- steps of which a test holds, that holds of none, have begun
test-begun : (test : List Step → Bool) (steps : List Step) → test [] ≡ false → test steps ≡ true → steps ≢ []
test-begun test steps none h e = true≢false (sym h ∙ ap test e ∙ none)

-- WHERE ONE WAITS FOR THE OTHER
-- a command with nothing to do does nothing
idle-still : (commands : ℕ → Command) (edge : ℕ) → ((steps : List Step) → is_end (commands edge steps) ≡ true) → (edges : List ℕ) (world : World) → (run commands world edges).steps edge ≡ world.steps edge
idle-still commands edge idle [] world = refl
idle-still commands edge idle (other ∷ edges) world =
    idle-still commands edge idle edges (after commands world other) ∙ kept (step_of world.disk (commands other (world.steps other))) refl
  where
    kept : (step : Option Step) → step_of world.disk (commands other (world.steps other)) ≡ step → (after_step world other step).steps edge ≡ world.steps edge
    kept None is = refl
    kept (Some step) is = elim (cases_eq edge other) [
      | inl same ↦ absurd (no-step world.disk (commands other (world.steps other)) step (subst (λ x. is_end (commands x (world.steps other)) ≡ true) same (idle (world.steps other))) is)
      | inr apart ↦ with-other world.steps other step edge apart
    ]

ordered-same : (builds : List BuildValue) (a b : ℕ) → Waits builds a b ⊎ Waits builds b a → CanDiffer builds a b → ⊥
ordered-same builds a b ordered d = d.differ (one-outcome builds d.commands d.disk d.one d.other d.one_legal d.one_complete none d.other_legal)
  where
    one-of : (edge : ℕ) → (run d.commands (opening d.disk) d.one).steps edge ≢ [] → (edge ≡ a) ⊎ (edge ≡ b)
    one-of edge begun = elim (cases_eq edge a) [
      | inl same ↦ inl same
      | inr apart ↦ elim (cases_eq edge b) [
        | inl same ↦ inr same
        | inr other ↦ absurd (begun (idle-still d.commands edge (d.idle edge apart other) d.one (opening d.disk)))
      ]
    ]

    turn : Waits builds a b ⊎ Waits builds b a → Waits builds b a ⊎ Waits builds a b
    turn (inl way) = inr way
    turn (inr way) = inl way

    by : (x y : ℕ) → x ≢ y → (x ≡ a) ⊎ (x ≡ b) → (y ≡ a) ⊎ (y ≡ b) → Waits builds x y ⊎ Waits builds y x
    by x y apart (inl h) (inl k) = absurd (apart (h ∙ sym k))
    by x y apart (inl h) (inr k) = subst (λ v. Waits builds v y ⊎ Waits builds y v) (sym h) (subst (λ v. Waits builds a v ⊎ Waits builds v a) (sym k) ordered)
    by x y apart (inr h) (inl k) = subst (λ v. Waits builds v y ⊎ Waits builds y v) (sym h) (subst (λ v. Waits builds b v ⊎ Waits builds v b) (sym k) (turn ordered))
    by x y apart (inr h) (inr k) = absurd (apart (h ∙ sym k))

    none : NoneConflict (Waits builds) (run d.commands (opening d.disk) d.one).steps
    none = λ place. record {
      at_left = λ x y apart leave used. by x y apart (one-of x (any-begun (is_left place) _ leave)) (one-of y (test-begun (uses place) _ refl used));
      at_asked = λ y asked. inr (λ x apart made. by x y apart (one-of x (any-begun (is_ensured place) _ made)) (one-of y (test-begun (asks place) _ refl asked)));
    }

-- WHERE NEITHER DOES
-- the first leaves a path, and the second looks at it
maker : Command
maker [] = Leave [] (File [])
maker (step ∷ steps) = End 0

reader : Command
reader [] = Ask (Entry [])
reader (step ∷ steps) = End 0

bare : Disk
bare place = Nothing

abbrev left : Step
left = Left [] (File [])

abbrev saw : Value → Step
saw value = Saw (Entry []) (Holds value)

module _ (builds : List BuildValue) (a b : ℕ) (apart : a ≢ b) where
  abbrev two : ℕ → Command
  two edge = if edge == a then maker else if edge == b then reader else (λ steps. End 0)

  at-a : two a ≡ maker
  at-a = ap (λ t. if t then maker else if a == b then reader else (λ steps. End 0)) (eq-eqb a a refl)

  at-b : two b ≡ reader
  at-b = ap (λ t. if t then maker else if b == b then reader else (λ steps. End 0)) (ne_eqb b a (λ e. apart (sym e))) ∙ ap (λ t. if t then reader else (λ steps. End 0)) (eq-eqb b b refl)

  at-other : (edge : ℕ) → edge ≢ a → edge ≢ b → two edge ≡ (λ steps. End 0)
  at-other edge one other = ap (λ t. if t then maker else if edge == b then reader else (λ steps. End 0)) (ne_eqb edge a one) ∙ ap (λ t. if t then reader else (λ steps. End 0)) (ne_eqb edge b other)

  idle : (edge : ℕ) → edge ≢ a → edge ≢ b → (steps : List Step) → is_end (two edge steps) ≡ true
  idle edge one other steps = ap (λ command. is_end (command steps)) (at-other edge one other)

  -- the maker first
  abbrev made : World
  made = after_step (opening bare) a (Some left)

  abbrev forth : World
  forth = after_step made b (Some (saw (File [])))

  make : after two (opening bare) a ≡ made
  unfolding maker bare
  make = ap (λ command. after_step (opening bare) a (step_of bare (command []))) at-a

  made-b : made.steps b ≡ []
  made-b = with-other (λ edge. []) a left b (λ e. apart (sym e))

  read : after two made b ≡ forth
  unfolding reader
  read = ap (λ command. after_step made b (step_of made.disk (command (made.steps b)))) at-b ∙ ap (λ steps. after_step made b (step_of made.disk (reader steps))) made-b

  run-forth : run two (opening bare) (a ∷ b ∷ []) ≡ forth
  run-forth = ap (λ world. after two world b) make ∙ read

  -- the reader first
  abbrev looked : World
  looked = after_step (opening bare) b (Some (saw Nothing))

  abbrev back : World
  back = after_step looked a (Some left)

  look : after two (opening bare) b ≡ looked
  unfolding reader bare
  look = ap (λ command. after_step (opening bare) b (step_of bare (command []))) at-b

  looked-a : looked.steps a ≡ []
  looked-a = with-other (λ edge. []) b (saw Nothing) a apart

  make-late : after two looked a ≡ back
  unfolding maker
  make-late = ap (λ command. after_step looked a (step_of looked.disk (command (looked.steps a)))) at-a ∙ ap (λ steps. after_step looked a (step_of looked.disk (maker steps))) looked-a

  run-back : run two (opening bare) (b ∷ a ∷ []) ≡ back
  run-back = ap (λ world. after two world a) look ∙ make-late

  -- what they did
  forth-a : forth.steps a ≡ left ∷ []
  forth-a = with-other made.steps b (saw (File [])) a apart ∙ with-same (λ edge. []) a left

  forth-b : forth.steps b ≡ saw (File []) ∷ []
  forth-b = with-same made.steps b (saw (File [])) ∙ ap (λ steps. saw (File []) ∷ steps) made-b

  back-a : back.steps a ≡ left ∷ []
  back-a = with-same looked.steps a left ∙ ap (λ steps. left ∷ steps) looked-a

  back-b : back.steps b ≡ saw Nothing ∷ []
  back-b = with-other looked.steps a left b (λ e. apart (sym e)) ∙ with-same (λ edge. []) b (saw Nothing)

  ended : (world : World) (step : Step) → world.steps a ≡ left ∷ [] → world.steps b ≡ step ∷ [] → IsComplete two world
  unfolding maker reader
  ended world step by_a by_b edge = elim (cases_eq edge a) [
    | inl same ↦ subst (λ x. is_end (two x (world.steps x)) ≡ true) (sym same) ((λ i. is_end (at-a i (by_a i))))
    | inr other ↦ elim (cases_eq edge b) [
      | inl same ↦ subst (λ x. is_end (two x (world.steps x)) ≡ true) (sym same) ((λ i. is_end (at-b i (by_b i))))
      | inr further ↦ idle edge other further (world.steps edge)
    ]
  ]

  differ : HasSameOutcome two forth back → ⊥
  differ h = by (h.as_here b).0 (sym forth-b ∙ (h.as_here b).1 ∙ ap (λ steps. (h.as_here b).0 ++ steps) back-b)
    where
      by : (later : List Step) → saw (File []) ∷ [] ≡ later ++ saw Nothing ∷ [] → ⊥
      by [] e = cc
      by (step ∷ []) e = cc
      by (step ∷ another ∷ later) e = cc

  -- who waits for nobody that does anything can go first, or second
  module _ (self_a : Waits builds a a → ⊥) (self_b : Waits builds b b → ⊥) (a_free : Waits builds a b → ⊥) (b_free : Waits builds b a → ⊥) where
    rest : (world : World) (edge : ℕ) → (Waits builds edge a → ⊥) → (Waits builds edge b → ⊥) → (other : ℕ) → Waits builds edge other → HasEnded two world other
    rest world edge not_a not_b other way =
        idle other (λ e. not_a (subst (λ x. Waits builds edge x) e way)) (λ e. not_b (subst (λ x. Waits builds edge x) e way)) (world.steps other)

    can-differ : CanDiffer builds a b
    can-differ = record {
      commands = two;
      disk = bare;
      one = a ∷ b ∷ [];
      other = b ∷ a ∷ [];
      idle = idle;
      one_legal = (rest (opening bare) a self_a a_free, (rest (after two (opening bare) a) b b_free self_b, tt));
      other_legal = (rest (opening bare) b b_free self_b, (rest (after two (opening bare) b) a self_a a_free, tt));
      one_complete = subst (λ world. IsComplete two world) (sym run-forth) (ended forth (saw (File [])) forth-a forth-b);
      other_complete = subst (λ world. IsComplete two world) (sym run-back) (ended back (saw Nothing) back-a back-b);
      differ = λ h. differ (subst (λ world. HasSameOutcome two forth world) run-back (subst (λ world. HasSameOutcome two world (run two (opening bare) (b ∷ a ∷ []))) run-forth h));
    }

pub unordered-matters : UnorderedMatters
unordered-matters builds a b apart self_a self_b = (
  λ free. can-differ builds a b apart self_a self_b free.0 free.1,
  λ d. (λ way. ordered-same builds a b (inl way) d, λ way. ordered-same builds a b (inr way) d),
)
