-- Two commands by which the statement is false without a premise.
use Rattle.std.proofs.Common.{◌≡◌, ℕ, zero, suc, Bool, true, false, not, ◌&&◌, List, [], ◌∷◌, Option, Some, None, inl, inr, refl, sym, ap, subst, ◌∙◌, arith, true≢false}
use Rattle.std.specs.Prelude.{◌≢◌, ◌⊎◌, ◌||◌}
use Rattle.rev_world.specs.Commands.{Act.Ask, Act.Leave, Act.Ensure, Act.End, Command, Disk, Look.Entry, Look.Way, Place, Seen.Holds, Step, Step.Saw, Step.Left, Step.Ensured, Value.Nothing, Value.File, Value.Folder, Value.Link, place_eq}
use Rattle.rev_world.specs.Schedules.{HasSameOutcome, IsComplete, NoneConflict, NoneConflictBy, World, after, after_step, asks, ensures_at, leaves, opening, run, step_of, uses}
use Rattle.rev_world.specs.Laws.{By, GoesThrough}
use Rattle.rev_world.specs.Premises.{EnsuredCounts, FirstCounts, FoldersCount, LinksCount, LooksCount, MakersNeedNoOrder, OrderCounts, asks_at_all, both_making, making, none_asks, uses_but_ensured, uses_but_links, uses_but_looks}
use Rattle.rev_world.proofs.StepLemmas.{place-is, with-other}

-- edges 0 and 1 have something to do
abbrev pub two : Command → Command → ℕ → Command
two one other zero = one
two one other (suc zero) = other
two one other (suc (suc n)) = λ steps. End 0

pub idle-others : (one other : Command) (edges : List ℕ) (world : World) (n : ℕ) → (run (two one other) world edges).steps (suc (suc n)) ≡ world.steps (suc (suc n))
idle-others one other [] world n = refl
idle-others one other (edge ∷ edges) world n = idle-others one other edges (after (two one other) world edge) n ∙ kept edge
  where
    by : (edge : ℕ) → suc (suc n) ≢ edge → (step : Option Step) → (after_step world edge step).steps (suc (suc n)) ≡ world.steps (suc (suc n))
    by edge apart None = refl
    by edge apart (Some step) = with-other world.steps edge step (suc (suc n)) apart

    kept : (edge : ℕ) → (after (two one other) world edge).steps (suc (suc n)) ≡ world.steps (suc (suc n))
    kept zero = by zero (λ e. omega (arith, e)) (step_of world.disk (one (world.steps zero)))
    kept (suc zero) = by (suc zero) (λ e. omega (arith, e)) (step_of world.disk (other (world.steps (suc zero))))
    kept (suc (suc m)) = refl

-- whose steps pass a test
pub at-edges : (test : List Step → Bool) (steps : ℕ → List Step) → ((n : ℕ) → steps (suc (suc n)) ≡ []) → test [] ≡ false → (edge : ℕ) → test (steps edge) ≡ true
    → ((edge ≡ 0) × (test (steps 0) ≡ true)) ⊎ ((edge ≡ 1) × (test (steps 1) ≡ true))
at-edges test steps others none zero h = inl (refl, h)
at-edges test steps others none (suc zero) h = inr (refl, h)
at-edges test steps others none (suc (suc n)) h = absurd (true≢false (sym h ∙ ap test (others n) ∙ none))

-- Where only edge 0 leaves a place, and does not use by the test what edge 1 does not either, and none asks for what
-- one ensures, none conflict.
none-by : (uses asks : Place → List Step → Bool) (waits : ℕ → ℕ → Bool) (steps : ℕ → List Step) → ((n : ℕ) → steps (suc (suc n)) ≡ [])
    → ((place : Place) → uses place [] ≡ false) → ((place : Place) → asks place [] ≡ false)
    → ((place : Place) → leaves place (steps 1) ≡ false) → ((place : Place) → uses place (steps 1) ≡ false)
    → ((place : Place) → ensures_at place (steps 0) ≡ true → asks place (steps 1) ≡ false) → ((place : Place) → ensures_at place (steps 1) ≡ true → asks place (steps 0) ≡ false)
    → NoneConflictBy uses asks (By waits) steps
none-by uses asks waits steps others no_uses no_asks no_leave unused first second = λ place. record {
  at_left = λ a b apart leave used. absurd (left a b place apart
      (at-edges (λ s. leaves place s) steps others refl a leave) (at-edges (uses place) steps others (no_uses place) b used));
  at_asked = λ b asked. inr (λ a apart made. absurd (ensured a b place apart
      (at-edges (λ s. ensures_at place s) steps others refl a made) (at-edges (asks place) steps others (no_asks place) b asked)));
}
  where
    left : (a b : ℕ) (place : Place) → a ≢ b → ((a ≡ 0) × (leaves place (steps 0) ≡ true)) ⊎ ((a ≡ 1) × (leaves place (steps 1) ≡ true))
        → ((b ≡ 0) × (uses place (steps 0) ≡ true)) ⊎ ((b ≡ 1) × (uses place (steps 1) ≡ true)) → ⊥
    left a b place apart (inl x) (inl y) = apart (x.0 ∙ sym y.0)
    left a b place apart (inl x) (inr y) = true≢false (sym y.1 ∙ unused place)
    left a b place apart (inr x) y = true≢false (sym x.1 ∙ no_leave place)

    ensured : (a b : ℕ) (place : Place) → a ≢ b → ((a ≡ 0) × (ensures_at place (steps 0) ≡ true)) ⊎ ((a ≡ 1) × (ensures_at place (steps 1) ≡ true))
        → ((b ≡ 0) × (asks place (steps 0) ≡ true)) ⊎ ((b ≡ 1) × (asks place (steps 1) ≡ true)) → ⊥
    ensured a b place apart (inl x) (inl y) = apart (x.0 ∙ sym y.0)
    ensured a b place apart (inl x) (inr y) = true≢false (sym y.1 ∙ first place x.1)
    ensured a b place apart (inr x) (inl y) = true≢false (sym y.1 ∙ second place x.1)
    ensured a b place apart (inr x) (inr y) = apart (x.0 ∙ sym y.0)

-- nothing waits
pub free : ℕ → ℕ → Bool
free a b = false

pub free-through : GoesThrough free
unfolding free
free-through a b c one other = one

pub free-waits : (edge other : ℕ) → By free edge other → ⊥
unfolding free
free-waits edge other way = true≢false (sym way)

-- a place, a disk without anything, and one with a file there
at : Place
at = (0 ∷ []) ∷ []

bare : Disk
bare place = Nothing

full : Disk
full place = File []

-- COMMANDS
leave-file : Command
leave-file [] = Leave at (File [])
leave-file (step ∷ steps) = End 0

leave-link : Command
leave-link [] = Leave at (Link [])
leave-link (step ∷ steps) = End 0

take-away : Command
take-away [] = Leave at Nothing
take-away (step ∷ steps) = End 0

ensure : Command
ensure [] = Ensure at
ensure (step ∷ steps) = End 0

ask : Command
ask [] = Ask (Entry at)
ask (step ∷ steps) = End 0

come-by : Command
come-by [] = Ask (Way at)
come-by (step ∷ steps) = End 0

ask-ensure : Command
ask-ensure [] = Ask (Entry at)
ask-ensure (step ∷ []) = Ensure at
ask-ensure (step ∷ another ∷ steps) = End 0

-- A LOOK
pub looks-count : LooksCount
unfolding leave-file ask bare at
looks-count h = by (o.all_steps 1 refl)
  where
    complete : IsComplete (two leave-file ask) (run (two leave-file ask) (opening bare) (0 ∷ 1 ∷ []))
    complete zero = refl
    complete (suc zero) = refl
    complete (suc (suc n)) = refl

    o : HasSameOutcome (two leave-file ask) (run (two leave-file ask) (opening bare) (0 ∷ 1 ∷ [])) (run (two leave-file ask) (opening bare) (1 ∷ 0 ∷ []))
    o = h free free-through (two leave-file ask) bare (0 ∷ 1 ∷ []) (1 ∷ 0 ∷ [])
        (λ other way. absurd (free-waits 0 other way), (λ other way. absurd (free-waits 1 other way), tt)) complete
        (none-by uses_but_looks asks free (run (two leave-file ask) (opening bare) (0 ∷ 1 ∷ [])).steps (idle-others leave-file ask (0 ∷ 1 ∷ []) (opening bare))
        (λ place. refl) (λ place. refl) (λ place. refl) (λ place. refl) (λ place made. absurd (true≢false (sym made))) (λ place made. absurd (true≢false (sym made))))
        (λ other way. absurd (free-waits 1 other way), (λ other way. absurd (free-waits 0 other way), tt))

    by : Saw (Entry at) (Holds Nothing) ∷ [] ≡ Saw (Entry at) (Holds (File [])) ∷ [] → ⊥
    by e = cc

-- A LOOK AT A FOLDER
pub folders-count : FoldersCount
unfolding ensure ask bare at
folders-count h = by (o.all_steps 1 refl)
  where
    complete : IsComplete (two ensure ask) (run (two ensure ask) (opening bare) (0 ∷ 1 ∷ []))
    complete zero = refl
    complete (suc zero) = refl
    complete (suc (suc n)) = refl

    none : NoneConflictBy uses none_asks (By free) (run (two ensure ask) (opening bare) (0 ∷ 1 ∷ [])).steps
    none = λ place. record {
      at_left = λ a b apart leave used. absurd (elim (at-edges (λ s. leaves place s) (run (two ensure ask) (opening bare) (0 ∷ 1 ∷ [])).steps (idle-others ensure ask (0 ∷ 1 ∷ []) (opening bare)) refl a leave) [
        | inl x ↦ true≢false (sym x.1)
        | inr x ↦ true≢false (sym x.1)
      ]);
      at_asked = λ b asked. inr (λ a apart made. absurd (true≢false (sym asked)));
    }

    o : HasSameOutcome (two ensure ask) (run (two ensure ask) (opening bare) (0 ∷ 1 ∷ [])) (run (two ensure ask) (opening bare) (1 ∷ 0 ∷ []))
    o = h free free-through (two ensure ask) bare (0 ∷ 1 ∷ []) (1 ∷ 0 ∷ [])
        (λ other way. absurd (free-waits 0 other way), (λ other way. absurd (free-waits 1 other way), tt)) complete none
        (λ other way. absurd (free-waits 1 other way), (λ other way. absurd (free-waits 0 other way), tt))

    by : Saw (Entry at) (Holds Nothing) ∷ [] ≡ Saw (Entry at) (Holds Folder) ∷ [] → ⊥
    by e = cc

-- A LINK ON THE WAY
pub links-count : LinksCount
unfolding leave-link come-by bare at
links-count h = by (o.all_steps 1 refl)
  where
    complete : IsComplete (two leave-link come-by) (run (two leave-link come-by) (opening bare) (0 ∷ 1 ∷ []))
    complete zero = refl
    complete (suc zero) = refl
    complete (suc (suc n)) = refl

    o : HasSameOutcome (two leave-link come-by) (run (two leave-link come-by) (opening bare) (0 ∷ 1 ∷ [])) (run (two leave-link come-by) (opening bare) (1 ∷ 0 ∷ []))
    o = h free free-through (two leave-link come-by) bare (0 ∷ 1 ∷ []) (1 ∷ 0 ∷ [])
        (λ other way. absurd (free-waits 0 other way), (λ other way. absurd (free-waits 1 other way), tt)) complete
        (none-by uses_but_links asks free (run (two leave-link come-by) (opening bare) (0 ∷ 1 ∷ [])).steps (idle-others leave-link come-by (0 ∷ 1 ∷ []) (opening bare))
        (λ place. refl) (λ place. refl) (λ place. refl) (λ place. refl) (λ place made. absurd (true≢false (sym made))) (λ place made. absurd (true≢false (sym made))))
        (λ other way. absurd (free-waits 1 other way), (λ other way. absurd (free-waits 0 other way), tt))

    by : Saw (Way at) (Holds Folder) ∷ [] ≡ Saw (Way at) (Holds (Link [])) ∷ [] → ⊥
    by e = cc

-- A FOLDER THAT IS ENSURED WHERE A FILE IS TAKEN AWAY
pub ensured-counts : EnsuredCounts
unfolding take-away ensure full at
ensured-counts h = by (o.all_steps 1 refl)
  where
    complete : IsComplete (two take-away ensure) (run (two take-away ensure) (opening full) (0 ∷ 1 ∷ []))
    complete zero = refl
    complete (suc zero) = refl
    complete (suc (suc n)) = refl

    o : HasSameOutcome (two take-away ensure) (run (two take-away ensure) (opening full) (0 ∷ 1 ∷ [])) (run (two take-away ensure) (opening full) (1 ∷ 0 ∷ []))
    o = h free free-through (two take-away ensure) full (0 ∷ 1 ∷ []) (1 ∷ 0 ∷ [])
        (λ other way. absurd (free-waits 0 other way), (λ other way. absurd (free-waits 1 other way), tt)) complete
        (none-by uses_but_ensured asks free (run (two take-away ensure) (opening full) (0 ∷ 1 ∷ [])).steps (idle-others take-away ensure (0 ∷ 1 ∷ []) (opening full))
        (λ place. refl) (λ place. refl) (λ place. refl) (λ place. refl) (λ place made. refl) (λ place made. refl))
        (λ other way. absurd (free-waits 1 other way), (λ other way. absurd (free-waits 0 other way), tt))

    by : Saw (Entry at) (Holds (File [])) ∷ [] ≡ Ensured at ∷ [] → ⊥
    by e = cc

-- A LOOK BEFORE THE FOLDER IS ENSURED
pub first-counts : FirstCounts
unfolding ensure ask-ensure bare at
first-counts h = by (o.all_steps 1 refl)
  where
    complete : IsComplete (two ensure ask-ensure) (run (two ensure ask-ensure) (opening bare) (0 ∷ 1 ∷ 1 ∷ []))
    complete zero = refl
    complete (suc zero) = refl
    complete (suc (suc n)) = refl

    steps : ℕ → List Step
    steps = (run (two ensure ask-ensure) (opening bare) (0 ∷ 1 ∷ 1 ∷ [])).steps

    both : (b : Bool) → ((false || (b || false)) && not (b || (false || false))) ≡ false
    both true = refl
    both false = refl

    none : NoneConflictBy uses asks_at_all (By free) (run (two ensure ask-ensure) (opening bare) (0 ∷ 1 ∷ 1 ∷ [])).steps
    none = λ place. record {
      at_left = λ a b apart leave used. absurd (elim (at-edges (λ s. leaves place s) (run (two ensure ask-ensure) (opening bare) (0 ∷ 1 ∷ 1 ∷ [])).steps (idle-others ensure ask-ensure (0 ∷ 1 ∷ 1 ∷ []) (opening bare)) refl a leave) [
        | inl x ↦ true≢false (sym x.1)
        | inr x ↦ true≢false (sym x.1)
      ]);
      at_asked = λ b asked. inr (λ a apart made. absurd (elim (at-edges (asks_at_all place) (run (two ensure ask-ensure) (opening bare) (0 ∷ 1 ∷ 1 ∷ [])).steps (idle-others ensure ask-ensure (0 ∷ 1 ∷ 1 ∷ []) (opening bare)) refl b asked) [
        | inl x ↦ true≢false (sym x.1)
        | inr x ↦ true≢false (sym x.1 ∙ both (place_eq at place))
      ]));
    }

    o : HasSameOutcome (two ensure ask-ensure) (run (two ensure ask-ensure) (opening bare) (0 ∷ 1 ∷ 1 ∷ [])) (run (two ensure ask-ensure) (opening bare) (1 ∷ 1 ∷ 0 ∷ []))
    o = h free free-through (two ensure ask-ensure) bare (0 ∷ 1 ∷ 1 ∷ []) (1 ∷ 1 ∷ 0 ∷ [])
        (λ other way. absurd (free-waits 0 other way), (λ other way. absurd (free-waits 1 other way), (λ other way. absurd (free-waits 1 other way), tt))) complete none
        (λ other way. absurd (free-waits 1 other way), (λ other way. absurd (free-waits 1 other way), (λ other way. absurd (free-waits 0 other way), tt)))

    by : Ensured at ∷ Saw (Entry at) (Holds Nothing) ∷ [] ≡ Ensured at ∷ Saw (Entry at) (Holds Folder) ∷ [] → ⊥
    by e = cc

-- WITHOUT AN ORDER
-- edge 1 waits for edge 0
one-waits : ℕ → ℕ → Bool
one-waits (suc zero) zero = true
one-waits (suc zero) (suc b) = false
one-waits zero b = false
one-waits (suc (suc a)) b = false

goes-through : GoesThrough one-waits
unfolding one-waits
goes-through (suc zero) zero c one other = absurd (true≢false (sym other))
goes-through (suc zero) (suc b) c one other = absurd (true≢false (sym one))
goes-through zero b c one other = absurd (true≢false (sym one))
goes-through (suc (suc a)) b c one other = absurd (true≢false (sym one))

pub order-counts : OrderCounts
unfolding leave-file ask bare at one-waits
order-counts h = by (o.all_steps 1 refl)
  where
    complete : IsComplete (two leave-file ask) (run (two leave-file ask) (opening bare) (0 ∷ 1 ∷ []))
    complete zero = refl
    complete (suc zero) = refl
    complete (suc (suc n)) = refl

    none : NoneConflict (By one-waits) (run (two leave-file ask) (opening bare) (0 ∷ 1 ∷ [])).steps
    none = λ place. record {
      at_left = λ a b apart leave used. left (leaves place ((run (two leave-file ask) (opening bare) (0 ∷ 1 ∷ [])).steps 0)) (uses place ((run (two leave-file ask) (opening bare) (0 ∷ 1 ∷ [])).steps 0)) (uses place ((run (two leave-file ask) (opening bare) (0 ∷ 1 ∷ [])).steps 1)) a b apart
          (at-edges (λ s. leaves place s) (run (two leave-file ask) (opening bare) (0 ∷ 1 ∷ [])).steps (idle-others leave-file ask (0 ∷ 1 ∷ []) (opening bare)) refl a leave)
          (at-edges (uses place) (run (two leave-file ask) (opening bare) (0 ∷ 1 ∷ [])).steps (idle-others leave-file ask (0 ∷ 1 ∷ []) (opening bare)) refl b used);
      at_asked = λ b asked. inr (λ a apart made. absurd (elim (at-edges (λ s. ensures_at place s) (run (two leave-file ask) (opening bare) (0 ∷ 1 ∷ [])).steps (idle-others leave-file ask (0 ∷ 1 ∷ []) (opening bare)) refl a made) [
        | inl x ↦ true≢false (sym x.1)
        | inr x ↦ true≢false (sym x.1)
      ]));
    }
      where
        left : (P Q R : Bool) (a b : ℕ) → a ≢ b → ((a ≡ 0) × (P ≡ true)) ⊎ ((a ≡ 1) × (false ≡ true)) → ((b ≡ 0) × (Q ≡ true)) ⊎ ((b ≡ 1) × (R ≡ true)) → By one-waits a b ⊎ By one-waits b a
        left P Q R a b apart (inr x) y = absurd (true≢false (sym x.1))
        left P Q R a b apart (inl x) (inl y) = absurd (apart (x.0 ∙ sym y.0))
        left P Q R a b apart (inl x) (inr y) = inr (subst (λ v. By one-waits b v) (sym x.0) (subst (λ v. By one-waits v 0) (sym y.0) refl))

    o : HasSameOutcome (two leave-file ask) (run (two leave-file ask) (opening bare) (0 ∷ 1 ∷ [])) (run (two leave-file ask) (opening bare) (1 ∷ 0 ∷ []))
    o = h one-waits goes-through (two leave-file ask) bare (0 ∷ 1 ∷ []) (1 ∷ 0 ∷ []) tt complete none tt

    by : Saw (Entry at) (Holds Nothing) ∷ [] ≡ Saw (Entry at) (Holds (File [])) ∷ [] → ⊥
    by e = cc

-- NOT EMPTY
makers : ℕ → List Step
makers = (run both_making (opening (λ place. Nothing)) (0 ∷ 1 ∷ 1 ∷ 0 ∷ 0 ∷ 1 ∷ [])).steps

no-makers : (n : ℕ) → (run both_making (opening (λ place. Nothing)) (0 ∷ 1 ∷ 1 ∷ 0 ∷ 0 ∷ 1 ∷ [])).steps (suc (suc n)) ≡ []
no-makers n = idle-others (making (1 ∷ [])) (making (2 ∷ [])) (0 ∷ 1 ∷ 1 ∷ 0 ∷ 0 ∷ 1 ∷ []) (opening (λ place. Nothing)) n

abbrev by-maker : List ℕ → List Step
by-maker name = Left (name ∷ (0 ∷ []) ∷ []) (File name) ∷ Saw (Entry ((0 ∷ []) ∷ [])) (Holds Folder) ∷ Ensured ((0 ∷ []) ∷ []) ∷ []

made-0 : (run both_making (opening (λ place. Nothing)) (0 ∷ 1 ∷ 1 ∷ 0 ∷ 0 ∷ 1 ∷ [])).steps 0 ≡ by-maker (1 ∷ [])
made-0 = refl

made-1 : (run both_making (opening (λ place. Nothing)) (0 ∷ 1 ∷ 1 ∷ 0 ∷ 0 ∷ 1 ∷ [])).steps 1 ≡ by-maker (2 ∷ [])
made-1 = refl

left-own : (name : List ℕ) (place : Place) → leaves place (by-maker name) ≡ true → name ∷ (0 ∷ []) ∷ [] ≡ place
left-own name place h = by (place_eq (name ∷ (0 ∷ []) ∷ []) place) refl h
  where
    by : (b : Bool) → place_eq (name ∷ (0 ∷ []) ∷ []) place ≡ b → (b || (false || (false || false))) ≡ true → name ∷ (0 ∷ []) ∷ [] ≡ place
    by true e h = place-is (name ∷ (0 ∷ []) ∷ []) place e
    by false e h = absurd (true≢false (sym h))

none-asked : (name : List ℕ) (place : Place) → asks place (by-maker name) ≡ false
none-asked name place = by (place_eq ((0 ∷ []) ∷ []) place)
  where
    by : (b : Bool) → ((false && not (false || (b || false))) || ((b && not (b || false)) || ((false && true) || false))) ≡ false
    by true = refl
    by false = refl

pub makers-need-no-order : MakersNeedNoOrder
makers-need-no-order = λ place. record {
  at_left = λ a b apart leave used. absurd (by a b place apart (at-edges (λ s. leaves place s) (run both_making (opening (λ place. Nothing)) (0 ∷ 1 ∷ 1 ∷ 0 ∷ 0 ∷ 1 ∷ [])).steps no-makers refl a leave) (at-edges (uses place) (run both_making (opening (λ place. Nothing)) (0 ∷ 1 ∷ 1 ∷ 0 ∷ 0 ∷ 1 ∷ [])).steps no-makers refl b used));
  at_asked = λ b asked. inr (λ a apart made. absurd (elim (at-edges (asks place) (run both_making (opening (λ place. Nothing)) (0 ∷ 1 ∷ 1 ∷ 0 ∷ 0 ∷ 1 ∷ [])).steps no-makers refl b asked) [
    | inl x ↦ true≢false (sym x.1 ∙ none-asked (1 ∷ []) place)
    | inr x ↦ true≢false (sym x.1 ∙ none-asked (2 ∷ []) place)
  ]));
}
  where
    by : (a b : ℕ) (place : Place) → a ≢ b → ((a ≡ 0) × (leaves place (by-maker (1 ∷ [])) ≡ true)) ⊎ ((a ≡ 1) × (leaves place (by-maker (2 ∷ [])) ≡ true))
        → ((b ≡ 0) × (uses place (by-maker (1 ∷ [])) ≡ true)) ⊎ ((b ≡ 1) × (uses place (by-maker (2 ∷ [])) ≡ true)) → ⊥
    by a b place apart (inl x) (inl y) = apart (x.0 ∙ sym y.0)
    by a b place apart (inr x) (inr y) = apart (x.0 ∙ sym y.0)
    by a b place apart (inl x) (inr y) = true≢false (sym (subst (λ p. uses p (by-maker (2 ∷ [])) ≡ true) (sym (left-own (1 ∷ []) place x.1)) y.1))
    by a b place apart (inr x) (inl y) = true≢false (sym (subst (λ p. uses p (by-maker (1 ∷ [])) ≡ true) (sym (left-own (2 ∷ []) place x.1)) y.1))
