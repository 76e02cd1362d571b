-- Nothing told: no two unordered edges conflict.
use Rattle.std.proofs.Common.{◌≡◌, ℕ, true, List, inl, inr, sym, ◌∙◌, true≢false}
use Rattle.std.specs.Prelude.{◌≢◌, ◌⊎◌, ◌||◌}
use Rattle.std.proofs.lemmas.Bool.{cases_Bool, or_cases, or_left, or_right}
use Rattle.rev_world.specs.Commands.{Place, Step}
use Rattle.rev_world.specs.Schedules.{IsDetermined, NoneConflict, asks, ensures_at, leaves, passes, uses}
use Rattle.rev_world.specs.Laws.{By}
use Rattle.rev_world.specs.Observed.{IsToldDetermined, NoneTold, NothingToldOneOutcome, TellsAll, Told, told_uses}
use Rattle.rev_world.proofs.OutcomeLemmas.{one-outcome-of}

module _ (Waits : ℕ → ℕ → Type 0) (told : ℕ → Told) (steps : ℕ → List Step) (none : NoneTold Waits told) (tells : TellsAll told steps) where
  turned : {a b : ℕ} → Waits a b ⊎ Waits b a → Waits b a ⊎ Waits a b
  turned (inl waits) = inr waits
  turned (inr waits) = inl waits

  used-left : (b : ℕ) (place : Place) → (told b).left place ≡ true → told_uses place (told b) ≡ true
  used-left b place h = or_left ((told b).left place) ((told b).ensured place || ((told b).asked place || (told b).passed place)) h

  used-ensured : (b : ℕ) (place : Place) → (told b).ensured place ≡ true → told_uses place (told b) ≡ true
  used-ensured b place h =
      or_right ((told b).left place) ((told b).ensured place || ((told b).asked place || (told b).passed place)) (or_left ((told b).ensured place) ((told b).asked place || (told b).passed place) h)

  used-looked : (b : ℕ) (place : Place) → ((told b).asked place || (told b).passed place) ≡ true → told_uses place (told b) ≡ true
  used-looked b place h =
      or_right ((told b).left place) ((told b).ensured place || ((told b).asked place || (told b).passed place)) (or_right ((told b).ensured place) ((told b).asked place || (told b).passed place) h)

  told-used : (a b : ℕ) (place : Place) → a ≢ b → leaves place (steps a) ≡ true → uses place (steps b) ≡ true → told_uses place (told b) ≡ true
  told-used a b place apart leave used = elim (cases_Bool (leaves place (steps b))) [
    | inl left ↦ used-left b place (tells.left b place left)
    | inr not_left ↦ elim (or_cases (leaves place (steps b)) (ensures_at place (steps b) || (asks place (steps b) || passes place (steps b))) used) [
      | inl left ↦ absurd (true≢false (sym left ∙ not_left))
      | inr rest ↦ elim (or_cases (ensures_at place (steps b)) (asks place (steps b) || passes place (steps b)) rest) [
        | inl made ↦ used-ensured b place ((tells.ensured b place).1 made)
        | inr look ↦ used-looked b place (elim (or_cases (asks place (steps b)) (passes place (steps b)) look) [
          | inl asked ↦ or_left ((told b).asked place) ((told b).passed place) (tells.asked b a place apart (or_left (leaves place (steps a)) (ensures_at place (steps a)) leave) not_left asked)
          | inr passed ↦ or_right ((told b).asked place) ((told b).passed place) (tells.passed b a place apart leave not_left passed)
        ])
      ]
    ]
  ]

  determined : (b : ℕ) (place : Place) → IsToldDetermined Waits told place b → IsDetermined Waits steps place b
  determined b place d = record {
    maker = d.maker;
    before = d.before;
    ensured = (tells.ensured d.maker place).0 d.ensured;
    later = λ leaver left waits. d.later leaver (tells.left leaver place left) waits;
  }

  -- Who asks for a place was seen to ask, or left the place itself, or nobody else ensures it.
  told-asked : (b : ℕ) (place : Place) → asks place (steps b) ≡ true → IsDetermined Waits steps place b ⊎ ((a : ℕ) → a ≢ b → ensures_at place (steps a) ≡ true → Waits a b ⊎ Waits b a)
  told-asked b place asked = elim (cases_Bool (leaves place (steps b))) [
    | inl left ↦ inr (λ a apart made. turned (none.at_left b a place (λ same. apart (sym same)) (tells.left b place left) (used-ensured a place ((tells.ensured a place).1 made))))
    | inr not_left ↦ elim (cases_Bool ((told b).asked place)) [
      | inl seen ↦ elim (none.at_asked b place seen) [
        | inl d ↦ inl (determined b place d)
        | inr ordered ↦ inr (λ a apart made. ordered a apart ((tells.ensured a place).1 made))
      ]
      | inr unseen ↦ inr (λ a apart made. absurd (true≢false (sym (tells.asked b a place apart (or_right (leaves place (steps a)) (ensures_at place (steps a)) made) not_left asked) ∙ unseen)))
    ]
  ]

  pub none-conflict : NoneConflict Waits steps
  none-conflict = λ place. record {
    at_left = λ a b apart leave used. none.at_left a b place apart (tells.left a place leave) (told-used a b place apart leave used);
    at_asked = λ b asked. told-asked b place asked;
  }

pub nothing-told-one-outcome : NothingToldOneOutcome
nothing-told-one-outcome waits through told commands disk schedule other none tells legal complete other_legal =
    one-outcome-of (λ a b. By waits a b) through commands disk schedule other legal complete
    (none-conflict (λ a b. By waits a b) told _ none tells) other_legal
