-- The steps that a run knows, in one list.
use Rattle.std.proofs.Common.{◌≡◌, ℕ, List, [], ◌∷◌, ◌++◌, Some, None, inl, inr, refl, sym, subst, Contains}
use Rattle.std.specs.Prelude.{◌↔◌}
use Rattle.std.proofs.lemmas.List.Elements.{Contains-append_cases, Contains-append_left, Contains-append_right}
use Rattle.rev_contents.specs.declared.looks.Answer.{Answer}
use Rattle.rev_contents.specs.declared.looks.Answer.TheVariants.{Missing, There, Content}
use Rattle.rev_contents.specs.declared.looks.Look.{Look}
use Rattle.rev_contents.specs.Runs.{Ask, Ask.IsThere, Ask.Read, Knows, Reply, Reply.No, Reply.Yes, Reply.Holds, Run, Step, reply_to}
use Rattle.rev_contents.proofs.Members.{further, here, here-or, none-in}

abbrev at : ℕ → Ask → Reply → Step
at place ask reply = record { question = record { place = place; ask = ask }; reply = reply }

-- what an answer of a place says
abbrev pub told : ℕ → Answer → List Step
told place Missing = at place IsThere No ∷ at place Read No ∷ []
told place There = at place IsThere Yes ∷ []
told place (Content content) = at place IsThere Yes ∷ at place Read (Holds content) ∷ []

abbrev pub steps-of : List Look → List Step
steps-of [] = []
steps-of (look ∷ looks) = told look.place look.answer ++ steps-of looks

abbrev Says : ℕ → Answer → Step → Type 0
Says place answer step = (step.question.place ≡ place) × (reply_to answer step.question.ask ≡ Some step.reply)

is-of : (place : ℕ) (answer : Answer) (one step : Step) → Says place answer one → one ≡ step → Says place answer step
is-of place answer one step says same = subst (Says place answer) same says

told-says : (place : ℕ) (answer : Answer) (step : Step) → Contains (told place answer) step → Says place answer step
told-says place Missing step h = elim (here-or (at place IsThere No) step (at place Read No ∷ []) h) [
  | inl same ↦ is-of place Missing _ step (refl, refl) same
  | inr later ↦ elim (here-or (at place Read No) step [] later) [
    | inl same ↦ is-of place Missing _ step (refl, refl) same
    | inr none ↦ absurd (none-in step none)
  ]
]
told-says place There step h = elim (here-or (at place IsThere Yes) step [] h) [
  | inl same ↦ is-of place There _ step (refl, refl) same
  | inr none ↦ absurd (none-in step none)
]
told-says place (Content content) step h = elim (here-or (at place IsThere Yes) step (at place Read (Holds content) ∷ []) h) [
  | inl same ↦ is-of place (Content content) _ step (refl, refl) same
  | inr later ↦ elim (here-or (at place Read (Holds content)) step [] later) [
    | inl same ↦ is-of place (Content content) _ step (refl, refl) same
    | inr none ↦ absurd (none-in step none)
  ]
]

no-value : {A : Type 0} (x : A) → None ≡ Some x → ⊥
no-value x e = cc

-- a reply that an answer gives is told
told-all : (place : ℕ) (answer : Answer) (ask : Ask) (reply : Reply) → reply_to answer ask ≡ Some reply → Contains (told place answer) (at place ask reply)
told-all place Missing IsThere reply says =
    let e : No ≡ reply = cc in
    subst (λ r. Contains (told place Missing) (at place IsThere r)) e (here (at place IsThere No) (at place Read No ∷ []))
told-all place Missing Read reply says =
    let e : No ≡ reply = cc in
    subst (λ r. Contains (told place Missing) (at place Read r)) e (further (at place IsThere No) (at place Read No) (at place Read No ∷ []) (here (at place Read No) []))
told-all place There IsThere reply says =
    let e : Yes ≡ reply = cc in
    subst (λ r. Contains (told place There) (at place IsThere r)) e (here (at place IsThere Yes) [])
told-all place There Read reply says = absurd (no-value reply says)
told-all place (Content content) IsThere reply says =
    let e : Yes ≡ reply = cc in
    subst (λ r. Contains (told place (Content content)) (at place IsThere r)) e (here (at place IsThere Yes) (at place Read (Holds content) ∷ []))
told-all place (Content content) Read reply says =
    let e : Holds content ≡ reply = cc in
    subst (λ r. Contains (told place (Content content)) (at place Read r)) e
    (further (at place IsThere Yes) (at place Read (Holds content)) (at place Read (Holds content) ∷ []) (here (at place Read (Holds content)) []))

abbrev KnownIn : List Look → Step → Type 0
KnownIn looks step =
    (answer : Answer) × Contains looks (record { place = step.question.place; answer = answer })
    × (reply_to answer step.question.ask ≡ Some step.reply)

known : (looks : List Look) (step : Step) → Contains (steps-of looks) step → KnownIn looks step
known [] step h = absurd (none-in step h)
known (look ∷ looks) step h = elim (Contains-append_cases (told look.place look.answer) (steps-of looks) step h) [
  | inl first ↦
      let says = told-says look.place look.answer step first in
      (look.answer, subst (λ p. Contains (look ∷ looks) (record { place = p; answer = look.answer })) (sym says.0) (here look looks), says.1)
  | inr later ↦ let k = known looks step later in (k.0, further look _ looks k.1, k.2)
]

stepped : (looks : List Look) (step : Step) (answer : Answer) → Contains looks (record { place = step.question.place; answer = answer })
    → reply_to answer step.question.ask ≡ Some step.reply → Contains (steps-of looks) step
stepped [] step answer h says = absurd (none-in _ h)
stepped (look ∷ looks) step answer h says = elim (here-or look _ looks h) [
  | inl same ↦ Contains-append_left (told look.place look.answer) (steps-of looks) step
      (subst (λ l. Contains (told l.place l.answer) step) (sym same) (told-all step.question.place answer step.question.ask step.reply says))
  | inr later ↦ Contains-append_right (told look.place look.answer) (steps-of looks) step (stepped looks step answer later says)
]

pub exact : (run : Run) (step : Step) → Contains (steps-of run.looks) step ↔ Knows run step
exact run step = (
  λ h. let k = known run.looks step h in record { answer = k.0; looked = k.1; says = k.2 },
  λ k. stepped run.looks step k.answer k.looked k.says,
)
