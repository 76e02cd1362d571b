-- The commands that run after one event more.
use Rattle.std.proofs.Common.{◌≡◌, ℕ, ◌==◌, Bool, true, false, not, ◌||◌, List, [], ◌∷◌, ◌++◌, Option, Some, None, refl, sym, ap, ◌∙◌, cond, if◌then◌else◌, append_assoc}
use Rattle.std.specs.Prelude.{filter}
use Rattle.std.specs.List.{list_any}
use Rattle.std.proofs.lemmas.List.{append-nil}
use Rattle.std.proofs.lemmas.List.Elements.{filter-append}
use Rattle.std.proofs.lemmas.List.Folds.{list_any-append}
use Rattle.rev_causal.specs.Chosen.{without}
use Rattle.rev_manifest.specs.Manifest.{BuildValue}
use Rattle.rev_dirty.specs.Reasons.{holds}
use Rattle.rev_events.specs.declared.event.Event.{Event}
use Rattle.rev_hints.specs.Running.{is_start, running, turned, turns, unless_turned}

module _ (builds : List BuildValue) where
  -- edges but those whose command an event begins or ends
  abbrev pub unturned : Event → List ℕ → List ℕ
  unturned e edges = filter (λ edge. not (turns builds edge e)) edges

  -- the edge whose command an event begins
  abbrev pub begun : Event → List ℕ
  begun e = if is_start e then unless_turned builds [] (turned builds e) else []

  unless-more : (es : List (ℕ × Event)) (e : ℕ × Event) (o : Option ℕ) → unless_turned builds (es ++ e ∷ []) o ≡ unturned e.1 (unless_turned builds es o)
  unless-more es e None = refl
  unless-more es e (Some edge) =
      ap (λ b. if b then [] else edge ∷ []) (list_any-append (λ (x : ℕ × Event). turns builds edge x.1) es (e ∷ []))
      ∙ by (list_any (λ (x : ℕ × Event). turns builds edge x.1) es) (turns builds edge e.1) refl
    where
      by : (a b : Bool) → turns builds edge e.1 ≡ b → (if a || (b || false) then [] else edge ∷ []) ≡ unturned e.1 (if a then [] else edge ∷ [])
      by true b is = refl
      by false true is = sym (ap (λ b. cond (not b) (edge ∷ []) []) is)
      by false false is = sym (ap (λ b. cond (not b) (edge ∷ []) []) is)

  first-more : (x : ℕ × Event) (es : List (ℕ × Event)) (e : ℕ × Event)
      → (if is_start x.1 then unless_turned builds (es ++ e ∷ []) (turned builds x.1) else []) ≡ unturned e.1 (if is_start x.1 then unless_turned builds es (turned builds x.1) else [])
  first-more x es e = by (is_start x.1)
    where
      by : (b : Bool) → (if b then unless_turned builds (es ++ e ∷ []) (turned builds x.1) else []) ≡ unturned e.1 (if b then unless_turned builds es (turned builds x.1) else [])
      by true = unless-more es e (turned builds x.1)
      by false = refl

  pub running-more : (es : List (ℕ × Event)) (e : ℕ × Event) → running builds (es ++ e ∷ []) ≡ unturned e.1 (running builds es) ++ begun e.1
  running-more [] e = append-nil (begun e.1)
  running-more (x ∷ xs) e =
      ap (λ ys. ys ++ running builds (xs ++ e ∷ [])) (first-more x xs e)
      ∙ ap (λ ys. unturned e.1 (here xs) ++ ys) (running-more xs e)
      ∙ sym (append_assoc (unturned e.1 (here xs)) (unturned e.1 (running builds xs)) (begun e.1))
      ∙ ap (λ ys. ys ++ begun e.1) (sym (filter-append (λ edge. not (turns builds edge e.1)) (here xs) (running builds xs)))
    where
      here : List (ℕ × Event) → List ℕ
      here es = if is_start x.1 then unless_turned builds es (turned builds x.1) else []

  filter-same : (p q : ℕ → Bool) → ((k : ℕ) → p k ≡ q k) → (xs : List ℕ) → filter p xs ≡ filter q xs
  filter-same p q same xs = ap (λ t. filter t xs) (λ i k. same k i)

  filter-all : (xs : List ℕ) → filter (λ _. true) xs ≡ xs
  filter-all [] = refl
  filter-all (x ∷ xs) = ap (λ ys. x ∷ ys) (filter-all xs)

  begins-none : (e : Event) → turned builds e ≡ None → begun e ≡ []
  begins-none e none = ap (λ o. if is_start e then unless_turned builds [] o else []) none ∙ either (is_start e)
    where
      nothing : List ℕ
      nothing = []

      either : (b : Bool) → (if b then nothing else nothing) ≡ nothing
      either true = refl
      either false = refl

  -- an event that begins or ends no command
  pub running-same : (es : List (ℕ × Event)) (n : ℕ) (e : Event) → turned builds e ≡ None → running builds (es ++ (n, e) ∷ []) ≡ running builds es
  running-same es n e none =
      running-more es (n, e)
      ∙ ap (λ ys. unturned e (running builds es) ++ ys) (begins-none e none)
      ∙ append-nil (unturned e (running builds es))
      ∙ ap (λ o. filter (λ edge. not (holds (λ k. edge == k) o)) (running builds es)) none
      ∙ filter-all (running builds es)

  -- one that ends that of an edge
  pub running-ended : (es : List (ℕ × Event)) (n edge : ℕ) (e : Event) → turned builds e ≡ Some edge → is_start e ≡ false → running builds (es ++ (n, e) ∷ []) ≡ without edge (running builds es)
  running-ended es n edge e is ends =
      running-more es (n, e)
      ∙ ap (λ b. unturned e (running builds es) ++ (if b then unless_turned builds [] (turned builds e) else [])) ends
      ∙ append-nil (unturned e (running builds es))
      ∙ ap (λ o. filter (λ k. not (holds (λ m. k == m) o)) (running builds es)) is

  -- one that begins it
  pub running-begun : (es : List (ℕ × Event)) (n edge : ℕ) (e : Event) → turned builds e ≡ Some edge → is_start e ≡ true → running builds (es ++ (n, e) ∷ []) ≡ without edge (running builds es) ++ edge ∷ []
  running-begun es n edge e is begins =
      running-more es (n, e)
      ∙ ap (λ b. unturned e (running builds es) ++ (if b then unless_turned builds [] (turned builds e) else [])) begins
      ∙ ap (λ o. filter (λ k. not (holds (λ m. k == m) o)) (running builds es) ++ unless_turned builds [] o) is
