-- What counts as the change of a path after one event more.
use Rattle.std.proofs.Common.{◌≡◌, ℕ, Bool, true, false, List, [], ◌∷◌, ◌++◌, Option, Some, None, refl, sym, ap, ◌∙◌, if◌then◌else◌, append_assoc}
use Rattle.std.specs.Option.{option_or}
use Rattle.std.proofs.lemmas.List.{append-nil}
use Rattle.rev_causal.specs.Chosen.{under, chosen}
use Rattle.rev_causal.specs.History as causal
use Rattle.rev_manifest.specs.Manifest.{BuildValue}
use Rattle.rev_events.specs.declared.event.Event.{Event}
use Rattle.rev_hints.specs.Running.{running}
use Rattle.rev_hints.specs.Changes.{ChangeValue, change_by, change_of, is_unmade, last_change, last_change_after}

or-none : (o : Option ChangeValue) → o ≡ option_or o None
or-none None = refl
or-none (Some n) = refl

or-assoc : (a b c : Option ChangeValue) → option_or (option_or a b) c ≡ option_or a (option_or b c)
or-assoc None b c = refl
or-assoc (Some n) b c = refl

module _ (builds : List BuildValue) (path : List ℕ) where
  after-more : (before es : List (ℕ × Event)) (e : ℕ × Event)
      → last_change_after builds path before (es ++ e ∷ []) ≡ option_or (change_by path (running builds (before ++ es)) e) (last_change_after builds path before es)
  after-more before [] e = ap (λ (xs : List (ℕ × Event)). change_by path (running builds xs) e) (sym (append-nil before)) ∙ or-none (change_by path (running builds (before ++ [])) e)
  after-more before (x ∷ xs) e =
      ap (λ o. option_or o (change_by path (running builds before) x)) (
      after-more (before ++ x ∷ []) xs e
      ∙ ap (λ (ys : List (ℕ × Event)). option_or (change_by path (running builds ys) e) (last_change_after builds path (before ++ x ∷ []) xs)) (append_assoc before (x ∷ []) xs)
      )
      ∙ or-assoc (change_by path (running builds (before ++ x ∷ xs)) e) (last_change_after builds path (before ++ x ∷ []) xs) (change_by path (running builds before) x)

  last-more : (es : List (ℕ × Event)) (e : ℕ × Event) → last_change builds path (es ++ e ∷ []) ≡ option_or (change_by path (running builds es) e) (last_change builds path es)
  last-more es e = after-more [] es e

-- one event more
pub change-more : (builds : List BuildValue) (names : List (List ℕ × List ℕ)) (es : List (ℕ × Event)) (e : ℕ × Event) (path ran : List ℕ) (old : Option ChangeValue) → ran ≡ running builds es
    → old ≡ change_of builds names es path → option_or (if is_unmade builds names path then change_by path ran e else None) old ≡ change_of builds names (es ++ e ∷ []) path
change-more builds names es e path ran old runs is =
    ap (λ r. option_or (if is_unmade builds names path then change_by path r e else None) old) runs
    ∙ ap (λ o. option_or (if is_unmade builds names path then change_by path (running builds es) e else None) o) is
    ∙ by (is_unmade builds names path)
  where
    by : (b : Bool) → option_or (if b then change_by path (running builds es) e else None) (if b then last_change builds path es else None) ≡ (if b then last_change builds path (es ++ e ∷ []) else None)
    by true = sym (last-more builds path es e)
    by false = refl

-- of no events
pub change-first : (builds : List BuildValue) (names : List (List ℕ × List ℕ)) (path : List ℕ) (old : Option ChangeValue) → old ≡ None → old ≡ change_of builds names [] path
change-first builds names path old none = none ∙ sym (by (is_unmade builds names path))
  where
    nothing : Option ChangeValue
    nothing = None

    by : (b : Bool) → (if b then nothing else nothing) ≡ nothing
    by true = refl
    by false = refl

-- THE KEPT EVENTS, ONE AFTER THE OTHER
pub chosen-one-more : (es : List (ℕ × Event)) (ks : List ℕ) (n : ℕ) → chosen es (ks ++ n ∷ []) ≡ chosen es ks ++ under n (causal.event_at n es) []
chosen-one-more es [] n = refl
chosen-one-more es (k ∷ ks) n = by (causal.event_at k es) (chosen-one-more es ks n)
  where
    by : (o : Option Event) → chosen es (ks ++ n ∷ []) ≡ chosen es ks ++ under n (causal.event_at n es) []
        → under k o (chosen es (ks ++ n ∷ [])) ≡ under k o (chosen es ks) ++ under n (causal.event_at n es) []
    by None rest = rest
    by (Some e) rest = ap (λ (xs : List (ℕ × Event)). (k, e) ∷ xs) rest

-- an event stands under the number
pub chosen-some : (es : List (ℕ × Event)) (ks : List ℕ) (n : ℕ) (e : Event) → causal.event_at n es ≡ Some e → chosen es (ks ++ n ∷ []) ≡ chosen es ks ++ (n, e) ∷ []
chosen-some es ks n e is = chosen-one-more es ks n ∙ ap (λ o. chosen es ks ++ under n o []) is

-- none does
pub chosen-none : (es : List (ℕ × Event)) (ks : List ℕ) (n : ℕ) → causal.event_at n es ≡ None → chosen es (ks ++ n ∷ []) ≡ chosen es ks
chosen-none es ks n is = chosen-one-more es ks n ∙ ap (λ o. chosen es ks ++ under n o []) is ∙ append-nil (chosen es ks)
