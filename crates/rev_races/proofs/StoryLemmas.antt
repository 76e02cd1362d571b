-- Plans among the kept events, and what happened.
use Rattle.std.proofs.Common.{◌≡◌, ℕ, Bool, true, false, ◌||◌, ◌&&◌, List, [], ◌∷◌, ◌++◌, length, take, Option, Some, None, refl, sym, ap, subst, ◌∙◌}
use Rattle.std.specs.List.{list_any}
use Rattle.std.proofs.Math.Seq.{take-length}
use Rattle.std.proofs.lemmas.List.Folds.{list_any-append}
use Rattle.rev_causal.specs.Chosen.{under, chosen}
use Rattle.rev_causal.specs.History as causal
use Rattle.rev_events.specs.declared.event.Event.{Event}
use Rattle.rev_history.specs.Timeline.{Timeline}
use Rattle.rev_races.specs.Races.{is_plan}
use Rattle.rev_races.specs.Stories.{ArePlans, ArePlansBy, is_between}
use Rattle.rev_races.proofs.AnswerLemmas.{chosen-one-more}

module _ (t : Timeline) (ks : List ℕ) (n : ℕ) (plans : List ℕ) where
  abbrev test : ℕ → ℕ → ℕ × Event → Bool
  test a b e = is_plan e.1 && is_between a b e.0

  more : (o : Option Event) → causal.event_at n t.accepted ≡ o → (a b : ℕ)
      → list_any (test a b) (chosen t.accepted (ks ++ n ∷ [])) ≡ (list_any (test a b) (chosen t.accepted ks) || list_any (test a b) (under n o []))
  more o is a b =
      ap (list_any (test a b)) (chosen-one-more t.accepted ks n)
      ∙ list_any-append (test a b) (chosen t.accepted ks) (under n (causal.event_at n t.accepted) [])
      ∙ ap (λ q. list_any (test a b) (chosen t.accepted ks) || list_any (test a b) (under n q [])) is

  or-false : (b : Bool) → (b || false) ≡ b
  or-false true = refl
  or-false false = refl

  pub plans-none : causal.event_at n t.accepted ≡ None → ArePlansBy t ks plans → ArePlansBy t (ks ++ n ∷ []) plans
  plans-none none before = record { parts = λ a b. before.parts a b ∙ sym (or-false (list_any (test a b) (chosen t.accepted ks))) ∙ sym (more None none a b) }

  pub plans-other : (e : Event) → causal.event_at n t.accepted ≡ Some e → is_plan e ≡ false → ArePlansBy t ks plans → ArePlansBy t (ks ++ n ∷ []) plans
  plans-other e is other before = record {
    parts = λ a b.
        before.parts a b ∙ sym (or-false (list_any (test a b) (chosen t.accepted ks)))
        ∙ sym (ap (λ p. list_any (test a b) (chosen t.accepted ks) || ((p && is_between a b n) || false)) other)
        ∙ sym (more (Some e) is a b);
  }

  pub plans-more : (e : Event) (all : List ℕ) → causal.event_at n t.accepted ≡ Some e → is_plan e ≡ true → all ≡ plans ++ n ∷ [] → ArePlansBy t ks plans → ArePlansBy t (ks ++ n ∷ []) all
  plans-more e all is plan pushed before = record {
    parts = λ a b.
        ap (list_any (is_between a b)) pushed
        ∙ list_any-append (is_between a b) plans (n ∷ [])
        ∙ ap (λ x. x || (is_between a b n || false)) (before.parts a b)
        ∙ sym (ap (λ p. list_any (test a b) (chosen t.accepted ks) || ((p && is_between a b n) || false)) plan)
        ∙ sym (more (Some e) is a b);
  }

pub plans-all : (t : Timeline) (i : ℕ) (plans : List ℕ) → i ≡ length t.kept → ArePlansBy t (take i t.kept) plans → ArePlans t plans
plans-all t i plans all by =
    let r = subst (λ ks. ArePlansBy t ks plans) (ap (λ n. take n t.kept) all ∙ take-length t.kept) by in
    record { parts = r.parts }
