-- What the kept events note of edges, and which places are first.
use Rattle.std.proofs.Common.{◌≡◌, ℕ, ◌<◌, ◌==◌, Bool, true, false, ◌||◌, List, [], ◌∷◌, ◌++◌, length, get_or, set, take, Option, Some, None, inl, inr, refl, sym, ap, subst, ◌∙◌, arith}
use Rattle.std.specs.List.{list_any}
use Rattle.rev_causal.specs.Machine.{run}
use Rattle.rev_footprint.specs.Machine.{machine}
use Rattle.rev_graph.specs.Graph.{GraphValue, IsGraph, build_at}
use Rattle.rev_manifest.specs.Manifest.{ManifestValue}
use Rattle.rev_races.specs.Races.{recorded, lists}
use Rattle.rev_races.proofs.ListLemmas.{lists-are-recorded}
use Rattle.std.proofs.Math.Seq.{take-length}
use Rattle.std.proofs.lemmas.Bool.{eq-eqb, ne_eqb, cases_eq}
use Rattle.std.proofs.lemmas.List.{length-set, get_or_default, get_or-set_same, get_or-set_other}
use Rattle.rev_causal.specs.Chosen.{under, chosen}
use Rattle.rev_causal.specs.History as causal
use Rattle.rev_events.specs.declared.event.Event.{Event}
use Rattle.rev_history.specs.Timeline.{Numbered, Timeline, kept_events, state_at}
use Rattle.rev_races.specs.Answer.{is_noted, AreNoted}

-- THE KEPT EVENTS, ONE AFTER THE OTHER
pub chosen-one-more : (es : Numbered) (ks : List ℕ) (n : ℕ) → chosen es (ks ++ n ∷ []) ≡ chosen es ks ++ under n (causal.event_at n es) []
chosen-one-more es [] n = refl
chosen-one-more es (k ∷ ks) n = by (causal.event_at k es) (chosen-one-more es ks n)
  where
    by : (o : Option Event) → chosen es (ks ++ n ∷ []) ≡ chosen es ks ++ under n (causal.event_at n es) []
        → under k o (chosen es (ks ++ n ∷ [])) ≡ under k o (chosen es ks) ++ under n (causal.event_at n es) []
    by None rest = rest
    by (Some e) rest = ap (λ (xs : Numbered). (k, e) ∷ xs) rest

any-append : (p : ℕ × Event → Bool) (xs ys : Numbered) → list_any p (xs ++ ys) ≡ (list_any p xs || list_any p ys)
any-append p [] ys = refl
any-append p (x ∷ xs) ys = ap (λ b. p x || b) (any-append p xs ys) ∙ assoc (p x) (list_any p xs) (list_any p ys)
  where
    assoc : (a b c : Bool) → (a || (b || c)) ≡ ((a || b) || c)
    assoc true b c = refl
    assoc false b c = refl

or-false : (b : Bool) → (b || false) ≡ b
or-false true = refl
or-false false = refl

or-true : (b : Bool) → (b || true) ≡ true
or-true true = refl
or-true false = refl

-- one mark more
set-or : (marks : List Bool) (x edge : ℕ) → x < length marks → get_or (set marks x true) edge false ≡ (get_or marks edge false || (x == edge))
set-or marks x edge within = elim (cases_eq edge x) [
  | inl same ↦
      subst (λ n. get_or (set marks x true) n false ≡ (get_or marks n false || (x == n))) (sym same)
      (get_or-set_same marks x true false within ∙ sym (ap (λ b. get_or marks x false || b) (eq-eqb x x refl) ∙ or-true (get_or marks x false)))
  | inr other ↦
      get_or-set_other marks x edge true false other
      ∙ sym (ap (λ b. get_or marks edge false || b) (ne_eqb x edge (λ e. other (sym e))) ∙ or-false (get_or marks edge false))
]

-- marks of what the events of some kept numbers note
pub record AreNotedBy (t : Timeline) (ended : Bool) (ks : List ℕ) (marks : List Bool) : Type 0 where
  pub each : length marks ≡ length t.manifest.builds
  pub exact : (edge : ℕ) → edge < length t.manifest.builds
      → get_or marks edge false ≡ list_any (λ (e : ℕ × Event). is_noted t.manifest ended edge e.1) (chosen t.accepted ks)

module _ (t : Timeline) (ended : Bool) (ks : List ℕ) (n : ℕ) where
  abbrev passes : ℕ → ℕ × Event → Bool
  passes edge e = is_noted t.manifest ended edge e.1

  more : (o : Option Event) → causal.event_at n t.accepted ≡ o → (edge : ℕ)
      → list_any (passes edge) (chosen t.accepted (ks ++ n ∷ [])) ≡ (list_any (passes edge) (chosen t.accepted ks) || list_any (passes edge) (under n o []))
  more o is edge =
      ap (list_any (passes edge)) (chosen-one-more t.accepted ks n)
      ∙ any-append (passes edge) (chosen t.accepted ks) (under n (causal.event_at n t.accepted) [])
      ∙ ap (λ q. list_any (passes edge) (chosen t.accepted ks) || list_any (passes edge) (under n q [])) is

  -- no event stands under the number
  pub noted-none : (marks : List Bool) → causal.event_at n t.accepted ≡ None → AreNotedBy t ended ks marks → AreNotedBy t ended (ks ++ n ∷ []) marks
  noted-none marks none before = record {
    each = before.each;
    exact = λ edge within. before.exact edge within ∙ sym (or-false (list_any (passes edge) (chosen t.accepted ks))) ∙ sym (more None none edge);
  }

  -- the event notes nothing
  pub noted-nothing : (marks : List Bool) (e : Event) → causal.event_at n t.accepted ≡ Some e → ((edge : ℕ) → false ≡ is_noted t.manifest ended edge e)
      → AreNotedBy t ended ks marks → AreNotedBy t ended (ks ++ n ∷ []) marks
  noted-nothing marks e is none before = record {
    each = before.each;
    exact = λ edge within.
        before.exact edge within ∙ sym (or-false (list_any (passes edge) (chosen t.accepted ks)))
        ∙ ap (λ b. list_any (passes edge) (chosen t.accepted ks) || b) (none edge ∙ sym (or-false (passes edge (n, e)))) ∙ sym (more (Some e) is edge);
  }

  -- the event notes an edge
  pub noted-edge : (marks : List Bool) (e : Event) (x : ℕ) → causal.event_at n t.accepted ≡ Some e → ((edge : ℕ) → (x == edge) ≡ is_noted t.manifest ended edge e) → x < length t.manifest.builds
      → AreNotedBy t ended ks marks → AreNotedBy t ended (ks ++ n ∷ []) (set marks x true)
  noted-edge marks e x is notes inside before = record {
    each = length-set marks x true ∙ before.each;
    exact = λ edge within.
        set-or marks x edge (omega (arith, inside, before.each))
        ∙ ap (λ b. b || (x == edge)) (before.exact edge within)
        ∙ ap (λ b. list_any (passes edge) (chosen t.accepted ks) || b) (notes edge ∙ sym (or-false (passes edge (n, e)))) ∙ sym (more (Some e) is edge);
  }

pub noted-all : (t : Timeline) (ended : Bool) (i : ℕ) (marks : List Bool) → i ≡ length t.kept → AreNotedBy t ended (take i t.kept) marks → AreNoted t ended marks
noted-all t ended i marks all by =
    let r = subst (λ ks. AreNotedBy t ended ks marks) (ap (λ n. take n t.kept) all ∙ take-length t.kept) by in
    record { each = r.each; exact = r.exact }

-- the mark at an edge, whatever stands for what is past the last
pub mark-at : (marks : List Bool) (n : ℕ) (d b : Bool) → n < length marks → get_or marks n d ≡ b → get_or marks n false ≡ b
mark-at marks n d b within h = get_or_default marks n false d within ∙ h

-- WHAT AN EDGE LISTS
pub lists-recorded : (t : Timeline) (graph : GraphValue) (edge : ℕ) → IsGraph graph → graph.manifest ≡ t.manifest → edge < length t.manifest.builds
    → recorded (state_at t) (build_at t.manifest.builds edge) ≡ lists t.manifest t.opening (kept_events t) edge
lists-recorded t graph edge is same within =
    sym (subst (λ (m : ManifestValue). lists m t.opening (kept_events t) edge ≡ recorded (run (machine m t.jobs) t.opening (kept_events t)) (build_at m.builds edge)) same
    (lists-are-recorded graph t.jobs t.opening (kept_events t) edge is (subst (λ (m : ManifestValue). edge < length m.builds) (sym same) within)))
