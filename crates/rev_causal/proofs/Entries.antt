-- Exchanges keep a run a run.
use Rattle.std.proofs.Common.{◌≡◌, ℕ, false, List, [], ◌∷◌, sym, refl, ap, ap₂, subst, subst₂, ◌∙◌, ◌↔◌}
use Rattle.rev_causal.specs.Machine.{Machine, IsLocal, Accepts, Legal, run, Exchanged}
use Rattle.rev_causal.specs.Order.{Equivalent, Equivalent.same, Equivalent.exchange, Equivalent.behind, Equivalent.back, Equivalent.follow}
use Rattle.rev_causal.specs.Entries.{Entry, entries, events, IsRun, last_state, clash, SwapEquivalent, Swaps}
use Rattle.rev_causal.proofs.Runs
use Rattle.rev_causal.proofs.Runs.{either}

module _ (m : Machine) where
  pub run_of_legal : (s : m.State) (es : List (ℕ × m.Event)) → Legal m s es → IsRun m s (entries m s es)
  run_of_legal s [] h = tt
  run_of_legal s (e ∷ es) h = (h.0, refl, run_of_legal (m.after s e.1) es h.1)

  pub legal_of_run : (s : m.State) (zs : List (Entry m)) → IsRun m s zs → Legal m s (events m zs)
  legal_of_run s [] h = tt
  legal_of_run s (z ∷ zs) h = (h.0, legal_of_run (m.after s z.event) zs h.2)

  pub entries-events : (s : m.State) (zs : List (Entry m)) → IsRun m s zs → entries m s (events m zs) ≡ zs
  entries-events s [] h = refl
  entries-events s (z ∷ zs) h = λ i. record { number = z.number; event = z.event; footprint = sym h.1 i } ∷ entries-events (m.after s z.event) zs h.2 i

  pub events-entries : (s : m.State) (es : List (ℕ × m.Event)) → events m (entries m s es) ≡ es
  events-entries s [] = refl
  events-entries s (e ∷ es) = ap (λ ys. e ∷ ys) (events-entries (m.after s e.1) es)

  pub last_state-entries : (s : m.State) (es : List (ℕ × m.Event)) → last_state m s (entries m s es) ≡ run m s es
  last_state-entries s [] = refl
  last_state-entries s (e ∷ es) = last_state-entries (m.after s e.1) es

module _ (m : Machine) (l : IsLocal m) where
  -- the list that exchanges lead to
  pub record Reached (s : m.State) (xs ys : List (Entry m)) : Type 0 where
    pub is_run : IsRun m s ys
    pub result : last_state m s ys ≡ last_state m s xs

  reached_exchange : (s : m.State) (a b : Entry m) (zs : List (Entry m)) → clash m a b ≡ false → IsRun m s (a ∷ b ∷ zs) → Reached s (a ∷ b ∷ zs) (b ∷ a ∷ zs)
  reached_exchange s a b zs none h =
      let x : Exchanged m s a.event b.event = Runs.exchange m l s a.event b.event h.0 h.2.0 (sym (ap₂ m.conflict h.1 h.2.1) ∙ none) in
      record {
        is_run = (x.first, h.2.1 ∙ sym x.first_footprint, (x.second, h.1 ∙ sym x.second_footprint, subst (λ t. IsRun m t zs) (sym x.result) h.2.2));
        result = ap (λ t. last_state m t zs) x.result;
      }

  pub reached : (s : m.State) {xs ys : List (Entry m)} → Equivalent (clash m) xs ys → (IsRun m s xs → Reached s xs ys) × (IsRun m s ys → Reached s ys xs)
  reached s same = (λ h. record { is_run = h; result = refl }, λ h. record { is_run = h; result = refl })
  reached s (exchange a b zs none) = (reached_exchange s a b zs none, reached_exchange s b a zs (l.both_ways b.footprint a.footprint ∙ none))
  reached s (behind x e) = (
    λ h. let r = (reached (m.after s x.event) e).0 h.2 in record { is_run = (h.0, h.1, r.is_run); result = r.result },
    λ h. let r = (reached (m.after s x.event) e).1 h.2 in record { is_run = (h.0, h.1, r.is_run); result = r.result },
  )
  reached s (back e) = ((reached s e).1, (reached s e).0)
  reached s (follow e f) = (
    λ h. let p = (reached s e).0 h in let q = (reached s f).0 p.is_run in record { is_run = q.is_run; result = q.result ∙ p.result },
    λ h. let p = (reached s f).1 h in let q = (reached s e).1 p.is_run in record { is_run = q.is_run; result = q.result ∙ p.result },
  )

module _ (m : Machine) (l : IsLocal m) where
  -- word-by-word swaps are exchanges of entries
  -- (legality goes both ways along them)
  pub record Bridged (s : m.State) (xs ys : List (ℕ × m.Event)) : Type 0 where
    pub legal : Legal m s ys
    pub steps : Equivalent (clash m) (entries m s xs) (entries m s ys)

  bridged_exchange : (s : m.State) (a b : ℕ × m.Event) (xs : List (ℕ × m.Event)) → Accepts m s a.1 → Accepts m (m.after s a.1) b.1 → m.conflict (m.footprint s a.1) (m.footprint (m.after s a.1) b.1) ≡ false → Equivalent (clash m) (entries m s (a ∷ b ∷ xs)) (entries m s (b ∷ a ∷ xs))
  bridged_exchange s a b xs h k none =
      let x : Exchanged m s a.1 b.1 = Runs.exchange m l s a.1 b.1 h k none in
      let swapped : Equivalent (clash m) (entries m s (a ∷ b ∷ xs)) (record { number = b.0; event = b.1; footprint = m.footprint (m.after s a.1) b.1 } ∷ record { number = a.0; event = a.1; footprint = m.footprint s a.1 } ∷ entries m (m.after (m.after s a.1) b.1) xs) = exchange _ _ _ none in
      subst (λ zs. Equivalent (clash m) (entries m s (a ∷ b ∷ xs)) zs)
      (λ i. record { number = b.0; event = b.1; footprint = sym x.first_footprint i } ∷ record { number = a.0; event = a.1; footprint = sym x.second_footprint i } ∷ entries m (sym x.result i) xs) swapped

  pub bridge : {s : m.State} {xs ys : List (ℕ × m.Event)} → Swaps m s xs ys → (Legal m s xs → Bridged s xs ys) × (Legal m s ys → Bridged s ys xs)
  bridge Swaps.same = (λ h. record { legal = h; steps = same }, λ h. record { legal = h; steps = same })
  bridge {s = s} (Swaps.exchange a b xs h k none) =
      let x : Exchanged m s a.1 b.1 = Runs.exchange m l s a.1 b.1 h k none in
      let steps = bridged_exchange s a b xs h k none in (
        λ legal. record { legal = (x.first, (x.second, subst (λ t. Legal m t xs) (sym x.result) legal.1.1)); steps = steps },
        λ legal. record { legal = (h, (k, subst (λ t. Legal m t xs) x.result legal.1.1)); steps = back steps },
      )
  bridge {s = s} (Swaps.behind x e) = (
    λ h. let r = (bridge e).0 h.1 in record { legal = (h.0, r.legal); steps = behind _ r.steps },
    λ h. let r = (bridge e).1 h.1 in record { legal = (h.0, r.legal); steps = behind _ r.steps },
  )
  bridge (Swaps.back e) = ((bridge e).1, (bridge e).0)
  bridge (Swaps.follow e f) = (
    λ h. let p = (bridge e).0 h in let q = (bridge f).0 p.legal in record { legal = q.legal; steps = follow p.steps q.steps },
    λ h. let p = (bridge f).1 h in let q = (bridge e).1 p.legal in record { legal = q.legal; steps = follow p.steps q.steps },
  )

  -- and exchanges of entries are word-by-word swaps
  pub record Unbridged (s : m.State) (xs ys : List (Entry m)) : Type 0 where
    pub is_run : IsRun m s ys
    pub swaps : Swaps m s (events m xs) (events m ys)

  unbridged_exchange : (s : m.State) (a b : Entry m) (zs : List (Entry m)) → clash m a b ≡ false → IsRun m s (a ∷ b ∷ zs) → Unbridged s (a ∷ b ∷ zs) (b ∷ a ∷ zs)
  unbridged_exchange s a b zs none h = record {
    is_run = ((reached m l s (exchange a b zs none)).0 h).is_run;
    swaps = Swaps.exchange _ _ _ h.0 h.2.0 (sym (ap₂ m.conflict h.1 h.2.1) ∙ none);
  }

  pub unbridge : (s : m.State) {xs ys : List (Entry m)} → Equivalent (clash m) xs ys → (IsRun m s xs → Unbridged s xs ys) × (IsRun m s ys → Unbridged s ys xs)
  unbridge s same = (λ h. record { is_run = h; swaps = Swaps.same }, λ h. record { is_run = h; swaps = Swaps.same })
  unbridge s (exchange a b zs none) = (unbridged_exchange s a b zs none, unbridged_exchange s b a zs (l.both_ways b.footprint a.footprint ∙ none))
  unbridge s (behind x e) = (
    λ h. let r = (unbridge (m.after s x.event) e).0 h.2 in record { is_run = (h.0, h.1, r.is_run); swaps = Swaps.behind _ r.swaps },
    λ h. let r = (unbridge (m.after s x.event) e).1 h.2 in record { is_run = (h.0, h.1, r.is_run); swaps = Swaps.behind _ r.swaps },
  )
  unbridge s (back e) = ((unbridge s e).1, (unbridge s e).0)
  unbridge s (follow e f) = (
    λ h. let p = (unbridge s e).0 h in let q = (unbridge s f).0 p.is_run in record { is_run = q.is_run; swaps = Swaps.follow p.swaps q.swaps },
    λ h. let p = (unbridge s f).1 h in let q = (unbridge s e).1 p.is_run in record { is_run = q.is_run; swaps = Swaps.follow p.swaps q.swaps },
  )

  -- the two definitions of swap-equivalence agree
  pub both_definitions : (s : m.State) (xs ys : List (ℕ × m.Event)) → Legal m s xs → Swaps m s xs ys ↔ SwapEquivalent m s xs ys
  both_definitions s xs ys h = (
    λ w. let b = (bridge w).0 h in (h, b.legal, b.steps),
    λ e. let u = (unbridge s e.2).0 (run_of_legal m s xs h) in
        subst₂ (λ us vs. Swaps m s us vs) (events-entries m s xs) (events-entries m s ys) u.swaps,
  )
