-- The nearest that depends, and the cone.
use Rattle.std.proofs.Common.{◌≡◌, Bool, true, false, cond, List, [], ◌∷◌, ◌++◌, ◌||◌, sym, refl, ap, subst, ◌∙◌, ◌⊎◌, inl, inr, true≢false, ◌↔◌}
use Rattle.std.specs.declared.option.Option.{Option}
use Rattle.std.specs.declared.option.Option.TheVariants.{None, Some}
use Rattle.rev_causal.specs.Machine.{Machine, IsLocal, AgreeOff}
use Rattle.rev_causal.specs.Order.{Free, nearest, any_conflict, cone, outside, Has, Stands, Distinct, InCone, InCone.itself, InCone.depends}
use Rattle.rev_causal.specs.Entries.{Entry, IsRun, clash}
use Rattle.rev_causal.proofs.Runs
use Rattle.rev_causal.proofs.Runs.{either}
use Rattle.rev_causal.proofs.Order.{stands_has}

or_right : (a b : Bool) → b ≡ true → (a || b) ≡ true
or_right true b h = refl
or_right false b h = h

or_cases : (a b : Bool) → (a || b) ≡ true → (a ≡ true) ⊎ (b ≡ true)
or_cases true b h = inl refl
or_cases false b h = inr h

or_none : (a b : Bool) → (a || b) ≡ false → (a ≡ false) × (b ≡ false)
or_none true b h = absurd (true≢false h)
or_none false b h = (refl, h)

module _ {A : Type 0} (conflict : A → A → Bool) where
  -- what nearest answers
  pub record IsNearest (a : A) (xs : List A) (x : A) : Type 0 where
    pub front : List A
    pub rest : List A
    pub is : xs ≡ front ++ x ∷ rest
    pub none_nearer : Free conflict a front
    pub conflicts : conflict a x ≡ true

  abbrev pub Nearest : A → List A → Option A → Type 0
  Nearest a xs None = Free conflict a xs
  Nearest a xs (Some x) = IsNearest a xs x

  nearer : (a x : A) (xs : List A) → conflict a x ≡ false → (o : Option A) → Nearest a xs o → Nearest a (x ∷ xs) o
  nearer a x xs none None n = (none, n)
  nearer a x xs none (Some y) n = record { front = x ∷ n.front; rest = n.rest; is = ap (λ ys. x ∷ ys) n.is; none_nearer = (none, n.none_nearer); conflicts = n.conflicts }

  pub nearest_is : (a : A) (xs : List A) → Nearest a xs (nearest conflict a xs)
  nearest_is a [] = tt
  nearest_is a (x ∷ xs) = elim (either (conflict a x)) [
    | inl c ↦ subst (λ b. Nearest a (x ∷ xs) (cond b (Some x) (nearest conflict a xs))) (sym c) (record { front = []; rest = xs; is = refl; none_nearer = tt; conflicts = c })
    | inr c ↦ subst (λ b. Nearest a (x ∷ xs) (cond b (Some x) (nearest conflict a xs))) (sym c) (nearer a x xs c (nearest conflict a xs) (nearest_is a xs))
  ]

  any_of : (cs : List A) (x c : A) → Has cs c → conflict c x ≡ true → any_conflict conflict cs x ≡ true
  any_of [] x c h k = absurd h
  any_of (d ∷ cs) x c h k = elim h [
    | inl p ↦ ap (λ b. b || any_conflict conflict cs x) (ap (λ e. conflict e x) p ∙ k)
    | inr r ↦ or_right (conflict d x) _ (any_of cs x c r k)
  ]

  some_of : (cs : List A) (x : A) → any_conflict conflict cs x ≡ true → (c : A) × Has cs c × (conflict c x ≡ true)
  some_of [] x h = absurd (true≢false (sym h))
  some_of (d ∷ cs) x h = elim (or_cases (conflict d x) _ h) [
    | inl p ↦ (d, inl refl, p)
    | inr r ↦ let k : (c : A) × Has cs c × (conflict c x ≡ true) = some_of cs x r in (k.0, inr k.1, k.2)
  ]

  -- the two ways of a cone at one element
  pub cone_in : (cs : List A) (x : A) (xs : List A) → any_conflict conflict cs x ≡ true → cone conflict cs (x ∷ xs) ≡ x ∷ cone conflict (x ∷ cs) xs
  cone_in cs x xs h = ap (λ b. cond b (x ∷ cone conflict (x ∷ cs) xs) (cone conflict cs xs)) h

  pub cone_out : (cs : List A) (x : A) (xs : List A) → any_conflict conflict cs x ≡ false → cone conflict cs (x ∷ xs) ≡ cone conflict cs xs
  cone_out cs x xs h = ap (λ b. cond b (x ∷ cone conflict (x ∷ cs) xs) (cone conflict cs xs)) h

  pub cone_within : (cs xs : List A) (a : A) → Has (cone conflict cs xs) a → Has xs a
  cone_within cs [] a h = h
  cone_within cs (x ∷ xs) a h = elim (either (any_conflict conflict cs x)) [
    | inl c ↦ elim (subst (λ ys. Has ys a) (cone_in cs x xs c) h) [ inl p ↦ inl p | inr r ↦ inr (cone_within (x ∷ cs) xs a r) ]
    | inr c ↦ inr (cone_within cs xs a (subst (λ ys. Has ys a) (cone_out cs x xs c) h))
  ]

  -- what conflicts with one of cs is in their cone
  cone_first : (cs xs : List A) (a b : A) → Has cs a → Has xs b → conflict a b ≡ true → Has (cone conflict cs xs) b
  cone_first cs [] a b h k c = k
  cone_first cs (x ∷ xs) a b h k c = elim (either (any_conflict conflict cs x)) [
    | inl i ↦ subst (λ ys. Has ys b) (sym (cone_in cs x xs i)) (elim k [ inl p ↦ inl p | inr r ↦ inr (cone_first (x ∷ cs) xs a b (inr h) r c) ])
    | inr o ↦ subst (λ ys. Has ys b) (sym (cone_out cs x xs o)) (elim k [
      | inl p ↦ absurd (true≢false (sym (any_of cs x a h (ap (conflict a) p ∙ c)) ∙ o))
      | inr r ↦ cone_first cs xs a b h r c
    ])
  ]

  cone_closed : (cs xs : List A) (a b : A) → Distinct xs → Has (cone conflict cs xs) a → Stands a b xs → conflict a b ≡ true → Has (cone conflict cs xs) b
  cone_closed cs [] a b d h s c = h
  cone_closed cs (x ∷ xs) a b d h s c = elim (either (any_conflict conflict cs x)) [
    | inl i ↦ subst (λ ys. Has ys b) (sym (cone_in cs x xs i)) (inr (elim s [
      | inl w ↦ cone_first (x ∷ cs) xs a b (inl w.0) w.1 c
      | inr r ↦ elim (subst (λ ys. Has ys a) (cone_in cs x xs i) h) [
        | inl p ↦ cone_first (x ∷ cs) xs a b (inl p) (stands_has a b xs r).1 c
        | inr q ↦ cone_closed (x ∷ cs) xs a b d.1 q r c
      ]
    ]))
    | inr o ↦ subst (λ ys. Has ys b) (sym (cone_out cs x xs o)) (elim s [
      | inl w ↦ absurd (d.0 (subst (Has xs) (sym w.0) (cone_within cs xs a (subst (λ ys. Has ys a) (cone_out cs x xs o) h))))
      | inr r ↦ cone_closed cs xs a b d.1 (subst (λ ys. Has ys a) (cone_out cs x xs o) h) r c
    ])
  ]

  -- whatever holds of cs and goes along conflicts to later ones holds of their cone
  cone_least : (P : A → Type 0) (cs xs : List A) → ((c : A) → Has cs c → P c) → ((c x : A) → Has cs c → Has xs x → conflict c x ≡ true → P c → P x) → ((a b : A) → Stands a b xs → conflict a b ≡ true → P a → P b) → (x : A) → Has (cone conflict cs xs) x → P x
  cone_least P cs [] all from along x h = absurd h
  cone_least P cs (y ∷ ys) all from along x h = elim (either (any_conflict conflict cs y)) [
    | inl i ↦
        let w : (c : A) × Has cs c × (conflict c y ≡ true) = some_of cs y i in
        let here : P y = from w.0 y w.1 (inl refl) w.2 (all w.0 w.1) in
        elim (subst (λ zs. Has zs x) (cone_in cs y ys i) h) [
          | inl p ↦ subst P p here
          | inr r ↦ cone_least P (y ∷ cs) ys
              (λ c k. elim k [ inl p ↦ subst P p here | inr q ↦ all c q ])
              (λ c z k t e g. elim k [ inl p ↦ along c z (inl (p, t)) e g | inr q ↦ from c z q (inr t) e g ])
              (λ a b s e g. along a b (inr s) e g) x r
        ]
    | inr o ↦ cone_least P cs ys all (λ c z k t e g. from c z k (inr t) e g) (λ a b s e g. along a b (inr s) e g) x
        (subst (λ zs. Has zs x) (cone_out cs y ys o) h)
  ]

  -- the computed cone of the first of a list is the least set
  pub cone_is : (n : A) (xs : List A) → Distinct (n ∷ xs) → (x : A) → Has (n ∷ cone conflict (n ∷ []) xs) x ↔ InCone conflict (n ∷ xs) n x
  cone_is n xs d x = (to x, from x)
    where
      to : (x : A) → Has (n ∷ cone conflict (n ∷ []) xs) x → InCone conflict (n ∷ xs) n x
      to x h = elim h [
        | inl p ↦ subst (InCone conflict (n ∷ xs) n) p itself
        | inr r ↦ cone_least (InCone conflict (n ∷ xs) n) (n ∷ []) xs
            (λ c k. elim k [ inl p ↦ subst (InCone conflict (n ∷ xs) n) p itself | inr q ↦ absurd q ])
            (λ c y k t e g. elim k [ inl p ↦ depends c y g (inl (p, t)) e | inr q ↦ absurd q ])
            (λ a b s e g. depends a b g (inr s) e) x r
      ]

      from : (x : A) → InCone conflict (n ∷ xs) n x → Has (n ∷ cone conflict (n ∷ []) xs) x
      from x itself = inl refl
      from x (depends a b g s e) = inr (elim s [
        | inl w ↦ cone_first (n ∷ []) xs a b (inl w.0) w.1 e
        | inr r ↦ elim (from a g) [
          | inl p ↦ cone_first (n ∷ []) xs a b (inl p) (stands_has a b xs r).1 e
          | inr q ↦ cone_closed (n ∷ []) xs a b d.1 q r e
        ]
      ])

-- the rest without the cone is a run
module _ (m : Machine) (l : IsLocal m) where
  abbrev written_by : List (Entry m) → m.Cell → Bool
  written_by [] k = false
  written_by (c ∷ cs) k = m.writes c.footprint k || written_by cs k

  avoided : (cs : List (Entry m)) (x : Entry m) → any_conflict (clash m) cs x ≡ false → (k : m.Cell) → written_by cs k ≡ true → m.accesses x.footprint k ≡ false
  avoided [] x none k h = absurd (true≢false (sym h))
  avoided (c ∷ cs) x none k h =
      let n : (clash m c x ≡ false) × (any_conflict (clash m) cs x ≡ false) = or_none (clash m c x) _ none in
      elim (or_cases (m.writes c.footprint k) _ h) [
        | inl w ↦ l.apart c.footprint x.footprint n.0 k w
        | inr r ↦ avoided cs x n.1 k r
      ]

  pub outside_run : (cs : List (Entry m)) (s t : m.State) (zs : List (Entry m)) → IsRun m s zs → AgreeOff m (written_by cs) s t → IsRun m t (outside (clash m) cs zs)
  outside_run cs s t [] h off = tt
  outside_run cs s t (z ∷ zs) h off = elim (either (any_conflict (clash m) cs z)) [
    | inl i ↦ subst (λ b. IsRun m t (cond b (outside (clash m) (z ∷ cs) zs) (z ∷ outside (clash m) cs zs))) (sym i)
        (outside_run (z ∷ cs) (m.after s z.event) t zs h.2 (λ k e.
        let n : (m.writes z.footprint k ≡ false) × (written_by cs k ≡ false) = or_none (m.writes z.footprint k) _ e in
        off k n.1 ∙ sym (l.kept s z.event h.0 k (ap (λ f. m.writes f k) (sym h.1) ∙ n.0))))
    | inr o ↦
        let avoids : (k : m.Cell) → written_by cs k ≡ true → m.accesses (m.footprint s z.event) k ≡ false = λ k w. ap (λ f. m.accesses f k) (sym h.1) ∙ avoided cs z o k w in
        let on = Runs.agree_on_accessed m l (written_by cs) (m.footprint s z.event) avoids s t off in
        subst (λ b. IsRun m t (cond b (outside (clash m) (z ∷ cs) zs) (z ∷ outside (clash m) cs zs))) (sym o) (
          l.accepted s t z.event h.0 on,
          h.1 ∙ sym (l.same_footprint s t z.event h.0 on),
          outside_run cs (m.after s z.event) (m.after t z.event) zs h.2 (Runs.off_after m l (written_by cs) s t z.event h.0 avoids off),
        )
  ]

  -- taking out an event with its cone
  pub cone_removed : (s : m.State) (z : Entry m) (zs : List (Entry m)) → IsRun m s (z ∷ zs) → IsRun m s (outside (clash m) (z ∷ []) zs)
  cone_removed s z zs h = outside_run (z ∷ []) (m.after s z.event) s zs h.2 (λ k e.
      sym (l.kept s z.event h.0 k (ap (λ f. m.writes f k) (sym h.1) ∙ (or_none (m.writes z.footprint k) _ e).0)))

  -- the same behind what stands before it
  pub cone_cut : (s : m.State) (front : List (Entry m)) (z : Entry m) (rest : List (Entry m)) → IsRun m s (front ++ z ∷ rest) → IsRun m s (front ++ outside (clash m) (z ∷ []) rest)
  cone_cut s [] z rest h = cone_removed s z rest h
  cone_cut s (x ∷ front) z rest h = (h.0, h.1, cone_cut (m.after s x.event) front z rest h.2)
