-- What exchanges keep, and how far they lead.
use Rattle.std.proofs.Common.{◌≡◌, Bool, true, false, List, [], ◌∷◌, ◌++◌, sym, refl, ap, ap₂, subst, ◌∙◌, ◌⊎◌, inl, inr, true≢false, ◌↔◌}
use Rattle.rev_causal.specs.Order.{Equivalent, Equivalent.same, Equivalent.exchange, Equivalent.behind, Equivalent.back, Equivalent.follow, Free, Loose, Has, Stands, Distinct}
use Rattle.rev_causal.proofs.Runs.{either}

module _ {A : Type 0} (conflict : A → A → Bool) where
  -- what is free of a list can go to its end
  pub to_end : (a : A) (xs : List A) → Free conflict a xs → Equivalent conflict (a ∷ xs) (xs ++ a ∷ [])
  to_end a [] free = same
  to_end a (x ∷ xs) free = follow (exchange a x xs free.0) (behind x (to_end a xs free.1))

  pub under : (front : List A) {xs ys : List A} → Equivalent conflict xs ys → Equivalent conflict (front ++ xs) (front ++ ys)
  under [] e = e
  under (x ∷ front) e = behind x (under front e)

  pub free_kept : (a : A) {xs ys : List A} → Equivalent conflict xs ys → Free conflict a xs ↔ Free conflict a ys
  free_kept a same = (λ h. h, λ h. h)
  free_kept a (exchange x y xs none) = (λ h. (h.1.0, (h.0, h.1.1)), λ h. (h.1.0, (h.0, h.1.1)))
  free_kept a (behind x e) = (λ h. (h.0, (free_kept a e).0 h.1), λ h. (h.0, (free_kept a e).1 h.1))
  free_kept a (back e) = ((free_kept a e).1, (free_kept a e).0)
  free_kept a (follow e f) = (λ h. (free_kept a f).0 ((free_kept a e).0 h), λ h. (free_kept a e).1 ((free_kept a f).1 h))

module _ {A : Type 0} (conflict : A → A → Bool) (both_ways : (a b : A) → conflict a b ≡ conflict b a) where
  pub loose_kept : (test : A → Bool) {xs ys : List A} → Equivalent conflict xs ys → Loose conflict test xs ↔ Loose conflict test ys
  loose_kept test same = (λ h. h, λ h. h)
  loose_kept test (exchange x y xs none) =
      (λ h. (λ t. (both_ways y x ∙ none, h.1.0 t), (λ t. (h.0 t).1, h.1.1)), λ h. (λ t. (none, h.1.0 t), (λ t. (h.0 t).1, h.1.1)))
  loose_kept test (behind x e) =
      (λ h. (λ t. (free_kept conflict x e).0 (h.0 t), (loose_kept test e).0 h.1), λ h. (λ t. (free_kept conflict x e).1 (h.0 t), (loose_kept test e).1 h.1))
  loose_kept test (back e) = ((loose_kept test e).1, (loose_kept test e).0)
  loose_kept test (follow e f) = (λ h. (loose_kept test f).0 ((loose_kept test e).0 h), λ h. (loose_kept test e).1 ((loose_kept test f).1 h))

  -- its only one at the end
  pub loose_end : (test : A → Bool) (xs : List A) (a : A) → ((x : A) → Has xs x → test x ≡ false) → Loose conflict test (xs ++ a ∷ [])
  loose_end test [] a none = (λ t. tt, tt)
  loose_end test (x ∷ xs) a none = (λ t. absurd (true≢false (sym t ∙ none x (inl refl))), loose_end test xs a (λ y h. none y (inr h)))

-- membership and distinctness under exchanges
module _ {A : Type 0} (conflict : A → A → Bool) where
  pub has_kept : (a : A) {xs ys : List A} → Equivalent conflict xs ys → Has xs a ↔ Has ys a
  has_kept a same = (λ h. h, λ h. h)
  has_kept a (exchange x y xs none) = (
    λ h. elim h [ inl p ↦ inr (inl p) | inr (inl q) ↦ inl q | inr (inr r) ↦ inr (inr r) ],
    λ h. elim h [ inl p ↦ inr (inl p) | inr (inl q) ↦ inl q | inr (inr r) ↦ inr (inr r) ],
  )
  has_kept a (behind x e) = (
    λ h. elim h [ inl p ↦ inl p | inr r ↦ inr ((has_kept a e).0 r) ],
    λ h. elim h [ inl p ↦ inl p | inr r ↦ inr ((has_kept a e).1 r) ],
  )
  has_kept a (back e) = ((has_kept a e).1, (has_kept a e).0)
  has_kept a (follow e f) = (λ h. (has_kept a f).0 ((has_kept a e).0 h), λ h. (has_kept a e).1 ((has_kept a f).1 h))

  pub distinct_kept : {xs ys : List A} → Equivalent conflict xs ys → Distinct xs ↔ Distinct ys
  distinct_kept same = (λ h. h, λ h. h)
  distinct_kept (exchange x y xs none) = (
    λ h. (λ k. elim k [ inl p ↦ h.0 (inl (sym p)) | inr r ↦ h.1.0 r ], (λ r. h.0 (inr r), h.1.1)),
    λ h. (λ k. elim k [ inl p ↦ h.0 (inl (sym p)) | inr r ↦ h.1.0 r ], (λ r. h.0 (inr r), h.1.1)),
  )
  distinct_kept (behind x e) =
      (λ h. (λ k. h.0 ((has_kept x e).1 k), (distinct_kept e).0 h.1), λ h. (λ k. h.0 ((has_kept x e).0 k), (distinct_kept e).1 h.1))
  distinct_kept (back e) = ((distinct_kept e).1, (distinct_kept e).0)
  distinct_kept (follow e f) = (λ h. (distinct_kept f).0 ((distinct_kept e).0 h), λ h. (distinct_kept e).1 ((distinct_kept f).1 h))

  -- two that conflict keep their order
  exchanged_order : (a b : A) → conflict a b ≡ true → (x y : A) (xs : List A) → conflict x y ≡ false → Stands a b (x ∷ y ∷ xs) → Stands a b (y ∷ x ∷ xs)
  exchanged_order a b c x y xs none h = elim h [
    | inl w ↦ elim w.1 [
      | inl p ↦ absurd (true≢false (sym c ∙ ap₂ conflict (sym w.0) (sym p) ∙ none))
      | inr r ↦ inr (inl (w.0, r))
    ]
    | inr (inl w) ↦ inl (w.0, inr w.1)
    | inr (inr r) ↦ inr (inr r)
  ]

module _ {A : Type 0} (conflict : A → A → Bool) (both_ways : (a b : A) → conflict a b ≡ conflict b a) where
  pub order_kept : (a b : A) → conflict a b ≡ true → {xs ys : List A} → Equivalent conflict xs ys → Stands a b xs ↔ Stands a b ys
  order_kept a b c same = (λ h. h, λ h. h)
  order_kept a b c (exchange x y xs none) =
      (exchanged_order conflict a b c x y xs none, exchanged_order conflict a b c y x xs (both_ways y x ∙ none))
  order_kept a b c (behind x e) = (
    λ h. elim h [ inl w ↦ inl (w.0, (has_kept conflict b e).0 w.1) | inr r ↦ inr ((order_kept a b c e).0 r) ],
    λ h. elim h [ inl w ↦ inl (w.0, (has_kept conflict b e).1 w.1) | inr r ↦ inr ((order_kept a b c e).1 r) ],
  )
  order_kept a b c (back e) = ((order_kept a b c e).1, (order_kept a b c e).0)
  order_kept a b c (follow e f) = (λ h. (order_kept a b c f).0 ((order_kept a b c e).0 h), λ h. (order_kept a b c e).1 ((order_kept a b c f).1 h))

pub stands_has : {A : Type 0} (a b : A) (xs : List A) → Stands a b xs → Has xs a × Has xs b
stands_has a b [] h = absurd h
stands_has a b (x ∷ xs) h = elim h [
  | inl w ↦ (inl w.0, inr w.1)
  | inr r ↦ let k : Has xs a × Has xs b = stands_has a b xs r in (inr k.0, inr k.1)
]

-- of two that stand in a list of distinct elements one stands first
pub one_order : {A : Type 0} (a b : A) (xs : List A) → Distinct xs → Stands a b xs → Stands b a xs → ⊥
one_order a b [] d h k = h
one_order a b (x ∷ xs) d h k = elim h [
  | inl w ↦ elim k [
    | inl v ↦ d.0 (subst (Has xs) (sym w.0) v.1)
    | inr r ↦ d.0 (subst (Has xs) (sym w.0) (stands_has b a xs r).1)
  ]
  | inr r ↦ elim k [
    | inl v ↦ d.0 (subst (Has xs) (sym v.0) (stands_has a b xs r).1)
    | inr q ↦ one_order a b xs d.1 r q
  ]
]

-- a list cut at one of its elements
pub record Cut {A : Type 0} (a : A) (xs : List A) : Type 0 where
  pub front : List A
  pub rest : List A
  pub is : xs ≡ front ++ a ∷ rest

pub cut_at : {A : Type 0} (a : A) (xs : List A) → Has xs a → Cut a xs
cut_at a [] h = absurd h
cut_at a (x ∷ xs) h = elim h [
  | inl p ↦ record { front = []; rest = xs; is = λ i. p i ∷ xs }
  | inr r ↦ let c : Cut a xs = cut_at a xs r in record { front = x ∷ c.front; rest = c.rest; is = ap (λ ys. x ∷ ys) c.is }
]

module _ {A : Type 0} where
  pub has_insert : (y : A) (front rest : List A) (a : A) → Has (front ++ y ∷ rest) a ↔ ((y ≡ a) ⊎ Has (front ++ rest) a)
  has_insert y [] rest a = (λ h. h, λ h. h)
  has_insert y (x ∷ front) rest a = (
    λ h. elim h [
      | inl p ↦ inr (inl p)
      | inr r ↦ elim ((has_insert y front rest a).0 r) [ inl p ↦ inl p | inr q ↦ inr (inr q) ]
    ],
    λ h. elim h [
      | inl p ↦ inr ((has_insert y front rest a).1 (inl p))
      | inr (inl q) ↦ inl q
      | inr (inr r) ↦ inr ((has_insert y front rest a).1 (inr r))
    ],
  )

  pub distinct_insert : (y : A) (front rest : List A) → Distinct (front ++ y ∷ rest) → Distinct (front ++ rest) × (Has (front ++ rest) y → ⊥)
  distinct_insert y [] rest d = (d.1, d.0)
  distinct_insert y (x ∷ front) rest d =
      let r : Distinct (front ++ rest) × (Has (front ++ rest) y → ⊥) = distinct_insert y front rest d.1 in (
        (λ h. d.0 ((has_insert y front rest x).1 (inr h)), r.0),
        λ h. elim h [ inl p ↦ d.0 ((has_insert y front rest x).1 (inl (sym p))) | inr q ↦ r.1 q ],
      )

  pub stands_insert : (y : A) (front rest : List A) (a b : A) → Stands a b (front ++ rest) → Stands a b (front ++ y ∷ rest)
  stands_insert y [] rest a b h = inr h
  stands_insert y (x ∷ front) rest a b h = elim h [
    | inl w ↦ inl (w.0, (has_insert y front rest b).1 (inr w.1))
    | inr r ↦ inr (stands_insert y front rest a b r)
  ]

  stands_front : (y : A) (front rest : List A) (a : A) → Has front a → Stands a y (front ++ y ∷ rest)
  stands_front y [] rest a h = absurd h
  stands_front y (x ∷ front) rest a h = elim h [
    | inl p ↦ inl (p, (has_insert y front rest y).1 (inl refl))
    | inr r ↦ inr (stands_front y front rest a r)
  ]

  has_front : (front rest : List A) (a : A) → Has front a → Has (front ++ rest) a
  has_front [] rest a h = absurd h
  has_front (x ∷ front) rest a h = elim h [ inl p ↦ inl p | inr r ↦ inr (has_front front rest a r) ]

module _ {A : Type 0} (conflict : A → A → Bool) where
  pub free_by : (a : A) (xs : List A) → ((x : A) → Has xs x → conflict a x ≡ false) → Free conflict a xs
  free_by a [] h = tt
  free_by a (x ∷ xs) h = (h x (inl refl), free_by a xs (λ y k. h y (inr k)))

  to_front : (a : A) (xs rest : List A) → Free conflict a xs → Equivalent conflict (a ∷ xs ++ rest) (xs ++ a ∷ rest)
  to_front a [] rest free = same
  to_front a (x ∷ xs) rest free = follow (exchange a x (xs ++ rest) free.0) (behind x (to_front a xs rest free.1))

  -- no two that conflict stand in the other order
  abbrev pub NoneInverted : List A → List A → Type 0
  NoneInverted xs ys = (a b : A) → conflict a b ≡ true → Stands a b xs → Stands b a ys → ⊥

  abbrev pub SameElements : List A → List A → Type 0
  SameElements xs ys = (a : A) → Has xs a ↔ Has ys a

module _ {A : Type 0} (conflict : A → A → Bool) (both_ways : (a b : A) → conflict a b ≡ conflict b a) where
  free_front : (y : A) (front rest ys : List A) → Distinct (front ++ y ∷ rest) → SameElements conflict (front ++ y ∷ rest) (y ∷ ys) → NoneInverted conflict (front ++ y ∷ rest) (y ∷ ys) → (x : A) → Has front x → conflict y x ≡ false
  free_front y front rest ys d is none x h = elim (either (conflict y x)) [
    | inl c ↦ elim ((is x).0 ((has_insert y front rest x).1 (inr (has_front front rest x h)))) [
      | inl p ↦ absurd ((distinct_insert y front rest d).1 (subst (Has (front ++ rest)) (sym p) (has_front front rest x h)))
      | inr r ↦ absurd (none x y (both_ways x y ∙ c) (stands_front y front rest x h) (inl (refl, r)))
    ]
    | inr c ↦ c
  ]

  same_rest : (y : A) (front rest ys : List A) → Distinct (front ++ y ∷ rest) → Distinct (y ∷ ys) → SameElements conflict (front ++ y ∷ rest) (y ∷ ys) → SameElements conflict (front ++ rest) ys
  same_rest y front rest ys d dy is a = (
    λ h. elim ((is a).0 ((has_insert y front rest a).1 (inr h))) [
      | inl p ↦ absurd ((distinct_insert y front rest d).1 (subst (Has (front ++ rest)) (sym p) h))
      | inr r ↦ r
    ],
    λ h. elim ((has_insert y front rest a).0 ((is a).1 (inr h))) [
      | inl p ↦ absurd (dy.0 (subst (Has ys) (sym p) h))
      | inr r ↦ r
    ],
  )

  -- the same elements, no two that conflict turned round: one leads to the other
  pub rearrange : (xs ys : List A) → Distinct xs → Distinct ys → SameElements conflict xs ys → NoneInverted conflict xs ys → Equivalent conflict xs ys
  rearrange [] [] dx dy is none = same
  rearrange (x ∷ xs) [] dx dy is none = absurd ((is x).0 (inl refl))
  rearrange xs (y ∷ ys) dx dy is none =
      let c : Cut y xs = cut_at y xs ((is y).1 (inl refl)) in
      let d : Distinct (c.front ++ y ∷ c.rest) = subst Distinct c.is dx in
      let k : SameElements conflict (c.front ++ y ∷ c.rest) (y ∷ ys) = subst (λ zs. SameElements conflict zs (y ∷ ys)) c.is is in
      let n : NoneInverted conflict (c.front ++ y ∷ c.rest) (y ∷ ys) = subst (λ zs. NoneInverted conflict zs (y ∷ ys)) c.is none in
      let free : Free conflict y c.front = free_by conflict y c.front (free_front y c.front c.rest ys d k n) in
      let rest : Equivalent conflict (c.front ++ c.rest) ys =
      rearrange (c.front ++ c.rest) ys (distinct_insert y c.front c.rest d).0 dy.1 (same_rest y c.front c.rest ys d dy k)
      (λ a b h s t. n a b h (stands_insert y c.front c.rest a b s) (inr t)) in
      subst (λ zs. Equivalent conflict zs (y ∷ ys)) (sym c.is) (follow (back (to_front conflict y c.front c.rest free)) (behind y rest))

  pub none_inverted : (xs ys : List A) → Distinct xs → Equivalent conflict xs ys → NoneInverted conflict xs ys
  none_inverted xs ys d e a b c s t = one_order a b ys ((distinct_kept conflict e).0 d) ((order_kept conflict both_ways a b c e).0 s) t
