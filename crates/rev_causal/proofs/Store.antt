-- A table of events whose reads are in its footprints is a local machine.
use Rattle.std.proofs.Common.{◌≡◌, ℕ, Bool, true, false, cond, List, [], ◌∷◌, ◌||◌, sym, refl, ap, subst, ◌∙◌, ◌⊎◌, inl, inr, true≢false}
use Rattle.std.specs.List.{list_any}
use Rattle.std.specs.Ordering.{eq_by_cmp}
use Rattle.std.specs.Cmp.{IsTotalOrder, eq_by_cmp_equiv}
use Rattle.std.specs.declared.cmp.Ordering.{Ordering}
use Rattle.std.specs.declared.option.Option.{Option}
use Rattle.std.specs.declared.option.Option.TheVariants.{None, Some}
use Rattle.std.specs.FinMap.{FinMap, get, get-insert, get-remove, same_map, IsAntisymmetric}
use Rattle.rev_causal.specs.Machine.{IsLocal, Legal, Accepts, run, footprints, NoneConflicts, Removed, Avoids, AgreeOff}
use Rattle.rev_causal.specs.Store.{Footprint, Footprint.Whole, Footprint.Cells, among, is_written, is_accessed, conflict, set_cell, set_cells, Table, machine_of, replaced, all_replaced, keys_of, WritesAre, IsLocalTable, is_whole, IsLocalEvent}
use Rattle.rev_causal.specs.Order.{Has}
use Rattle.rev_causal.specs.Laws.{ConflictIsExact}
use Rattle.std.proofs.lemmas.Map.Views.{tells_apart}
use Rattle.rev_causal.proofs.Runs
use Rattle.rev_causal.proofs.Runs.{either}

or_right : (a b : Bool) → b ≡ true → (a || b) ≡ true
or_right true b h = refl
or_right false b h = h

or_none : (a b : Bool) → (a || b) ≡ false → (a ≡ false) × (b ≡ false)
or_none true b h = absurd (true≢false h)
or_none false b h = (refl, h)

or_left : (a b : Bool) → (a || b) ≡ true → b ≡ false → a ≡ true
or_left true b h k = refl
or_left false b h k = absurd (true≢false (sym h ∙ k))

or_comm : (a b : Bool) → (a || b) ≡ (b || a)
or_comm true true = refl
or_comm true false = refl
or_comm false true = refl
or_comm false false = refl

module _ {K : Type 0} {R : K → K → Ordering} (o : IsTotalOrder R) (exact : IsAntisymmetric R) where
  alike : (a b : K) → eq_by_cmp R a b ≡ true → a ≡ b
  alike a b h = tells_apart exact a b h

  pub written_accessed : (f : Footprint K) (k : K) → is_written R f k ≡ true → is_accessed R f k ≡ true
  written_accessed Whole k h = refl
  written_accessed (Cells reads writes) k h = ap (λ b. b || among R reads k) h

  -- no element of a list passes a test that none passes
  none_among : (test : K → Bool) (ks : List K) → list_any test ks ≡ false → (k : K) → among R ks k ≡ true → test k ≡ false
  none_among test [] none k h = absurd (true≢false (sym h))
  none_among test (x ∷ ks) none k h =
      let n : (test x ≡ false) × (list_any test ks ≡ false) = or_none (test x) _ none in
      elim (either (eq_by_cmp R k x)) [
        | inl e ↦ ap test (alike k x e) ∙ n.0
        | inr e ↦ none_among test ks n.1 k (sym (ap (λ b. b || among R ks k) e) ∙ h)
      ]

  apart : (f g : Footprint K) → conflict R f g ≡ false → (k : K) → is_written R f k ≡ true → is_accessed R g k ≡ false
  apart Whole g none k h = absurd (true≢false none)
  apart (Cells r w) Whole none k h = absurd (true≢false none)
  apart (Cells r w) (Cells r' w') none k h = none_among (is_accessed R (Cells r' w')) w (or_none _ _ none).0 k h

  both_ways : (f g : Footprint K) → conflict R f g ≡ conflict R g f
  both_ways Whole Whole = refl
  both_ways Whole (Cells r w) = refl
  both_ways (Cells r w) Whole = refl
  both_ways (Cells r w) (Cells r' w') = or_comm (list_any (is_accessed R (Cells r' w')) w) (list_any (is_accessed R (Cells r w)) w')

  module _ {V : Type 0} where
    pub get-set_cell : (s : FinMap R V) (k : K) (v : Option V) (q : K) → get (set_cell R s k v) q ≡ cond (eq_by_cmp R q k) v (get s q)
    get-set_cell s k None q = get-remove o s k q
    get-set_cell s k (Some v) q = get-insert o s k v q

    not_written : (s : FinMap R V) (ws : List (K × Option V)) (k : K) → among R (keys_of ws) k ≡ false → get (set_cells R s ws) k ≡ get s k
    not_written s [] k h = refl
    not_written s (w ∷ ws) k h =
        let n : (eq_by_cmp R k w.0 ≡ false) × (among R (keys_of ws) k ≡ false) = or_none _ _ h in
        not_written (set_cell R s w.0 w.1) ws k n.1 ∙ get-set_cell s w.0 w.1 k ∙ ap (λ b. cond b w.1 (get s k)) n.0

    once_written : (s u : FinMap R V) (ws : List (K × Option V)) (k : K) → among R (keys_of ws) k ≡ true → get (set_cells R u ws) k ≡ get (set_cells R s ws) k
    once_written s u [] k h = absurd (true≢false (sym h))
    once_written s u (w ∷ ws) k h = elim (either (among R (keys_of ws) k)) [
      | inl t ↦ once_written (set_cell R s w.0 w.1) (set_cell R u w.0 w.1) ws k t
      | inr t ↦
          let here : eq_by_cmp R k w.0 ≡ true = or_left (eq_by_cmp R k w.0) (among R (keys_of ws) k) h t in
          first u w ws k t here ∙ sym (first s w ws k t here)
    ]
      where
        first : (x : FinMap R V) (w : K × Option V) (ws : List (K × Option V)) (k : K) → among R (keys_of ws) k ≡ false → eq_by_cmp R k w.0 ≡ true → get (set_cells R x (w ∷ ws)) k ≡ w.1
        first x w ws k t here = not_written (set_cell R x w.0 w.1) ws k t ∙ get-set_cell x w.0 w.1 k ∙ ap (λ b. cond b w.1 (get x k)) here

  module _ {V E F : Type 0} (t : Table K V E F R) (l : IsLocalTable t) where
    keys_written : (f : Footprint K) (ks : List K) (k : K) → WritesAre f ks → is_written R f k ≡ false → among R ks k ≡ false
    keys_written Whole ks k w h = absurd (true≢false h)
    keys_written (Cells reads writes) ks k w h = ap (λ zs. among R zs k) w ∙ h

    -- what is written of a footprint is a key of the effect, or the event is whole
    written_key : (f : Footprint K) (ks : List K) (k : K) → WritesAre f ks → is_written R f k ≡ true → (f ≡ Whole) ⊎ (among R ks k ≡ true)
    written_key Whole ks k w h = inl refl
    written_key (Cells reads writes) ks k w h = inr (ap (λ zs. among R zs k) w ∙ h)

    pub local_of : IsLocal (machine_of t)
    local_of = record {
      same_state = λ s u h. same_map o exact u s h;
      accessed = written_accessed;
      apart = apart;
      both_ways = both_ways;
      kept = λ s e acc k h. not_written s (t.effect s e) k (keys_written (t.footprint s e) _ k (l.writes s e acc) h);
      accepted = l.accepted;
      same_footprint = l.same_footprint;
      written = λ s u e acc on k h. elim (written_key (t.footprint s e) _ k (l.writes s e acc) h) [
        | inl w ↦
            let alike_all : u ≡ s = same_map o exact u s (λ q. on q (ap (λ f. is_accessed R f q) w)) in
            ap (λ x. get (set_cells R x (t.effect x e)) k) alike_all
        | inr w ↦ ap (λ ws. get (set_cells R u ws) k) (l.same_effect s u e acc on) ∙ once_written s u (t.effect s e) k w
      ];
    }

  pub among_has : (ks : List K) (k : K) → Has ks k → among R ks k ≡ true
  among_has [] k h = absurd h
  among_has (x ∷ ks) k h = elim h [
    | inl p ↦ ap (λ b. b || among R ks k) (ap (eq_by_cmp R k) p ∙ (eq_by_cmp_equiv o).refl k)
    | inr r ↦ or_right (eq_by_cmp R k x) (among R ks k) (among_has ks k r)
  ]

  -- the cells that a footprint lists are accessed
  pub of_write : (reads writes : List K) (k : K) → Has writes k → is_accessed R (Cells reads writes) k ≡ true
  of_write reads writes k h = ap (λ b. b || among R reads k) (among_has writes k h)

  pub of_read : (reads writes : List K) (k : K) → Has reads k → is_accessed R (Cells reads writes) k ≡ true
  of_read reads writes k h = or_right (among R writes k) (among R reads k) (among_has reads k h)

  module _ {V : Type 0} where
    -- what was written and is put back has its value in s
    put_back_at : (s u : FinMap R V) (ws : List (K × Option V)) (q : K) → among R (keys_of ws) q ≡ true → get (set_cells R u (replaced s ws)) q ≡ get s q
    put_back_at s u [] q h = absurd (true≢false (sym h))
    put_back_at s u (w ∷ ws) q h = elim (either (among R (keys_of ws) q)) [
      | inl t ↦ put_back_at s (set_cell R u w.0 (get s w.0)) ws q t
      | inr t ↦
          let here : eq_by_cmp R q w.0 ≡ true = or_left (eq_by_cmp R q w.0) (among R (keys_of ws) q) h t in
          not_written (set_cell R u w.0 (get s w.0)) (replaced s ws) q (ap (λ ks. among R ks q) (same_keys s ws) ∙ t)
          ∙ get-set_cell u w.0 (get s w.0) q ∙ ap (λ b. cond b (get s w.0) (get u q)) here ∙ ap (get s) (sym (alike q w.0 here))
    ]
      where
        same_keys : (s : FinMap R V) (ws : List (K × Option V)) → keys_of (replaced s ws) ≡ keys_of ws
        same_keys s [] = refl
        same_keys s (w ∷ ws) = ap (λ ks. w.0 ∷ ks) (same_keys s ws)

    keys_replaced : (s : FinMap R V) (ws : List (K × Option V)) → keys_of (replaced s ws) ≡ keys_of ws
    keys_replaced s [] = refl
    keys_replaced s (w ∷ ws) = ap (λ ks. w.0 ∷ ks) (keys_replaced s ws)

    -- a map that is s where something was written, and u elsewhere
    pub put_back_is : (s u t : FinMap R V) (ws : List (K × Option V)) → ((q : K) → among R (keys_of ws) q ≡ true → get t q ≡ get s q) → ((q : K) → among R (keys_of ws) q ≡ false → get t q ≡ get u q) → t ≡ set_cells R u (replaced s ws)
    put_back_is s u t ws on off = same_map o exact t (set_cells R u (replaced s ws)) (λ q. elim (either (among R (keys_of ws) q)) [
      | inl h ↦ on q h ∙ sym (put_back_at s u ws q h)
      | inr h ↦ off q h ∙ sym (not_written u (replaced s ws) q (ap (λ ks. among R ks q) (keys_replaced s ws) ∙ h))
    ])

    -- writes and then what they replaced: nothing happened
    pub put_back_next : (s : FinMap R V) (ws : List (K × Option V)) → set_cells R (set_cells R s ws) (replaced s ws) ≡ s
    put_back_next s ws = sym (put_back_is s (set_cells R s ws) s ws (λ q h. refl) (λ q h. sym (not_written s ws q h)))

  module _ {V E F : Type 0} (t : Table K V E F R) (l : IsLocalTable t) where
    whole_is_last : (es : List (ℕ × E)) (s : FinMap R V) → NoneConflicts (machine_of t) Whole (footprints (machine_of t) s es) → es ≡ []
    whole_is_last [] s none = refl
    whole_is_last (e ∷ es) s none = absurd (true≢false none.0)

    -- undo of an event that nothing later conflicts with: what it replaced is put back, and that is all
    undone_by_cases : (f : Footprint K) (s : FinMap R V) (n : E) (es : List (ℕ × E)) → t.footprint s n ≡ f → Accepts (machine_of t) s n → Legal (machine_of t) (set_cells R s (t.effect s n)) es → NoneConflicts (machine_of t) f (footprints (machine_of t) (set_cells R s (t.effect s n)) es) →
        run (machine_of t) s es ≡ set_cells R (run (machine_of t) (set_cells R s (t.effect s n)) es) (replaced s (t.effect s n))
    undone_by_cases Whole s n es is acc legal none =
        let last : es ≡ [] = whole_is_last es (set_cells R s (t.effect s n)) none in
        ap (run (machine_of t) s) last ∙ sym (put_back_next s (t.effect s n))
        ∙ sym (ap (λ ds. set_cells R (run (machine_of t) (set_cells R s (t.effect s n)) ds) (replaced s (t.effect s n))) last)
    undone_by_cases (Cells reads writes) s n es is acc legal none =
        let r : Removed (machine_of t) s n es = Runs.removal (machine_of t) (local_of t l) s n es acc legal (subst (λ g. NoneConflicts (machine_of t) g (footprints (machine_of t) (set_cells R s (t.effect s n)) es)) (sym is) none) in
        let keys : keys_of (t.effect s n) ≡ writes = subst (λ g. WritesAre g (keys_of (t.effect s n))) is (l.writes s n acc) in
        put_back_is s (run (machine_of t) (set_cells R s (t.effect s n)) es) (run (machine_of t) s es) (t.effect s n)
        (λ q h. r.put_back q (ap (λ g. is_written R g q) is ∙ ap (λ ks. among R ks q) (sym keys) ∙ h))
        (λ q h. r.others q (ap (λ g. is_written R g q) is ∙ ap (λ ks. among R ks q) (sym keys) ∙ h))

    pub undone_state : (s : FinMap R V) (n : E) (es : List (ℕ × E)) → Accepts (machine_of t) s n → Legal (machine_of t) (set_cells R s (t.effect s n)) es → NoneConflicts (machine_of t) (t.footprint s n) (footprints (machine_of t) (set_cells R s (t.effect s n)) es) →
        run (machine_of t) s es ≡ set_cells R (run (machine_of t) (set_cells R s (t.effect s n)) es) (replaced s (t.effect s n))
    undone_state s n es acc legal none = undone_by_cases (t.footprint s n) s n es refl acc legal none

    -- events that avoid what two states differ in replace the same
    pub same_values : (s u : FinMap R V) (ws : List (K × Option V)) → ((q : K) → among R (keys_of ws) q ≡ true → get u q ≡ get s q) → replaced u ws ≡ replaced s ws
    same_values s u [] on = refl
    same_values s u (w ∷ ws) on = λ i. (w.0, on w.0 (among_has (keys_of (w ∷ ws)) w.0 (inl refl)) i) ∷ same_values s u ws (λ q h. on q (or_right (eq_by_cmp R q w.0) (among R (keys_of ws) q) h)) i

    pub keys_accessed : (f : Footprint K) (ks : List K) (k : K) → WritesAre f ks → among R ks k ≡ true → is_accessed R f k ≡ true
    keys_accessed Whole ks k w h = refl
    keys_accessed (Cells reads writes) ks k w h = ap (λ b. b || among R reads k) (ap (λ zs. among R zs k) (sym w) ∙ h)

    pub replaced_kept : (test : K → Bool) (s u : FinMap R V) (es : List (ℕ × E)) → Legal (machine_of t) s es → Avoids (machine_of t) test (footprints (machine_of t) s es) → AgreeOff (machine_of t) test s u → all_replaced t u es ≡ all_replaced t s es
    replaced_kept test s u [] legal avoids off = refl
    replaced_kept test s u (e ∷ es) legal avoids off =
        let on = Runs.agree_on_accessed (machine_of t) (local_of t l) test (t.footprint s e.1) avoids.0 s u off in
        let same : t.effect u e.1 ≡ t.effect s e.1 = l.same_effect s u e.1 legal.0 on in
        let values : replaced u (t.effect u e.1) ≡ replaced s (t.effect s e.1) =
        ap (replaced u) same ∙ same_values s u (t.effect s e.1) (λ q h. on q (keys_accessed (t.footprint s e.1) _ q (l.writes s e.1 legal.0) h)) in
        let rest : all_replaced t (set_cells R u (t.effect u e.1)) es ≡ all_replaced t (set_cells R s (t.effect s e.1)) es =
        replaced_kept test (set_cells R s (t.effect s e.1)) (set_cells R u (t.effect u e.1)) es legal.1 avoids.1 (Runs.off_after (machine_of t) (local_of t l) test s u e.1 legal.0 avoids.0 off) in
        λ i. values i ∷ rest i

  -- states that agree on what a whole event accesses are one state
  pub whole_agrees : {V : Type 0} (s u : FinMap R V) → ((k : K) → is_accessed R Whole k ≡ true → get u k ≡ get s k) → u ≡ s
  whole_agrees s u on = same_map o exact u s (λ q. on q refl)

  -- Events handled one by one make a local table: where one is whole, states that agree on its cells are one state.
  module _ {V E F : Type 0} (t : Table K V E F R) where
    -- what is accessed by a whole event is all
    one_state : (f : Footprint K) → is_whole f ≡ true → (s u : FinMap R V) → ((k : K) → is_accessed R f k ≡ true → get u k ≡ get s k) → u ≡ s
    one_state Whole h s u on = whole_agrees s u on
    one_state (Cells reads writes) h s u on = absurd (true≢false (sym h))

    whole_writes : (f : Footprint K) (ks : List K) → is_whole f ≡ true → WritesAre f ks
    whole_writes Whole ks h = tt
    whole_writes (Cells reads writes) ks h = absurd (true≢false (sym h))

    pub table_of_events : ((e : E) → IsLocalEvent t e) → IsLocalTable t
    table_of_events each = record {
      accepted = λ s u e acc on. elim (either (is_whole (t.footprint s e))) [
        | inl w ↦ ap (λ x. t.refusal x e) (one_state (t.footprint s e) w s u on) ∙ acc
        | inr c ↦ (each e).accepted s u acc c on
      ];
      same_effect = λ s u e acc on. elim (either (is_whole (t.footprint s e))) [
        | inl w ↦ ap (λ x. t.effect x e) (one_state (t.footprint s e) w s u on)
        | inr c ↦ (each e).same_effect s u acc c on
      ];
      same_footprint = λ s u e acc on. elim (either (is_whole (t.footprint s e))) [
        | inl w ↦ ap (λ x. t.footprint x e) (one_state (t.footprint s e) w s u on)
        | inr c ↦ (each e).same_footprint s u acc c on
      ];
      writes = λ s e acc. elim (either (is_whole (t.footprint s e))) [
        | inl w ↦ whole_writes (t.footprint s e) (keys_of (t.effect s e)) w
        | inr c ↦ (each e).writes s acc c
      ];
    }

    -- an event that is whole in every state owes nothing
    pub whole_event : (e : E) → ((s : FinMap R V) → is_whole (t.footprint s e) ≡ true) → IsLocalEvent t e
    whole_event e whole = record {
      accepted = λ s u acc c on. absurd (true≢false (sym (whole s) ∙ c));
      same_effect = λ s u acc c on. absurd (true≢false (sym (whole s) ∙ c));
      same_footprint = λ s u acc c on. absurd (true≢false (sym (whole s) ∙ c));
      writes = λ s acc c. absurd (true≢false (sym (whole s) ∙ c));
    }

  -- what a list holds by its test it holds
  any_has : (test : K → Bool) (ks : List K) → list_any test ks ≡ true → (k : K) × (among R ks k ≡ true) × (test k ≡ true)
  any_has test [] h = absurd (true≢false (sym h))
  any_has test (x ∷ ks) h = elim (either (test x)) [
    | inl p ↦ (x, ap (λ b. b || among R ks x) ((eq_by_cmp_equiv o).refl x), p)
    | inr f ↦
        let r : (k : K) × (among R ks k ≡ true) × (test k ≡ true) = any_has test ks (sym (ap (λ b. b || list_any test ks) f) ∙ h) in
        (r.0, or_right (eq_by_cmp R r.0 x) (among R ks r.0) r.1, r.2)
  ]

  has_any : (test : K → Bool) (ks : List K) (k : K) → among R ks k ≡ true → test k ≡ true → list_any test ks ≡ true
  has_any test [] k h p = absurd (true≢false (sym h))
  has_any test (x ∷ ks) k h p = elim (either (eq_by_cmp R k x)) [
    | inl e ↦ ap (λ b. b || list_any test ks) (ap test (sym (alike k x e)) ∙ p)
    | inr e ↦ or_right (test x) (list_any test ks) (has_any test ks k (sym (ap (λ b. b || among R ks k) e) ∙ h) p)
  ]

  -- what it is for one to write a cell that the other accesses
  abbrev Shares : Footprint K → Footprint K → Type 0
  Shares f g = (k : K) × (is_written R f k ≡ true) × (is_accessed R g k ≡ true)

  pub sharing_conflicts : (f g : Footprint K) → Shares f g → conflict R f g ≡ true
  sharing_conflicts Whole g h = refl
  sharing_conflicts (Cells r w) Whole h = refl
  sharing_conflicts (Cells r w) (Cells r' w') h = ap (λ b. b || list_any (is_accessed R (Cells r w)) w') (has_any (is_accessed R (Cells r' w')) w h.0 h.1 h.2)

  conflict_parts : (f g : Footprint K) → conflict R f g ≡ true → (is_whole f ≡ true) ⊎ (is_whole g ≡ true) ⊎ Shares f g ⊎ ((k : K) × (is_accessed R f k ≡ true) × (is_written R g k ≡ true))
  conflict_parts Whole g h = inl refl
  conflict_parts (Cells r w) Whole h = inr (inl refl)
  conflict_parts (Cells r w) (Cells r' w') h = elim (either (list_any (is_accessed R (Cells r' w')) w)) [
    | inl p ↦ inr (inr (inl (any_has (is_accessed R (Cells r' w')) w p)))
    | inr f ↦
        let k : (k : K) × (among R w' k ≡ true) × (is_accessed R (Cells r w) k ≡ true) = any_has (is_accessed R (Cells r w)) w' (sym (ap (λ b. b || list_any (is_accessed R (Cells r w)) w') f) ∙ h) in
        inr (inr (inr (k.0, k.2, k.1)))
  ]

  whole_conflicts : (f g : Footprint K) → is_whole f ≡ true → conflict R f g ≡ true
  whole_conflicts Whole g h = refl
  whole_conflicts (Cells r w) g h = absurd (true≢false (sym h))

  pub conflict_is_exact : ConflictIsExact R
  conflict_is_exact f g = (
    conflict_parts f g,
    λ h. elim h [
      | inl p ↦ whole_conflicts f g p
      | inr (inl p) ↦ both_ways f g ∙ whole_conflicts g f p
      | inr (inr (inl p)) ↦ sharing_conflicts f g p
      | inr (inr (inr p)) ↦ both_ways f g ∙ sharing_conflicts g f (p.0, p.2, p.1)
    ],
  )
