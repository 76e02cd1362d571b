-- Footprints by places conflict where the same footprints by cells do.
use Rattle.std.proofs.Common.{◌≡◌, ℕ, ◌<◌, ◌≤◌, Bool, true, false, ◌&&◌, ◌||◌, cond, List, [], ◌∷◌, ◌++◌, Option, None, Some, option_map, Contains, length, get_or, slice_get, refl, sym, ap, ap₂, subst, ◌∙◌, inl, inr, true≢false, eq-eqb, ltb-true, ltb-false, ne_eqb, nat_eq, arith, zero, suc}
use Rattle.std.specs.Prelude.{nat_lt}
use Rattle.std.specs.Cmp.{Equal-is, eq_by_cmp_equiv, unsigned_tied}
use Rattle.std.specs.FinSet as finset
use Rattle.std.specs.List.{IsDistinct, cons_option, list_any}
use Rattle.std.specs.Ordering.{eq_by_cmp, nat_cmp}
use Rattle.std.proofs.lemmas.Cmp.{nat_cmp_total}
use Rattle.std.proofs.lemmas.Map.Keys.{apart_from_distinct}
use Rattle.std.proofs.lemmas.Option.{get_or_from_slice_get, slice_get_within}
use Rattle.rev_accesses.specs.Closing.{conflicts_before, conflicts_with_any, cone_behind}
use Rattle.rev_accesses.specs.Value.{Prints}
use Rattle.rev_causal.specs.AccessLists.{lists_read, lists_write, numbers_by}
use Rattle.rev_causal.specs.Chosen.{chosen, under}
use Rattle.rev_causal.specs.History.{event_at}
use Rattle.rev_causal.specs.KeptHistory.{nearest_in}
use Rattle.rev_causal.specs.Store.{Footprint, Footprint.Whole, Footprint.Cells, among, conflict, is_accessed, is_whole}
use Rattle.rev_causal.proofs.Runs.{either}
use Rattle.rev_cells.specs.declared.cell.Cell.{Cell}
use Rattle.rev_cells.specs.Keys.{cell_cmp}
use Rattle.rev_cells.specs.Places.{AreWithin, cells_at}
use Rattle.rev_cells.proofs.EntryLemmas.{cells_exact, cells_total}
use Rattle.rev_cells.proofs.PlacesLemmas.{contains_at, some_within}
use Rattle.rev_footprint.specs.Value.{FootprintValue, print_of}
use Rattle.rev_history.proofs.Listed.{print_cells}
use Rattle.rev_history.specs.Named.{AreCellsAt, AreNamed, ArePaired, CellPrints, IsNamed}
use Rattle.rev_order.specs.Overtaken.{first_inverted_of, first_where, is_inverted, overtakes}
use Rattle.rev_order.specs.Pairs.{inverted_pair, pair_of, partner_of, with_partner}

-- A CONFLICT ASKS ONLY WHICH CELLS ARE READ
any_alike : (p q : Cell → Bool) (cs : List Cell) → ((c : Cell) → p c ≡ q c) → list_any p cs ≡ list_any q cs
any_alike p q [] same = refl
any_alike p q (c ∷ cs) same = ap₂ (λ a b. a || b) (same c) (any_alike p q cs same)

reads_alike : (r s w : List Cell) → ((c : Cell) → among cell_cmp r c ≡ among cell_cmp s c) → (g : Footprint Cell) → conflict cell_cmp (Cells r w) g ≡ conflict cell_cmp (Cells s w) g
reads_alike r s w same Whole = refl
reads_alike r s w same (Cells reads writes) =
    ap (λ b. list_any (is_accessed cell_cmp (Cells reads writes)) w || b)
    (any_alike (is_accessed cell_cmp (Cells r w)) (is_accessed cell_cmp (Cells s w)) writes (λ c. ap (λ b. among cell_cmp w c || b) (same c)))

nearest_alike : (n : ℕ) (f h : Footprint Cell) (ps : CellPrints) → ((g : Footprint Cell) → conflict cell_cmp f g ≡ conflict cell_cmp h g) → nearest_in cell_cmp n f ps ≡ nearest_in cell_cmp n h ps
nearest_alike n f h [] same = refl
nearest_alike n f h (p ∷ ps) same = ap₂ (λ b o. cond (nat_lt n p.0) (cond b (Some p.0) o) o) (same p.1) (nearest_alike n f h ps same)

-- the nearest of a footprint that is not whole, whose cells are listed in some order
pub nearest_listed : (n : ℕ) (f : FootprintValue) (reads writes : List Cell) (ps : CellPrints) → f.whole ≡ false → finset.from_list reads ≡ f.reads → writes ≡ f.writes
    → nearest_in cell_cmp n (Cells reads writes) ps ≡ nearest_in cell_cmp n (print_of f) ps
nearest_listed n f reads writes ps part read written =
    nearest_alike n (Cells reads writes) (Cells (finset.items f.reads) writes) ps
    (reads_alike reads (finset.items f.reads) writes
    (λ c. sym (finset.contains-from_list cells_total reads c) ∙ ap (λ (s : finset.FinSet cell_cmp). finset.contains s c) read ∙ finset.contains-items f.reads c))
    ∙ ap (λ (ws : List Cell). nearest_in cell_cmp n (Cells (finset.items f.reads) ws) ps) written
    ∙ ap (λ g. nearest_in cell_cmp n g ps) (sym (print_cells f part))

-- UNDER ONE NUMBER
-- what stands under a number, by places and by cells
abbrev pub IsPair : List Cell → Option (Footprint ℕ) → Option (Footprint Cell) → Type 0
IsPair cells None None = Unit {0}
IsPair cells None (Some f) = ⊥
IsPair cells (Some g) None = ⊥
IsPair cells (Some g) (Some f) = IsNamed cells g f

module _ (cells : List Cell) where
  pub pair_at : (n : ℕ) (gs : Prints) (fs : CellPrints) → ArePaired cells gs fs → IsPair cells (event_at n gs) (event_at n fs)
  pair_at n [] [] paired = tt
  pair_at n [] (f ∷ fs) paired = absurd paired
  pair_at n (g ∷ gs) [] paired = absurd paired
  pair_at n (g ∷ gs) (f ∷ fs) paired =
      subst (λ k. IsPair cells (event_at n (g ∷ gs)) (cond (nat_eq k n) (Some f.1) (event_at n fs))) paired.0
      (elim (nat_eq g.0 n) as (λ b. IsPair cells (cond b (Some g.1) (event_at n gs)) (cond b (Some f.1) (event_at n fs))) [
        | true ↦ paired.1.0
        | false ↦ pair_at n gs fs paired.1.1
      ])

  paired_under : (n : ℕ) (o : Option (Footprint ℕ)) (p : Option (Footprint Cell)) (gs : Prints) (fs : CellPrints) → IsPair cells o p → ArePaired cells gs fs → ArePaired cells (under n o gs) (under n p fs)
  paired_under n None None gs fs h paired = paired
  paired_under n None (Some f) gs fs h paired = absurd h
  paired_under n (Some g) None gs fs h paired = absurd h
  paired_under n (Some g) (Some f) gs fs h paired = (refl, (h, paired))

  -- and of those that are chosen
  pub paired_chosen : (gs : Prints) (fs : CellPrints) (ks : List ℕ) → ArePaired cells gs fs → ArePaired cells (chosen gs ks) (chosen fs ks)
  paired_chosen gs fs [] paired = tt
  paired_chosen gs fs (k ∷ ks) paired =
      paired_under k (event_at k gs) (event_at k fs) (chosen gs ks) (chosen fs ks) (pair_at k gs fs paired) (paired_chosen gs fs ks paired)

-- ONE CELL, ONE PLACE
itself : (c : Cell) → eq_by_cmp cell_cmp c c ≡ true
itself c = (eq_by_cmp_equiv cells_total).refl c

module _ (cells : List Cell) (distinct : IsDistinct (eq_by_cmp cell_cmp) cells) where
  below : (p q : ℕ) (c d : Cell) → slice_get cells p ≡ Some c → slice_get cells q ≡ Some d → p < q → eq_by_cmp cell_cmp c d ≡ false
  below p q c d at there lt =
      sym (λ i. eq_by_cmp cell_cmp (get_or_from_slice_get cells p c c at i) (get_or_from_slice_get cells q d c there i))
      ∙ apart_from_distinct (eq_by_cmp cell_cmp) cells p q c distinct lt (slice_get_within cells q d there)

  -- two cells are one where their places are
  one_place : (p q : ℕ) (c d : Cell) → slice_get cells p ≡ Some c → slice_get cells q ≡ Some d → eq_by_cmp cell_cmp c d ≡ eq_by_cmp nat_cmp p q
  one_place p q c d at there = elim (either (nat_lt p q)) [
    | inl t ↦
        let lt : p < q = ltb-true p q t in
        below p q c d at there lt ∙ sym (unsigned_tied p q ∙ ne_eqb p q (λ e. omega arith))
    | inr f ↦
        elim (either (nat_lt q p)) [
          | inl t ↦
              let lt : q < p = ltb-true q p t in
              (eq_by_cmp_equiv cells_total).symm c d ∙ below q p d c there at lt ∙ sym (unsigned_tied p q ∙ ne_eqb p q (λ e. omega arith))
          | inr g ↦
              let one : q ≤ p = ltb-false p q f in
              let two : p ≤ q = ltb-false q p g in
              let same : p ≡ q = omega arith in
              let both : Some c ≡ Some d = sym at ∙ ap (slice_get cells) same ∙ there in
              let is : c ≡ d = cc in
              ap (λ k. eq_by_cmp cell_cmp k d) is ∙ itself d ∙ sym (unsigned_tied p q ∙ eq-eqb p q same)
        ]
  ]

  -- among cells and among their places
  pub among_same : (ps : List ℕ) (p : ℕ) (c : Cell) → AreWithin cells ps → slice_get cells p ≡ Some c → among cell_cmp (cells_at cells ps) c ≡ among nat_cmp ps p
  among_same [] p c within at = refl
  among_same (q ∷ ps) p c within at =
      let some = some_within cells q within.0 in
      ap (λ o. among cell_cmp (cons_option o (cells_at cells ps)) c) some.1
      ∙ ap₂ (λ a b. a || b) (one_place p q c some.0 at some.1) (among_same ps p c within.1 at)

  -- a cell without a place is none of those at places
  pub among_none : (ps : List ℕ) (c : Cell) → AreWithin cells ps → (Contains cells c → ⊥) → among cell_cmp (cells_at cells ps) c ≡ false
  among_none [] c within none = refl
  among_none (q ∷ ps) c within none =
      let some = some_within cells q within.0 in
      let other : eq_by_cmp cell_cmp c some.0 ≡ false = by (eq_by_cmp cell_cmp c some.0) some.0 some.1 refl in
      ap (λ o. among cell_cmp (cons_option o (cells_at cells ps)) c) some.1
      ∙ ap₂ (λ a b. a || b) other (among_none ps c within.1 none)
    where
      by : (b : Bool) (d : Cell) → slice_get cells q ≡ Some d → eq_by_cmp cell_cmp c d ≡ b → b ≡ false
      by false d at e = refl
      by true d at e =
          let same : c ≡ d = cells_exact c d ((Equal-is (cell_cmp c d)).0 e) in
          absurd (none (subst (Contains cells) (sym same) (contains_at cells q d at)))

  -- what a footprint reads and writes
  pub writes_same : (g : Footprint ℕ) (f : Footprint Cell) (p : ℕ) (c : Cell) → IsNamed cells g f → slice_get cells p ≡ Some c → lists_write cell_cmp c f ≡ lists_write nat_cmp p g
  writes_same Whole f p c named at = ap (lists_write cell_cmp c) named
  writes_same (Cells reads writes) f p c named at = ap (lists_write cell_cmp c) named.is ∙ among_same writes p c named.written at

  pub reads_same : (g : Footprint ℕ) (f : Footprint Cell) (p : ℕ) (c : Cell) → IsNamed cells g f → slice_get cells p ≡ Some c → lists_read cell_cmp c f ≡ lists_read nat_cmp p g
  reads_same Whole f p c named at = ap (lists_read cell_cmp c) named
  reads_same (Cells reads writes) f p c named at = ap (lists_read cell_cmp c) named.is ∙ named.same c ∙ among_same reads p c named.read at

  pub writes_none : (g : Footprint ℕ) (f : Footprint Cell) (c : Cell) → IsNamed cells g f → (Contains cells c → ⊥) → lists_write cell_cmp c f ≡ false
  writes_none Whole f c named none = ap (lists_write cell_cmp c) named
  writes_none (Cells reads writes) f c named none = ap (lists_write cell_cmp c) named.is ∙ among_none writes c named.written none

  pub reads_none : (g : Footprint ℕ) (f : Footprint Cell) (c : Cell) → IsNamed cells g f → (Contains cells c → ⊥) → lists_read cell_cmp c f ≡ false
  reads_none Whole f c named none = ap (lists_read cell_cmp c) named
  reads_none (Cells reads writes) f c named none = ap (lists_read cell_cmp c) named.is ∙ named.same c ∙ among_none reads c named.read none

  whole_same : (g : Footprint ℕ) (f : Footprint Cell) → IsNamed cells g f → is_whole f ≡ is_whole g
  whole_same Whole f named = ap is_whole named
  whole_same (Cells reads writes) f named = ap is_whole named.is

  -- THE LISTS OF NUMBERS
  numbers_same : (u : Footprint ℕ → Bool) (t : Footprint Cell → Bool) → ((g : Footprint ℕ) (f : Footprint Cell) → IsNamed cells g f → t f ≡ u g)
      → (gs : Prints) (fs : CellPrints) → ArePaired cells gs fs → numbers_by t fs ≡ numbers_by u gs
  numbers_same u t same [] [] paired = refl
  numbers_same u t same [] (f ∷ fs) paired = absurd paired
  numbers_same u t same (g ∷ gs) [] paired = absurd paired
  numbers_same u t same (g ∷ gs) (f ∷ fs) paired =
      let rest : numbers_by t fs ≡ numbers_by u gs = numbers_same u t same gs fs paired.1.1 in
      λ i. cond (same g.1 f.1 paired.1.0 i) (sym paired.0 i ∷ rest i) (rest i)

  pub writers_same : (p : ℕ) (c : Cell) (gs : Prints) (fs : CellPrints) → slice_get cells p ≡ Some c → ArePaired cells gs fs → numbers_by (lists_write cell_cmp c) fs ≡ numbers_by (lists_write nat_cmp p) gs
  writers_same p c gs fs at paired = numbers_same (lists_write nat_cmp p) (lists_write cell_cmp c) (λ g f named. writes_same g f p c named at) gs fs paired

  pub readers_same : (p : ℕ) (c : Cell) (gs : Prints) (fs : CellPrints) → slice_get cells p ≡ Some c → ArePaired cells gs fs → numbers_by (lists_read cell_cmp c) fs ≡ numbers_by (lists_read nat_cmp p) gs
  readers_same p c gs fs at paired = numbers_same (lists_read nat_cmp p) (lists_read cell_cmp c) (λ g f named. reads_same g f p c named at) gs fs paired

  pub wholes_same : (gs : Prints) (fs : CellPrints) → ArePaired cells gs fs → numbers_by is_whole fs ≡ numbers_by is_whole gs
  wholes_same gs fs paired = numbers_same is_whole is_whole whole_same gs fs paired

  numbers_none : (gs : Prints) → numbers_by (λ g. false) gs ≡ []
  numbers_none [] = refl
  numbers_none (g ∷ gs) = numbers_none gs

  pub writers_none : (c : Cell) (gs : Prints) (fs : CellPrints) → (Contains cells c → ⊥) → ArePaired cells gs fs → numbers_by (lists_write cell_cmp c) fs ≡ []
  writers_none c gs fs none paired = numbers_same (λ g. false) (lists_write cell_cmp c) (λ g f named. writes_none g f c named none) gs fs paired ∙ numbers_none gs

  pub readers_none : (c : Cell) (gs : Prints) (fs : CellPrints) → (Contains cells c → ⊥) → ArePaired cells gs fs → numbers_by (lists_read cell_cmp c) fs ≡ []
  readers_none c gs fs none paired = numbers_same (λ g. false) (lists_read cell_cmp c) (λ g f named. reads_none g f c named none) gs fs paired ∙ numbers_none gs

  -- CONFLICTS
  accessed_same : (g : Footprint ℕ) (f : Footprint Cell) (p : ℕ) (c : Cell) → IsNamed cells g f → slice_get cells p ≡ Some c → is_accessed cell_cmp f c ≡ is_accessed nat_cmp g p
  accessed_same Whole f p c named at = ap (λ h. is_accessed cell_cmp h c) named
  accessed_same (Cells reads writes) f p c named at =
      ap (λ h. is_accessed cell_cmp h c) named.is
      ∙ ap₂ (λ a b. a || b) (among_same writes p c named.written at) (named.same c ∙ among_same reads p c named.read at)

  any_same : (g : Footprint ℕ) (f : Footprint Cell) → IsNamed cells g f → (ps : List ℕ) → AreWithin cells ps → list_any (is_accessed cell_cmp f) (cells_at cells ps) ≡ list_any (is_accessed nat_cmp g) ps
  any_same g f named [] within = refl
  any_same g f named (p ∷ ps) within =
      let some = some_within cells p within.0 in
      ap (λ o. list_any (is_accessed cell_cmp f) (cons_option o (cells_at cells ps))) some.1
      ∙ ap₂ (λ a b. a || b) (accessed_same g f p some.0 named some.1) (any_same g f named ps within.1)

  pub conflict_same : (g h : Footprint ℕ) (f k : Footprint Cell) → IsNamed cells g f → IsNamed cells h k → conflict cell_cmp f k ≡ conflict nat_cmp g h
  conflict_same Whole h f k one two = ap (λ x. conflict cell_cmp x k) one
  conflict_same (Cells reads writes) Whole f k one two = ap₂ (λ x y. conflict cell_cmp x y) one.is two
  conflict_same (Cells reads writes) (Cells others written) f k one two =
      ap₂ (λ x y. conflict cell_cmp x y) one.is two.is
      ∙ ap₂ (λ a b. a || b)
      (ap (λ x. list_any (is_accessed cell_cmp x) (cells_at cells writes)) (sym two.is) ∙ any_same (Cells others written) k two writes one.written)
      (ap (λ x. list_any (is_accessed cell_cmp x) (cells_at cells written)) (sym one.is) ∙ any_same (Cells reads writes) f one written two.written)

  -- so what is found by conflicts is the same
  pub nearest_same : (n : ℕ) (g : Footprint ℕ) (f : Footprint Cell) → IsNamed cells g f → (gs : Prints) (fs : CellPrints) → ArePaired cells gs fs → nearest_in nat_cmp n g gs ≡ nearest_in cell_cmp n f fs
  nearest_same n g f named [] [] paired = refl
  nearest_same n g f named [] (y ∷ fs) paired = absurd paired
  nearest_same n g f named (x ∷ gs) [] paired = absurd paired
  nearest_same n g f named (x ∷ gs) (y ∷ fs) paired =
      let rest : nearest_in nat_cmp n g gs ≡ nearest_in cell_cmp n f fs = nearest_same n g f named gs fs paired.1.1 in
      λ i. cond (nat_lt n (paired.0 i)) (cond (sym (conflict_same g x.1 f y.1 named paired.1.0) i) (Some (paired.0 i)) (rest i)) (rest i)

  partner_same : (places : List ℕ) (n : ℕ) (g : Footprint ℕ) (f : Footprint Cell) → IsNamed cells g f → (gs : Prints) (fs : CellPrints) → ArePaired cells gs fs
      → partner_of (conflict nat_cmp) places gs n g ≡ partner_of (conflict cell_cmp) places fs n f
  partner_same places n g f named [] [] paired = refl
  partner_same places n g f named [] (y ∷ fs) paired = absurd paired
  partner_same places n g f named (x ∷ gs) [] paired = absurd paired
  partner_same places n g f named (x ∷ gs) (y ∷ fs) paired =
      let rest : partner_of (conflict nat_cmp) places gs n g ≡ partner_of (conflict cell_cmp) places fs n f = partner_same places n g f named gs fs paired.1.1 in
      λ i. cond (overtakes places n (paired.0 i) && sym (conflict_same g x.1 f y.1 named paired.1.0) i) (Some (paired.0 i)) (rest i)

  inverted_at : (places : List ℕ) (g : ℕ × Footprint ℕ) (f : ℕ × Footprint Cell) → g.0 ≡ f.0 → IsNamed cells g.1 f.1 → (gs : Prints) (fs : CellPrints) → ArePaired cells gs fs
      → is_inverted (conflict nat_cmp) places gs g ≡ is_inverted (conflict cell_cmp) places fs f
  inverted_at places g f same named [] [] paired = refl
  inverted_at places g f same named [] (y ∷ fs) paired = absurd paired
  inverted_at places g f same named (x ∷ gs) [] paired = absurd paired
  inverted_at places g f same named (x ∷ gs) (y ∷ fs) paired =
      let rest : is_inverted (conflict nat_cmp) places gs g ≡ is_inverted (conflict cell_cmp) places fs f = inverted_at places g f same named gs fs paired.1.1 in
      λ i. (overtakes places (same i) (paired.0 i) && sym (conflict_same g.1 x.1 f.1 y.1 named paired.1.0) i) || rest i

  first_same : (places : List ℕ) (all : Prints) (named : CellPrints) → ArePaired cells all named → (gs : Prints) (fs : CellPrints) → ArePaired cells gs fs
      → first_where (is_inverted (conflict nat_cmp) places all) gs ≡ first_where (is_inverted (conflict cell_cmp) places named) fs
  first_same places all named whole [] [] paired = refl
  first_same places all named whole [] (y ∷ fs) paired = absurd paired
  first_same places all named whole (x ∷ gs) [] paired = absurd paired
  first_same places all named whole (x ∷ gs) (y ∷ fs) paired =
      let rest : first_where (is_inverted (conflict nat_cmp) places all) gs ≡ first_where (is_inverted (conflict cell_cmp) places named) fs = first_same places all named whole gs fs paired.1.1 in
      λ i. cond (inverted_at places x y paired.0 paired.1.0 all named whole i) (Some (paired.0 i)) (rest i)

  with_same : (places : List ℕ) (gs : Prints) (fs : CellPrints) (n : ℕ) (o : Option (Footprint ℕ)) (p : Option (Footprint Cell)) → IsPair cells o p → ArePaired cells gs fs
      → with_partner (conflict nat_cmp) places gs n o ≡ with_partner (conflict cell_cmp) places fs n p
  with_same places gs fs n None None h paired = refl
  with_same places gs fs n None (Some f) h paired = absurd h
  with_same places gs fs n (Some g) None h paired = absurd h
  with_same places gs fs n (Some g) (Some f) h paired = ap (option_map (λ j. (n, j))) (partner_same places n g f h gs fs paired)

  pair_by : (places : List ℕ) (gs : Prints) (fs : CellPrints) (o : Option ℕ) → ArePaired cells gs fs → pair_of (conflict nat_cmp) places gs o ≡ pair_of (conflict cell_cmp) places fs o
  pair_by places gs fs None paired = refl
  pair_by places gs fs (Some n) paired = with_same places gs fs n (event_at n gs) (event_at n fs) (pair_at cells n gs fs paired) paired

  pub pair_same : (places : List ℕ) (gs : Prints) (fs : CellPrints) → ArePaired cells gs fs → inverted_pair (conflict nat_cmp) places gs ≡ inverted_pair (conflict cell_cmp) places fs
  pair_same places gs fs paired =
      pair_by places gs fs (first_inverted_of (conflict nat_cmp) places gs) paired ∙ ap (pair_of (conflict cell_cmp) places fs) (first_same places gs fs paired gs fs paired)

  -- A CONE
  before_same : (g : Footprint ℕ) (f : Footprint Cell) → IsNamed cells g f → (o : Option (Footprint ℕ)) (p : Option (Footprint Cell)) → IsPair cells o p → conflicts_before nat_cmp g o ≡ conflicts_before cell_cmp f p
  before_same g f named None None h = refl
  before_same g f named None (Some y) h = absurd h
  before_same g f named (Some x) None h = absurd h
  before_same g f named (Some x) (Some y) h = sym (conflict_same x g y f h named)

  any_before : (gs : Prints) (fs : CellPrints) → ArePaired cells gs fs → (g : Footprint ℕ) (f : Footprint Cell) → IsNamed cells g f → (ms : List ℕ)
      → list_any (λ m. conflicts_before nat_cmp g (event_at m gs)) ms ≡ list_any (λ m. conflicts_before cell_cmp f (event_at m fs)) ms
  any_before gs fs paired g f named [] = refl
  any_before gs fs paired g f named (m ∷ ms) =
      ap₂ (λ a b. a || b) (before_same g f named (event_at m gs) (event_at m fs) (pair_at cells m gs fs paired)) (any_before gs fs paired g f named ms)

  with_any : (gs : Prints) (fs : CellPrints) → ArePaired cells gs fs → (ms : List ℕ) (o : Option (Footprint ℕ)) (p : Option (Footprint Cell)) → IsPair cells o p → conflicts_with_any nat_cmp gs ms o ≡ conflicts_with_any cell_cmp fs ms p
  with_any gs fs paired ms None None h = refl
  with_any gs fs paired ms None (Some f) h = absurd h
  with_any gs fs paired ms (Some g) None h = absurd h
  with_any gs fs paired ms (Some g) (Some f) h = any_before gs fs paired g f h ms

  pub cone_same : (gs : Prints) (fs : CellPrints) → ArePaired cells gs fs → (n : ℕ) (ms ks : List ℕ) → cone_behind nat_cmp n gs ms ks ≡ cone_behind cell_cmp n fs ms ks
  cone_same gs fs paired n ms [] = refl
  cone_same gs fs paired n ms (k ∷ ks) =
      λ i. cond (nat_lt n k && with_any gs fs paired ms (event_at k gs) (event_at k fs) (pair_at cells k gs fs paired) i)
      (k ∷ cone_same gs fs paired n (ms ++ k ∷ []) ks i) (cone_same gs fs paired n ms ks i)
