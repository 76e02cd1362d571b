-- Cells that were copied hold what those hold of which they are copies.
use Rattle.std.proofs.Common.{◌≡◌, ℕ, ◌+◌, ◌<◌, ◌≤◌, Bool, true, false, List, [], ◌∷◌, ◌++◌, Option, Some, None, IsSome, Contains, map, length, take, slice_get, get_or, refl, sym, ap, subst, ◌∙◌, arith, ◌⊎◌, inl, inr}
use Rattle.std.proofs.lemmas.List.{map-append, take_more, take_all}
use Rattle.std.proofs.lemmas.Map.Made.{Contains-tail}
use Rattle.std.proofs.lemmas.Option.{get_or_from_slice_get, slice_get_within, slice_get_cases}
use Rattle.std.specs.Cmp.{Equal-is, eq_by_cmp_equiv}
use Rattle.std.specs.FinMap as finmap
use Rattle.std.specs.List.{AllByRecursion}
use Rattle.std.specs.Ordering.{eq_by_cmp}
use Rattle.rev_cells.specs.declared.cell.Cell.{Cell}
use Rattle.rev_cells.specs.declared.value.Value.{Value}
use Rattle.rev_cells.specs.Effects.{set_all}
use Rattle.rev_cells.specs.Keys.{cell_cmp}
use Rattle.rev_cells.specs.State.{State, default_or, set, value_at}
use Rattle.rev_cells.proofs.EntryLemmas.{cells_exact, cells_total, value_at-set, value_at-set-other}
use Rattle.rev_queries.specs.Rebuilds.{EntryFits, HoldAlike, entry_in}

no-element : (q : Cell) → Contains [] q → ⊥
no-element q h = let lt : h.0 < 0 = h.1 in absurd (omega arith)

-- what each cell holds after the writes, where these are all cells that are not at the default of before
pub all-read : (s s0 : State) (cs : List Cell) (q : Cell) → AllByRecursion EntryFits (map (entry_in s) cs)
    → (value_at s0 q ≡ value_at s q) ⊎ Contains cs q → value_at (set_all s0 (map (entry_in s) cs)) q ≡ value_at s q
all-read s s0 [] q fits (inl same) = same
all-read s s0 [] q fits (inr there) = absurd (no-element q there)
all-read s s0 (c ∷ cs) q fits there =
    all-read s (set s0 c (value_at s c)) cs q fits.1 (by (eq_by_cmp cell_cmp q c) refl there)
  where
    by : (b : Bool) → eq_by_cmp cell_cmp q c ≡ b → (value_at s0 q ≡ value_at s q) ⊎ Contains (c ∷ cs) q
        → (value_at (set s0 c (value_at s c)) q ≡ value_at s q) ⊎ Contains cs q
    by true e h =
        let same : q ≡ c = cells_exact q c ((Equal-is (cell_cmp q c)).0 e) in
        let written : value_at (set s0 c (value_at s c)) c ≡ value_at s c = value_at-set s0 c (value_at s c) fits.0 in
        inl (subst (λ (k : Cell). value_at (set s0 c (value_at s c)) k ≡ value_at s k) (sym same) written)
    by false e (inl same) = inl (value_at-set-other s0 c (value_at s c) q e ∙ same)
    by false e (inr there) = inr (Contains-tail c cs q (λ same. other same) there)
      where
        itself : c ≡ q → eq_by_cmp cell_cmp q c ≡ true
        itself same = subst (λ (k : Cell). eq_by_cmp cell_cmp k c ≡ true) same ((eq_by_cmp_equiv cells_total).refl c)

        other : c ≡ q → ⊥
        other same = let no : true ≡ false = sym (itself same) ∙ e in cc

-- all that hold something have places
pub copy-alike : (s : State) (places : List Cell) → AllByRecursion EntryFits (map (entry_in s) places)
    → ((c : Cell) → IsSome (finmap.get s c) → Contains places c)
    → HoldAlike s (set_all finmap.empty (map (entry_in s) places))
copy-alike s places fits all q = all-read s finmap.empty places q fits (by (finmap.get s q) refl)
  where
    by : (o : Option Value) → finmap.get s q ≡ o → (value_at finmap.empty q ≡ value_at s q) ⊎ Contains places q
    by None e = inl (ap (default_or q) (finmap.get-empty cell_cmp q ∙ sym e))
    by (Some v) e = inr (all q (subst IsSome (sym e) refl))

-- one more place
pub entries-next : (s : State) (places : List Cell) (i : ℕ) (cell : Cell) (before after : List (Cell × Value))
    → Some cell ≡ slice_get places i → before ≡ map (entry_in s) (take i places) → after ≡ before ++ entry_in s cell ∷ []
    → after ≡ map (entry_in s) (take (i + 1) places)
entries-next s places i cell before after at so now =
    let within : i < length places = slice_get_within places i cell (sym at) in
    let is : get_or places i cell ≡ cell = get_or_from_slice_get places i cell cell (sym at) in
    now ∙ ap (λ es. es ++ entry_in s cell ∷ []) so ∙ sym (map-append (entry_in s) (take i places) (cell ∷ []))
    ∙ ap (map (entry_in s)) (ap (λ c. take i places ++ c ∷ []) (sym is) ∙ sym (take_more places i cell within))

-- past the last place
pub entries-all : (s : State) (places : List Cell) (i : ℕ) (entries : List (Cell × Value))
    → None ≡ slice_get places i → entries ≡ map (entry_in s) (take i places) → entries ≡ map (entry_in s) places
entries-all s places i entries at so =
    so ∙ ap (map (entry_in s)) (take_all i places (past (slice_get_cases places i).1))
  where
    past : ((x : Cell) × (i < length places) × (slice_get places i ≡ Some x) × (get_or places i x ≡ x))
        ⊎ ((length places ≤ i) × (slice_get places i ≡ None)) → length places ≤ i
    past (inl h) = let no : None ≡ Some h.0 = at ∙ h.2 in cc
    past (inr h) = h.0
