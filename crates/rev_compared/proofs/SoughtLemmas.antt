-- The first inverted pair, sought by leaps.
use Rattle.std.proofs.Common.{◌≡◌, ℕ, zero, suc, ◌<◌, ◌≤◌, ◌+◌, ◌-◌, Bool, true, false, cond, List, [], ◌∷◌, drop, length, get_or, Option, None, Some, inl, inr, refl, sym, ap, subst, ◌∙◌, ◌&&◌, add-one, drop-cons, le-ltb, lt-ltb, ltb-false, ltb-true, arith}
use Rattle.std.specs.Prelude.{nat_lt}
use Rattle.std.specs.List.{AllByRecursion}
use Rattle.rev_history.specs.Named.{CellPrints}
use Rattle.rev_causal.specs.Chosen.{IsRising, chosen, under}
use Rattle.rev_causal.specs.History as causal
use Rattle.rev_causal.specs.Store.{Footprint, conflict}
use Rattle.rev_causal.proofs.Chosen.{chosen-rises}
use Rattle.rev_causal.proofs.Runs.{either}
use Rattle.rev_cells.specs.declared.cell.Cell.{Cell}
use Rattle.rev_cells.specs.Keys.{cell_cmp}
use Rattle.rev_order.specs.Overtaken.{overtakes, place_at}
use Rattle.rev_order.specs.Pairs.{inverted_pair, partner_of}
use Rattle.rev_order.proofs.Matching.{chosen-next}
use Rattle.rev_order.proofs.Pairs.{inverted_pair_more, paired_by}
use Rattle.rev_compared.specs.Inverted.{IsLeap, is_dependent}
use Rattle.rev_compared.proofs.Prints.{All-get}

-- THE PARTNER OF ONE NUMBER
and-none : (b : Bool) → (b && false) ≡ false
and-none true = refl
and-none false = refl

none-and : (b c : Bool) → ((b && false) && c) ≡ false
none-and true c = refl
none-and false c = refl

-- among numbers of which one comes first
partner-first : (places : List ℕ) (es : CellPrints) (k : ℕ) (ks : List ℕ) (n : ℕ) (f : Footprint Cell)
    → partner_of (conflict cell_cmp) places (chosen es (k ∷ ks)) n f
    ≡ cond (overtakes places n k && is_dependent f (causal.event_at k es)) (Some k) (partner_of (conflict cell_cmp) places (chosen es ks) n f)
partner-first places es k ks n f = by (causal.event_at k es)
  where
    by : (o : Option (Footprint Cell)) → partner_of (conflict cell_cmp) places (under k o (chosen es ks)) n f
        ≡ cond (overtakes places n k && is_dependent f o) (Some k) (partner_of (conflict cell_cmp) places (chosen es ks) n f)
    by None = sym (ap (λ b. cond b (Some k) (partner_of (conflict cell_cmp) places (chosen es ks) n f)) (and-none (overtakes places n k)))
    by (Some g) = refl

partner-at : (places : List ℕ) (es : CellPrints) (ks : List ℕ) (i n : ℕ) (f : Footprint Cell) → i < length ks
    → partner_of (conflict cell_cmp) places (chosen es (drop i ks)) n f
    ≡ cond (overtakes places n (get_or ks i 0) && is_dependent f (causal.event_at (get_or ks i 0) es)) (Some (get_or ks i 0))
    (partner_of (conflict cell_cmp) places (chosen es (drop (i + 1) ks)) n f)
partner-at places es ks i n f within =
    ap (λ xs. partner_of (conflict cell_cmp) places (chosen es xs) n f) (drop-cons ks i 0 within ∙ ap (λ j. get_or ks i 0 ∷ drop j ks) (sym (add-one i)))
    ∙ partner-first places es (get_or ks i 0) (drop (i + 1) ks) n f

-- the number at a place is not the partner
pub partner-passed : (places : List ℕ) (es : CellPrints) (ks : List ℕ) (i n : ℕ) (f : Footprint Cell) (b : Bool) → i < length ks
    → b ≡ (overtakes places n (get_or ks i 0) && is_dependent f (causal.event_at (get_or ks i 0) es)) → b ≡ false
    → partner_of (conflict cell_cmp) places (chosen es (drop i ks)) n f ≡ partner_of (conflict cell_cmp) places (chosen es (drop (i + 1) ks)) n f
partner-passed places es ks i n f b within is out =
    partner-at places es ks i n f within
    ∙ ap (λ c. cond c (Some (get_or ks i 0)) (partner_of (conflict cell_cmp) places (chosen es (drop (i + 1) ks)) n f)) (sym is ∙ out)

-- it is
pub partner-found : (places : List ℕ) (es : CellPrints) (ks : List ℕ) (i n : ℕ) (f : Footprint Cell) (b : Bool) → i < length ks
    → b ≡ (overtakes places n (get_or ks i 0) && is_dependent f (causal.event_at (get_or ks i 0) es)) → b ≡ true
    → partner_of (conflict cell_cmp) places (chosen es (drop i ks)) n f ≡ Some (get_or ks i 0)
partner-found places es ks i n f b within is in-it =
    partner-at places es ks i n f within
    ∙ ap (λ c. cond c (Some (get_or ks i 0)) (partner_of (conflict cell_cmp) places (chosen es (drop (i + 1) ks)) n f)) (sym is ∙ in-it)

-- a number is not the partner where it does not stand before that one there
pub not-overtaking : (places : List ℕ) (n k : ℕ) (b : Bool) → place_at places n ≤ place_at places k → (overtakes places n k && b) ≡ false
not-overtaking places n k b le =
    ap (λ c. (nat_lt n k && c) && b) (le-ltb (place_at places k) (place_at places n) le) ∙ none-and (nat_lt n k) b

-- or does not depend on it
pub not-dependent : (a b : Bool) → b ≡ false → (a && b) ≡ false
not-dependent a b out = ap (λ c. a && c) out ∙ and-none a

-- and is it where both hold
pub overtaking-dependent : (places : List ℕ) (n k : ℕ) (b : Bool) → n < k → place_at places k < place_at places n → b ≡ true
    → (overtakes places n k && b) ≡ true
overtaking-dependent places n k b behind before depends =
    ap (λ a. (a && nat_lt (place_at places k) (place_at places n)) && b) (lt-ltb n k behind)
    ∙ ap (λ c. c && b) (lt-ltb (place_at places k) (place_at places n) before) ∙ depends

-- none of the numbers from a place on, and before another, is the partner
pub partner-beyond : (places : List ℕ) (es : CellPrints) (ks : List ℕ) (i k d n : ℕ) (f : Footprint Cell) → i + d ≡ k → k ≤ length ks
    → ((j : ℕ) → i ≤ j → j < k → (overtakes places n (get_or ks j 0) && is_dependent f (causal.event_at (get_or ks j 0) es)) ≡ false)
    → partner_of (conflict cell_cmp) places (chosen es (drop i ks)) n f ≡ partner_of (conflict cell_cmp) places (chosen es (drop k ks)) n f
partner-beyond places es ks i k zero n f to within out =
    let is : i ≡ k = omega (arith, to) in
    ap (λ j. partner_of (conflict cell_cmp) places (chosen es (drop j ks)) n f) is
partner-beyond places es ks i k (suc d) n f to within out =
    let next : (i + 1) + d ≡ k = omega (arith, to) in
    partner-passed places es ks i n f (overtakes places n (get_or ks i 0) && is_dependent f (causal.event_at (get_or ks i 0) es))
    (omega (arith, to, within)) refl (out i (omega arith) (omega (arith, to)))
    ∙ partner-beyond places es ks (i + 1) k d n f next within (λ j le lt. out j (omega (arith, le)) lt)

pub partner-between : (places : List ℕ) (es : CellPrints) (ks : List ℕ) (i k n : ℕ) (f : Footprint Cell) → i ≤ k → k ≤ length ks
    → ((j : ℕ) → i ≤ j → j < k → (overtakes places n (get_or ks j 0) && is_dependent f (causal.event_at (get_or ks j 0) es)) ≡ false)
    → partner_of (conflict cell_cmp) places (chosen es (drop i ks)) n f ≡ partner_of (conflict cell_cmp) places (chosen es (drop k ks)) n f
partner-between places es ks i k n f le within out =
    partner-beyond places es ks i k (k - i) n f (omega (arith, le)) within out

-- a leap passes none that stands before that one there
pub leap-passes : (places : List ℕ) (ks : List ℕ) (i k : ℕ) (p : ℕ) → IsLeap places ks i k → p ≤ place_at places (get_or ks i 0)
    → (j : ℕ) → i ≤ j → j < k → p ≤ place_at places (get_or ks j 0)
leap-passes places ks i k p leap le j from to = elim (either (nat_lt i j)) [
  | inl t ↦
      let more : place_at places (get_or ks i 0) ≤ place_at places (get_or ks j 0) = leap.between j (ltb-true i j t) to in
      omega (arith, le, more)
  | inr t ↦
      let less : j ≤ i = ltb-false i j t in
      let is : i ≡ j = omega (arith, from, less) in
      subst (λ x. p ≤ place_at places (get_or ks x 0)) is le
]

-- numbers that rise
pub rising-strict : (ks : List ℕ) → IsRising ks → (i j : ℕ) → i < j → j < length ks → get_or ks i 0 < get_or ks j 0
rising-strict [] rising i j lt within = absurd (omega (arith, within))
rising-strict (k ∷ ks) rising i zero lt within = absurd (omega (arith, lt))
rising-strict (k ∷ ks) rising zero (suc j) lt within = All-get (λ y. k < y) j 0 ks rising.0 (omega (arith, within))
rising-strict (k ∷ ks) rising (suc i) (suc j) lt within = rising-strict ks rising.1 i j (omega (arith, lt)) (omega (arith, within))

-- THE PAIR
pub rising-drop : (i : ℕ) (ks : List ℕ) → IsRising ks → IsRising (drop i ks)
rising-drop zero ks rising = rising
rising-drop (suc i) [] rising = tt
rising-drop (suc i) (k ∷ ks) rising = rising-drop i ks rising.1

pub All-drop : (P : ℕ → Type 0) (i : ℕ) (ks : List ℕ) → AllByRecursion P ks → AllByRecursion P (drop i ks)
All-drop P zero ks all = all
All-drop P (suc i) [] all = tt
All-drop P (suc i) (k ∷ ks) all = All-drop P i ks all.1

-- the pair of the number at a place, where it has a partner, else that of the rest
pub pair-at : (places : List ℕ) (es : CellPrints) (ks : List ℕ) (i : ℕ) (f : Footprint Cell) (o : Option ℕ) → IsRising ks → i < length ks
    → causal.event_at (get_or ks i 0) es ≡ Some f → o ≡ partner_of (conflict cell_cmp) places (chosen es (drop (i + 1) ks)) (get_or ks i 0) f
    → inverted_pair (conflict cell_cmp) places (chosen es (drop i ks))
    ≡ paired_by (conflict cell_cmp) places (get_or ks i 0) o (inverted_pair (conflict cell_cmp) places (chosen es (drop (i + 1) ks)))
pair-at places es ks i f o rising within at is =
    let n : ℕ = get_or ks i 0 in
    let next : chosen es (drop i ks) ≡ (n, f) ∷ chosen es (drop (i + 1) ks) = chosen-next es ks i f within at in
    ap (inverted_pair (conflict cell_cmp) places) next
    ∙ inverted_pair_more (conflict cell_cmp) places (n, f) (chosen es (drop (i + 1) ks)) (subst causal.IsRising next (chosen-rises es (drop i ks) (rising-drop i ks rising)))
    ∙ ap (λ p. paired_by (conflict cell_cmp) places n p (inverted_pair (conflict cell_cmp) places (chosen es (drop (i + 1) ks)))) (sym is)
