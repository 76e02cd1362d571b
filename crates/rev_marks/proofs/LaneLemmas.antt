-- Of one asked event, one number after another.
use Rattle.std.proofs.Common.{◌≡◌, ℕ, zero, suc, ◌+◌, ◌<◌, ◌≤◌, drop, length, get_or, arith, Bool, true, false, cond, ◌||◌, ◌&&◌, List, [], ◌∷◌, Option, Some, None, is_some, nat_eq, inl, inr, refl, sym, ap, ap₂, subst, ◌∙◌, eq-eqb, eqb-true, ne_eqb, true≢false}
use Rattle.std.specs.List.{AllByRecursion}
use Rattle.std.specs.Map.{lookup}
use Rattle.std.proofs.Math.Seq.{drop-cons}
use Rattle.rev_causal.specs.Chosen.{IsRising, is_among}
use Rattle.rev_causal.specs.Order.{Has, any_conflict}
use Rattle.rev_causal.specs.Store.{Footprint, conflict}
use Rattle.rev_causal.proofs.Runs.{either}
use Rattle.rev_cells.specs.declared.cell.Cell.{Cell}
use Rattle.rev_cells.specs.Keys.{cell_cmp}
use Rattle.rev_marks.specs.declared.table.Table.{Table}
use Rattle.rev_marks.specs.Lanes.{AreTaken, AreWalked, IsLane, IsWalked, clash, do_conflict, has_print}
use Rattle.rev_marks.specs.Masks.{has_mark, is_in, is_that, mask_under, or_none}
use Rattle.rev_marks.specs.Table.{IsNoted, is_met}
use Rattle.rev_marks.specs.Walk.{cone_among, taken, walk}
use Rattle.rev_marks.proofs.MaskLemmas.{mark-none}
use Rattle.rev_marks.proofs.WalkLemmas.{walk-is, walk-none}

module _ (prints : ℕ → Option (Footprint Cell)) where
  none-second : (o : Option (Footprint Cell)) → do_conflict o None ≡ false
  none-second None = refl
  none-second (Some f) = refl

  clash-none : (k : ℕ) → prints k ≡ None → (held : List ℕ) → any_conflict (clash prints) held k ≡ false
  clash-none k none [] = refl
  clash-none k none (h ∷ hs) = ap₂ (λ a b. a || b) (ap (do_conflict (prints h)) none ∙ none-second (prints h)) (clash-none k none hs)

  pub has-none : (k : ℕ) → has_print prints k ≡ false → (held : List ℕ) → any_conflict (clash prints) held k ≡ false
  has-none k h held = by (prints k) refl h
    where
      by : (o : Option (Footprint Cell)) → prints k ≡ o → is_some o ≡ false → any_conflict (clash prints) held k ≡ false
      by None e h = clash-none k e held
      by (Some f) e h = absurd (true≢false h)

  clash-is : (a b : ℕ) (f g : Footprint Cell) → prints a ≡ Some f → prints b ≡ Some g → clash prints a b ≡ conflict cell_cmp f g
  clash-is a b f g first second i = do_conflict (first i) (second i)

  -- no event at all
  pub no-lane : (i : ℕ) (table : Table) (marks : List (ℕ × ℕ)) → ((f : Footprint Cell) → is_met table i f ≡ false) → marks ≡ [] → IsLane prints i [] table marks
  no-lane i table marks none empty = record {
    meets = λ k f at. none f;
    marked = λ k. ap (λ (ms : List (ℕ × ℕ)). has_mark i (mask_under ms k)) empty ∙ mark-none i;
  }

  -- a number without a footprint
  pub lanes-none : (asked : ℕ → Option ℕ) (k : ℕ) (table : Table) (marks : List (ℕ × ℕ)) → prints k ≡ None → AreTaken prints asked k table table marks marks
  lanes-none asked k table marks none i held fresh lane =
      subst (λ (h : List ℕ). IsLane prints i h table marks)
      (sym (ap (λ (o : Option (Footprint Cell)). cond (is_some o && (is_that (asked i) k || any_conflict (clash prints) held k)) (k ∷ held) held) none)) lane

  module _ (asked : ℕ → Option ℕ) (k : ℕ) (f : Footprint Cell) (at : prints k ≡ Some f) (table : Table) (marks : List (ℕ × ℕ)) (mask : ℕ)
      (is : (i : ℕ) → has_mark i mask ≡ (is_that (asked i) k || is_met table i f)) where
    taken-is : (i : ℕ) (held : List ℕ) → IsLane prints i held table marks → taken (clash prints) (has_print prints) (asked i) held k ≡ cond (has_mark i mask) (k ∷ held) held
    taken-is i held lane =
        ap (λ (o : Option (Footprint Cell)). cond (is_some o && (is_that (asked i) k || any_conflict (clash prints) held k)) (k ∷ held) held) at
        ∙ ap (λ b. cond b (k ∷ held) held) (ap (λ b. is_that (asked i) k || b) (sym (lane.meets k f at)) ∙ sym (is i))

    -- of no cone
    pub lanes-without : mask ≡ 0 → AreTaken prints asked k table table marks marks
    lanes-without nothing i held fresh lane =
        subst (λ (h : List ℕ). IsLane prints i h table marks)
        (sym (taken-is i held lane ∙ ap (λ b. cond b (k ∷ held) held) (ap (has_mark i) nothing ∙ mark-none i))) lane

    -- noted
    pub lanes-noted : (new : Table) (after : List (ℕ × ℕ)) → IsNoted table new f mask → ((n : ℕ) → lookup (nat_eq n) after ≡ cond (nat_eq k n) (Some mask) (lookup (nat_eq n) marks))
        → AreTaken prints asked k table new marks after
    lanes-noted new after noted updates i held fresh lane = subst (λ (h : List ℕ). IsLane prints i h new after) (sym (taken-is i held lane)) (by (has_mark i mask) refl)
      where
        under : (n : ℕ) (b : Bool) → nat_eq k n ≡ b → mask_under after n ≡ cond b mask (mask_under marks n)
        under n true e = ap or_none (updates n ∙ ap (λ b. cond b (Some mask) (lookup (nat_eq n) marks)) e)
        under n false e = ap or_none (updates n ∙ ap (λ b. cond b (Some mask) (lookup (nat_eq n) marks)) e)

        swapped : (a b : Bool) → (a || b) ≡ (b || a)
        swapped true true = refl
        swapped true false = refl
        swapped false true = refl
        swapped false false = refl

        or-false : (a : Bool) → (a || false) ≡ a
        or-false true = refl
        or-false false = refl

        by : (b : Bool) → has_mark i mask ≡ b → IsLane prints i (cond b (k ∷ held) held) new after
        by true e = record {
          meets = λ n g there.
              noted i g ∙ ap₂ (λ x y. x || (y && conflict cell_cmp f g)) (lane.meets n g there) e ∙ swapped (any_conflict (clash prints) held n) (conflict cell_cmp f g)
              ∙ ap (λ x. x || any_conflict (clash prints) held n) (sym (clash-is k n f g at there));
          marked = λ n. elim (either (nat_eq k n)) [
            | inl same ↦ ap (has_mark i) (under n true same) ∙ e ∙ ap (λ x. x || is_among held n) (sym (eq-eqb n k (sym (eqb-true k n same))))
            | inr other ↦
                ap (has_mark i) (under n false other) ∙ lane.marked n
                ∙ ap (λ x. x || is_among held n) (sym (ne_eqb n k (λ same. true≢false (sym (eq-eqb k n (sym same)) ∙ other))))
          ];
        }
        by false e = record {
          meets = λ n g there. noted i g ∙ ap₂ (λ x y. x || (y && conflict cell_cmp f g)) (lane.meets n g there) e ∙ or-false (any_conflict (clash prints) held n);
          marked = λ n. elim (either (nat_eq k n)) [
            | inl same ↦ ap (has_mark i) (under n true same) ∙ e ∙ sym fresh ∙ ap (is_among held) (eqb-true k n same)
            | inr other ↦ ap (has_mark i) (under n false other) ∙ lane.marked n
          ];
        }

  -- NUMBER BY NUMBER
  rising-drop : (kept : List ℕ) (place : ℕ) → IsRising kept → IsRising (drop place kept)
  rising-drop kept zero r = r
  rising-drop [] (suc place) r = r
  rising-drop (k ∷ ks) (suc place) r = rising-drop ks place r.1

  drop-all : (kept : List ℕ) (place : ℕ) → length kept ≤ place → drop place kept ≡ []
  drop-all [] zero h = refl
  drop-all [] (suc place) h = refl
  drop-all (k ∷ ks) zero h = absurd (omega (arith, h))
  drop-all (k ∷ ks) (suc place) h = drop-all ks place (omega (arith, h))

  pub walked-first : (kept : List ℕ) (asked : ℕ → Option ℕ) (table : Table) (marks : List (ℕ × ℕ)) → ((i : ℕ) (f : Footprint Cell) → is_met table i f ≡ false) → marks ≡ []
      → AreWalked prints kept asked 0 table marks
  walked-first kept asked table marks none empty i = record {
    held = [];
    lane = no-lane i table marks (none i) empty;
    rest = refl;
    later = λ h never. absurd (true≢false (sym never));
  }

  pub walked-next : (kept : List ℕ) (asked : ℕ → Option ℕ) (place k : ℕ) (old new : Table) (before after : List (ℕ × ℕ)) → IsRising kept → place < length kept → k ≡ get_or kept place k
      → AreTaken prints asked k old new before after → AreWalked prints kept asked place old before → AreWalked prints kept asked (place + 1) new after
  walked-next kept asked place k old new before after rises within is taken-all walked i = record {
    held = held';
    lane = taken-all i w.held fresh w.lane;
    rest = ap (walk (clash prints) (has_print prints) (asked i) w.held) (sym here) ∙ w.rest;
    later = λ h one. later h (is_some (prints k) && (is_that (asked i) k || any_conflict (clash prints) w.held k)) one;
  }
    where
      w : IsWalked prints kept (asked i) i place old before
      w = walked i

      held' : List ℕ
      held' = taken (clash prints) (has_print prints) (asked i) w.held k

      next : suc place ≡ place + 1
      next = omega arith

      here : drop place kept ≡ k ∷ drop (place + 1) kept
      here =
          drop-cons kept place k within ∙ ap (λ x. x ∷ drop (suc place) kept) (sym is) ∙ ap (λ n. k ∷ drop n kept) next

      all : (h : ℕ) → is_among w.held h ≡ true → AllByRecursion (λ j. h < j) (k ∷ drop (place + 1) kept)
      all h one = subst (λ (ks : List ℕ). AllByRecursion (λ j. h < j) ks) here (w.later h one)

      fresh : is_among w.held k ≡ false
      fresh = elim (either (is_among w.held k)) [
        | inl t ↦ let less : k < k = (all k t).0 in absurd (omega (arith, less))
        | inr f ↦ f
      ]

      behind : AllByRecursion (λ j. k < j) (drop (place + 1) kept)
      behind = (subst IsRising here (rising-drop kept place rises)).0

      later : (h : ℕ) (b : Bool) → is_among (cond b (k ∷ w.held) w.held) h ≡ true → AllByRecursion (λ j. h < j) (drop (place + 1) kept)
      later h false one = (all h one).1
      later h true one = elim (either (nat_eq h k)) [
        | inl same ↦ subst (λ n. AllByRecursion (λ j. n < j) (drop (place + 1) kept)) (sym (eqb-true h k same)) behind
        | inr other ↦ (all h (sym (ap (λ b. b || is_among w.held h) other) ∙ one)).1
      ]

  pub walked-all : (kept : List ℕ) (asked : ℕ → Option ℕ) (place : ℕ) (table : Table) (marks : List (ℕ × ℕ)) → IsRising kept → ((n : ℕ) → has_print prints n ≡ true → Has kept n)
      → length kept ≤ place → AreWalked prints kept asked place table marks
      → (i s : ℕ) → has_mark i (mask_under marks s) ≡ is_in (cone_among (clash prints) (has_print prints) kept) (asked i) s
  walked-all kept asked place table marks rises has past walked i s =
      (walked i).lane.marked s
      ∙ ap (λ (h : List ℕ). is_among h s) (ap (walk (clash prints) (has_print prints) (asked i) (walked i).held) (sym (drop-all kept place past)) ∙ (walked i).rest)
      ∙ by (asked i)
    where
      by : (o : Option ℕ) → is_among (walk (clash prints) (has_print prints) o [] kept) s ≡ is_in (cone_among (clash prints) (has_print prints) kept) o s
      by None = walk-none (clash prints) (has_print prints) has-none kept s
      by (Some n) = walk-is (clash prints) (has_print prints) has-none kept n s rises (has n)
