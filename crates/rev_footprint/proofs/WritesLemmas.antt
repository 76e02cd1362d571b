-- The cells that events write, and slots one after the other.
use Rattle.std.proofs.Common.{◌≡◌, ◌+◌, ◌-◌, ◌≤◌, zero, suc, arith, ℕ, List, [], ◌∷◌, ◌++◌, map, Option, refl, sym, ap, ◌∙◌, append_assoc}
use Rattle.std.specs.List.{range_with_len}
use Rattle.std.proofs.lemmas.List.{map-append}
use Rattle.rev_cells.specs.declared.cell.Cell.TheVariants as cell
use Rattle.rev_cells.specs.declared.mark.Mark.{Mark}
use Rattle.rev_cells.specs.declared.mark.Mark.TheVariants as mark
use Rattle.rev_events.specs.Edge.{held_cells}
use Rattle.rev_footprint.specs.Run.{run_in, held_by}

-- one number more
range-more : (a n : ℕ) → range_with_len a (suc n) ≡ range_with_len a n ++ (a + n) ∷ []
range-more a zero =
    let same : a ≡ a + 0 = omega arith in
    ap (λ k. k ∷ []) same
range-more a (suc n) =
    let same : a + 1 + n ≡ a + suc n = omega arith in
    ap (λ ks. a ∷ ks) (range-more (a + 1) n ∙ ap (λ k. range_with_len (a + 1) n ++ k ∷ []) same)

-- those up to a number, and that number
pub slots-next : {X : Type 0} (f : ℕ → X) (start slot : ℕ) → start ≤ slot → map f (range_with_len start (slot - start)) ++ f slot ∷ [] ≡ map f (range_with_len start (slot + 1 - start))
slots-next f start slot within =
    let more : slot + 1 - start ≡ suc (slot - start) = omega (arith, within) in
    let last : start + (slot - start) ≡ slot = omega (arith, within) in
    sym
    (ap (λ n. map f (range_with_len start n)) more ∙ ap (map f) (range-more start (slot - start)) ∙ map-append f (range_with_len start (slot - start)) ((start + (slot - start)) ∷ [])
    ∙ ap (λ k. map f (range_with_len start (slot - start)) ++ f k ∷ []) last)

pub marks-next : (n : ℕ) → map cell.Mark (range_with_len 0 n) ++ cell.Mark n ∷ [] ≡ map cell.Mark (range_with_len 0 (n + 1))
marks-next n =
    let one : n + 1 ≡ suc n = omega arith in
    let last : 0 + n ≡ n = omega arith in
    sym
    (ap (λ k. map cell.Mark (range_with_len 0 k)) one ∙ ap (map cell.Mark) (range-more 0 n) ∙ map-append cell.Mark (range_with_len 0 n) ((0 + n) ∷ [])
    ∙ ap (λ k. map cell.Mark (range_with_len 0 n) ++ cell.Mark k ∷ []) last)

pub held-is : (pool : Option (ℕ × ℕ)) (m : Mark) → held_cells pool m ≡ held_by pool (run_in m)
held-is pool (mark.Running job slot seen) = refl
held-is pool (mark.Done changed) = refl
held-is pool mark.Idle = refl
held-is pool mark.Wanted = refl
held-is pool mark.Through = refl
held-is pool mark.Clean = refl
held-is pool mark.Failed = refl
held-is pool mark.Stopped = refl

pub five-parts : {X : Type 0} (x : X) (a b c d : List X) → (((x ∷ a) ++ b) ++ c) ++ d ≡ x ∷ a ++ (b ++ (c ++ d))
five-parts x a b c d = ap (λ ys. x ∷ ys) (append_assoc (a ++ b) c d ∙ append_assoc a b (c ++ d))
