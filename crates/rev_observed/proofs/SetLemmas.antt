-- Ranges that rise, and numbers that are below the count of paths.
use Rattle.std.proofs.Common.{◌≡◌, ℕ, ◌+◌, ◌<◌, ◌≤◌, nat_le, nat_lt, Bool, true, ◌&&◌, List, [], ◌∷◌, ◌++◌, length, Ok, Err, if◌then◌else◌, ap, ◌∙◌, arith}
use Rattle.std.specs.List.{AllByRecursion, list_all}
use Rattle.std.proofs.lemmas.Bool.{and_parts, leb-true, ltb-true}
use Rattle.rev_observed.specs.declared.path_set.PathRange.{PathRange}
use Rattle.rev_observed.specs.declared.faults.FaultKind.TheVariants.{Range}
use Rattle.rev_observed.specs.Lines.{set_of}
use Rattle.rev_observed.specs.PathSets.{AreRising, are_rising, are_rising_from}
use Rattle.rev_observed.specs.Within.{RangesAreWithin, are_within}

-- what is weaker holds of each too
pub each_weaker : {X : Type 0} (P Q : X → Type 0) → ((x : X) → P x → Q x) → (xs : List X) → AllByRecursion P xs → AllByRecursion Q xs
each_weaker P Q f [] h = tt
each_weaker P Q f (x ∷ xs) h = (f x h.0, each_weaker P Q f xs h.1)

-- what a test finds of all holds of each
pub each_tested : {X : Type 0} (test : X → Bool) (P : X → Type 0) → ((x : X) → test x ≡ true → P x) → (xs : List X) → list_all test xs ≡ true → AllByRecursion P xs
each_tested test P f [] h = tt
each_tested test P f (x ∷ xs) h =
    let parts = and_parts (test x) (list_all test xs) h in (f x parts.0, each_tested test P f xs parts.1)

-- one more
pub each_more : {X : Type 0} (P : X → Type 0) (xs : List X) (x : X) → AllByRecursion P xs → P x → AllByRecursion P (xs ++ x ∷ [])
each_more P [] x h p = (p, tt)
each_more P (y ∷ ys) x h p = (h.0, each_more P ys x h.1 p)

-- ranges that rise from a number on rise, and each begins there or above
rising_from : (least : ℕ) (rs : List PathRange) → are_rising_from least rs ≡ true → AreRising rs × AllByRecursion (λ (s : PathRange). least ≤ s.first) rs
rising_from least [] h = (tt, tt)
rising_from least (r ∷ rs) h =
    let parts = and_parts (nat_le least r.first && nat_le r.first r.last) (are_rising_from (r.last + 1) rs) h in
    let fronts = and_parts (nat_le least r.first) (nat_le r.first r.last) parts.0 in
    let low : least ≤ r.first = leb-true least r.first fronts.0 in
    let high : r.first ≤ r.last = leb-true r.first r.last fronts.1 in
    let rest = rising_from (r.last + 1) rs parts.1 in
    let above : PathRange → Type 0 = λ s. r.last + 1 ≤ s.first in
    let behind : PathRange → Type 0 = λ s. r.last < s.first in
    let from : PathRange → Type 0 = λ s. least ≤ s.first in (
      (high, each_weaker above behind (λ s p. omega (arith, p)) rs rest.1, rest.0),
      (low, each_weaker above from (λ s p. omega (arith, p, low, high)) rs rest.1),
    )

pub rising : (rs : List PathRange) → are_rising rs ≡ true → AreRising rs
rising rs h = (rising_from 0 rs h).0

pub within : (count : ℕ) (rs : List PathRange) → are_within count rs ≡ true → RangesAreWithin count rs
within count rs h =
    each_tested (λ (r : PathRange). nat_lt r.last count) (λ (r : PathRange). r.last < count) (λ r e. ltb-true r.last count e) rs h

-- ranges that rise, one at least, whose numbers are below the count
pub set_made : (count : ℕ) (rs : List PathRange) → 0 < length rs → are_rising rs ≡ true → are_within count rs ≡ true → set_of count rs ≡ Ok rs
set_made count [] some rise inside = absurd (omega arith)
set_made count (r ∷ rs) some rise inside =
    ap (λ b. if b && are_within count (r ∷ rs) then Ok (r ∷ rs) else Err Range) rise ∙ ap (λ b. if b then Ok (r ∷ rs) else Err Range) inside
