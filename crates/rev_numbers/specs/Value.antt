-- Numbers that rise, and for how many there is room.
use Rattle.std.specs.Prelude.{ℕ, cond, List, refl}
use Rattle.std.specs.Coded.{Coded, code_by, coded×, coded_list, coded_ℕ}
use Rattle.rev_causal.specs.Chosen.{is_among, placed}

pub record NumbersValue : Type 0 where
  pub items : List ℕ
  pub room : ℕ

abbrev pub numbers_code : Coded NumbersValue
numbers_code =
    code_by (List ℕ × ℕ) (coded× (coded_list coded_ℕ) coded_ℕ) (λ n. (n.items, n.room))
    (λ p. record { items = p.0; room = p.1 }) (λ _. refl)

-- the numbers with one more at its place, unless it is there
abbrev pub with_number : ℕ → List ℕ → List ℕ
with_number n numbers = cond (is_among numbers n) numbers (placed n numbers)
