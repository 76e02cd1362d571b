-- What an event reads and writes, by the places of the cells in a table.
use Rattle.std.specs.Prelude.{ℕ, Bool, true, false, List, refl}
use Rattle.std.specs.Coded.{Coded, code_by, coded×, coded_bool, coded_list, coded_ℕ}
use Rattle.rev_causal.specs.Store.{Footprint, Footprint.Whole, Footprint.Cells}

-- the places that an event reads, those that it writes, and whether it is whole
pub record PlacesValue : Type 0 where
  pub read : List ℕ
  pub written : List ℕ
  pub whole : Bool

abbrev pub places_code : Coded PlacesValue
places_code =
    code_by (List ℕ × (List ℕ × Bool)) (coded× (coded_list coded_ℕ) (coded× (coded_list coded_ℕ) coded_bool))
    (λ p. (p.read, (p.written, p.whole))) (λ p. record { read = p.0; written = p.1.0; whole = p.1.1 }) (λ _. refl)

abbrev pub print_by : Bool → List ℕ → List ℕ → Footprint ℕ
print_by true read written = Whole
print_by false read written = Cells read written

-- its footprint by places: all, or those that it reads and those that it writes
abbrev pub print_of : PlacesValue → Footprint ℕ
print_of p = print_by p.whole p.read p.written
