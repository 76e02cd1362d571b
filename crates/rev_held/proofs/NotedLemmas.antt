-- One more number whose cells are noted.
use Rattle.std.proofs.Common.{◌≡◌, ℕ, Bool, true, false, cond, List, [], Option, Some, nat_eq, subst, sym, ◌∙◌}
use Rattle.std.proofs.lemmas.Bool.{eqb-true}
use Rattle.std.specs.Prelude.{IfSome}
use Rattle.std.specs.HashSet.{HashSet}
use Rattle.std.specs.Map.{lookup}
use Rattle.rev_cells.specs.declared.cell.Cell.{Cell}
use Rattle.rev_footprint.specs.Value.{FootprintValue}
use Rattle.rev_history.specs.Timeline.{Timeline, kept_footprint}
use Rattle.rev_held.specs.Noted.{AreNoted, IsNoted}
use Rattle.rev_held.specs.Several.{IsNamed}

pub noted-more : {S : Type 0} (t : Timeline) (one other : ℕ) (set : HashSet Cell S) (b : Bool)
    (before after : Option (HashSet Cell S)) → nat_eq one other ≡ b → after ≡ cond b (Some set) before
    → IsNoted t one set.keys → IfSome before (λ s. IsNoted t other s.keys) → IfSome after (λ s. IsNoted t other s.keys)
noted-more {S = S} t one other set true before after is more new old =
    subst (λ (o : Option (HashSet Cell S)). IfSome o (λ s. IsNoted t other s.keys)) (sym more)
    (subst (λ (n : ℕ). IsNoted t n set.keys) (eqb-true one other is) new)
noted-more {S = S} t one other set false before after is more new old =
    subst (λ (o : Option (HashSet Cell S)). IfSome o (λ s. IsNoted t other s.keys)) (sym more) old

-- the cells of the kept event itself
pub noted-one : (t : Timeline) (n : ℕ) (f : FootprintValue) (keys : List Cell) → Some f ≡ kept_footprint t n
    → IsNamed f keys → IsNoted t n keys
noted-one t n f keys is named g other =
    let both : Some f ≡ Some g = is ∙ sym other in
    let same : f ≡ g = cc in
    subst (λ (h : FootprintValue). IsNamed h keys) same named

-- no cells at all
pub none-noted : {S : Type 0} (t : Timeline) (entries : List (ℕ × HashSet Cell S)) → entries ≡ [] → AreNoted t entries
none-noted {S = S} t entries none n =
    subst (λ (es : List (ℕ × HashSet Cell S)). IfSome (lookup (nat_eq n) es) (λ set. IsNoted t n set.keys)) (sym none) tt
