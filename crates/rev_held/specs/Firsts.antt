-- Of some events the first that names each cell, as those are found on which an event rests.
use Rattle.std.specs.Prelude.{◌≡◌, ℕ, nat_lt, Bool, true, false, List, ◌∷◌, ◌++◌, Option, Some, None, find, map, if◌then◌else◌}
use Rattle.std.specs.Map.{lookup}
use Rattle.rev_causal.specs.Store.{among}
use Rattle.rev_cells.specs.declared.cell.Cell.{Cell}
use Rattle.rev_cells.specs.Keys.{cell_cmp}
use Rattle.rev_cells.specs.Same.{cell_eq}
use Rattle.rev_footprint.specs.Value.{FootprintValue}
use Rattle.rev_history.specs.Timeline.{Timeline, kept_footprint}
use Rattle.rev_held.specs.Dependence.{is_accessed_by}
use Rattle.rev_held.specs.Laws.{IsFalling}
use Rattle.rev_held.specs.Ways.{ways_down, ways_to}
use Rattle.rev_held.specs.declared.firsts.Firsts.{Firsts}

-- the later of two numbers, where there are two
abbrev pub later_of : Option ℕ → Option ℕ → Option ℕ
later_of None other = other
later_of (Some one) None = Some one
later_of (Some one) (Some other) = if nat_lt one other then Some other else Some one

-- the footprint is there, and passes
abbrev pub passes : (FootprintValue → Bool) → Option FootprintValue → Bool
passes test (Some f) = test f
passes test None = false

-- of some numbers the first whose event is kept with a footprint that passes
abbrev pub first_where : Timeline → (FootprintValue → Bool) → List ℕ → Option ℕ
first_where t test others = find (λ other. passes test (kept_footprint t other)) others

-- What is noted is, of the events of these numbers, the first that reads or writes each cell, the first that writes
-- each, the first that is a plan, and the first that is kept.
pub record AreFirsts (t : Timeline) (others : List ℕ) (firsts : Firsts) : Type 0 where
  pub named : (c : Cell) → lookup (cell_eq c) firsts.named.entries ≡ first_where t (λ f. is_accessed_by f c) others
  pub written : (c : Cell) → lookup (cell_eq c) firsts.written.entries ≡ first_where t (λ f. among cell_cmp f.writes c) others
  pub plan : firsts.plan ≡ first_where t (λ f. f.whole) others
  pub kept : firsts.kept ≡ first_where t (λ f. true) others

-- a number, and those that were found on the way down from it
abbrev pub on_way : ℕ → List (ℕ × ℕ) → List ℕ
on_way n pairs = n ∷ map (λ (pair : ℕ × ℕ). pair.0) pairs

-- Above these numbers the ways to n were found as far as that: what is left is found below, and of the events on the
-- way the firsts are noted.
pub record IsDown (t : Timeline) (n : ℕ) (ones : List ℕ) (firsts : Firsts) (pairs : List (ℕ × ℕ)) : Type 0 where
  pub all : pairs ++ ways_down t (on_way n pairs) ones ≡ ways_to t n
  pub falls : IsFalling (on_way n pairs ++ ones)
  pub noted : AreFirsts t (on_way n pairs) firsts
