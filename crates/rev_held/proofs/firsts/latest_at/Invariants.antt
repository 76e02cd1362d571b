use Rattle.std.proofs.Common.{◌≡◌, ℕ, Bool, ◌||◌, List, take}
use Rattle.std.specs.Prelude.{find}
use Rattle.std.specs.List.{list_any}
use Rattle.std.specs.Map.{lookup}
use Rattle.rev_cells.specs.declared.cell.Cell.{Cell}
use Rattle.rev_cells.specs.Same.{cell_eq}
use Rattle.rev_held.specs.Laws.{IsFalling}
use Rattle.rev_held.proofs.firsts.latest_at.Given as goal

-- as far as the cells so far tell
abbrev pub invariant-loop-index : goal.invariant-loop-index
invariant-loop-index l =
    (p : ℕ → Bool) (q : Cell → ℕ → Bool) (others : List ℕ) → IsFalling others → l.fn.found ≡ find p others → ((c : Cell) → lookup (cell_eq c) l.firsts.entries ≡ find (q c) others)
    → l.latest ≡ find (λ other. p other || list_any (λ c. q c other) (take l.index l.cells)) others
