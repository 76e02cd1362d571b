use Rattle.std.proofs.Common.{◌≡◌, take, Some, None}
use Rattle.std.specs.Prelude.{if◌then◌else◌}
use Rattle.std.specs.Map.{lookup}
use Rattle.std.specs.Option.{option_or}
use Rattle.rev_causal.specs.Store.{among}
use Rattle.rev_cells.specs.declared.cell.Cell.{Cell}
use Rattle.rev_cells.specs.Keys.{cell_cmp}
use Rattle.rev_cells.specs.Same.{cell_eq}
use Rattle.rev_held.proofs.firsts.put_all.Given as goal

-- under the cells so far the number stands where none stood
abbrev pub invariant-loop-index : goal.invariant-loop-index
invariant-loop-index l =
    (c : Cell) → lookup (cell_eq c) l.firsts.entries ≡ option_or (lookup (cell_eq c) l.initial.firsts.entries) (if among cell_cmp (take l.index l.cells) c then Some l.number else None)
