use Rattle.std.proofs.Common.{◌≡◌, ◌++◌, map, drop}
use Rattle.rev_fields.specs.Parts.{slices_of}
use Rattle.rev_patch.specs.Lines.{line_of, lines_of_parts}
use Rattle.rev_patch.proofs.lines.push_parts.Given as goal

-- the lines that are added, with those of the parts that are left
abbrev pub invariant-loop-place : goal.invariant-loop-place
invariant-loop-place l =
    map line_of l.rows.items ++ lines_of_parts (slices_of (drop l.place l.parts))
    ≡ map line_of l.initial.rows.items ++ lines_of_parts (slices_of l.parts)
