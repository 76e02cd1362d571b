use Rattle.std.proofs.Common.{◌≡◌, ◌++◌, drop}
use Rattle.std.specs.Prelude.{filter}
use Rattle.rev_fields.specs.Parts.{slices_of, vectors_of}
use Rattle.rev_filters.specs.Texts.{is_pattern}
use Rattle.rev_filters.proofs.filters.patterns.Given as goal

abbrev pub invariant-loop-line : goal.invariant-loop-line
invariant-loop-line l = vectors_of l.patterns.items ++ filter is_pattern (slices_of (drop l.line-index l.lines)) ≡ filter is_pattern (slices_of l.lines)
