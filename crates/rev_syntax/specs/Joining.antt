-- What is read of a file's lines so far.
use Rattle.std.specs.Prelude.{ℕ, true, false, List, map, Option, Some, None}
use Rattle.std.specs.Borrow.{Bor}
use Rattle.rev_syntax.specs.Lines.{LineValue, before_first, lines_from}

-- the texts that slices point to
abbrev pub texts : List (Bor (List ℕ)) → List (List ℕ)
texts slices = map (λ slice. slice.now) slices

-- the lines that follow, with the unended one that they continue
abbrev pub lines_after : Option LineValue → ℕ → List (List ℕ) → List LineValue
lines_after None number more = lines_from false number more
lines_after (Some unended) number more = before_first unended.number unended.text (lines_from true number more)
