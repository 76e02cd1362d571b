-- Texts of patterns.
use Rattle.std.specs.Prelude.{ℕ, ◌+◌, ◌==◌, Bool, false, not, ◌&&◌, nat_lt, if◌then◌else◌, length, drop, filter, position, List, [], ◌∷◌, Option, Some, None}
use Rattle.std.specs.List.{list_any}
use Rattle.std.specs.Option.{option_map}
use Rattle.rev_fields.specs.Lines.{is_blank, lines_of}
use Rattle.rev_filters.specs.declared.faults.Fault.{Fault}
use Rattle.rev_filters.specs.declared.faults.FaultKind.TheVariants.{Syntax, Long}
use Rattle.rev_filters.specs.declared.faults.TheConstants.{MAX_BYTES}
use Rattle.rev_filters.specs.Patterns.{parts_of}

-- an empty line is a remark, and one that begins with `#`; every other line is a pattern
abbrev pub is_pattern : List ℕ → Bool
is_pattern [] = false
is_pattern (b ∷ bs) = not (b == 35)

-- nothing stands between two slashes, or behind the last one: no path has such a component
abbrev pub has_gap : List ℕ → Bool
has_gap line = is_pattern line && list_any is_blank (drop 1 (parts_of line))

-- the first fault of a text: it is too long, or the first line with a gap
abbrev pub fault_of : List ℕ → Option Fault
fault_of text =
    if nat_lt MAX_BYTES (length text) then Some (record { kind = Long; line = 0 })
    else option_map (λ place. record { kind = Syntax; line = place + 1 }) (position has_gap (lines_of text))

-- the patterns of a text, in the order of its lines
abbrev pub patterns_of : List ℕ → List (List ℕ)
patterns_of text = filter is_pattern (lines_of text)
