-- Numbers of paths, as fields write them.
use Rattle.std.specs.Prelude.{ℕ, ◌+◌, ◌^◌, ◌==◌, List, take, drop, position, Option, Some, None, Result, Ok}
use Rattle.rev_fields.specs.declared.faults.FaultKind.{FaultKind}
use Rattle.rev_fields.specs.Faults.{◌>>=◌, each_of}
use Rattle.rev_fields.specs.Numbers.{number_below}
use Rattle.rev_observed.specs.declared.path_set.PathRange.{PathRange}

-- a number of a path has 32 bits
abbrev pub number_of : List ℕ → Result ℕ FaultKind
number_of text = number_below (2 ^ 32) text

-- one number
abbrev pub range_alone : List ℕ → Result PathRange FaultKind
range_alone text = number_of text >>= λ n. Ok (record { first = n; last = n })

-- from one number to another
abbrev pub range_between : List ℕ → List ℕ → Result PathRange FaultKind
range_between first last = number_of first >>= λ m. number_of last >>= λ n. Ok (record { first = m; last = n })

-- the range that a text writes whose first `-` stands at this place
abbrev pub range_parted : List ℕ → Option ℕ → Result PathRange FaultKind
range_parted text None = range_alone text
range_parted text (Some place) = range_between (take place text) (drop (place + 1) text)

-- the range that a text writes: a number, or two with `-` between them
abbrev pub range_of : List ℕ → Result PathRange FaultKind
range_of text = range_parted text (position (λ b. b == 45) text)

abbrev pub ranges_of : List (List ℕ) → Result (List PathRange) FaultKind
ranges_of texts = each_of range_of texts
