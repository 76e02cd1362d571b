-- Looks in the order of their places.
use Rattle.std.specs.Prelude.{◌<◌, List, AllPairs}
use Rattle.rev_contents.specs.declared.looks.Look.{Look}

-- each place stands there once, and behind the lower ones
abbrev pub IsRising : List Look → Type 0
IsRising looks = AllPairs (λ (one other : Look). one.place < other.place) looks
