-- Pools, each a name and its depth, in the order of their numbers.
use Rattle.std.specs.Prelude.{ℕ, ◌+◌, ◌-◌, ◌*◌, not, ◌||◌, List, [], ◌∷◌, position, Option, Some, None, bytes_eq, codes, nat_lt, if◌then◌else◌}
use Rattle.std.specs.List.{list_all}
use Rattle.std.specs.Char.{is_ascii_digit}
use Rattle.rev_manifest.specs.Names.{is_empty}
use Rattle.rev_manifest.specs.declared.depth.TheConstants.{MAX_DEPTH}

abbrev pub PoolValue : Type 0
PoolValue = List ℕ × ℕ

-- the pool that needs no declaration
abbrev pub console : PoolValue
console = (codes "console", 1)

-- the number of the pool of a name
abbrev pub pool_of : List ℕ → List PoolValue → Option ℕ
pool_of name pools = position (λ pool. bytes_eq name pool.0) pools

-- the number that decimal digits say after those that said a number
abbrev pub decimal_from : ℕ → List ℕ → ℕ
decimal_from number [] = number
decimal_from number (b ∷ bs) = decimal_from (number * 10 + (b - 48)) bs

-- a depth: decimal digits, leading zeros among them, that say at most 1,000,000
abbrev pub depth_of : List ℕ → Option ℕ
depth_of text =
    if is_empty text || not (list_all is_ascii_digit text) || nat_lt MAX_DEPTH (decimal_from 0 text) then None
    else Some (decimal_from 0 text)
