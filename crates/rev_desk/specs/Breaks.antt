-- How the breaks that stand are kept.
use Rattle.std.specs.Prelude.{◌≡◌, ℕ, ◌<◌, List, [], Option, Some, None, filter}
use Rattle.std.specs.List.{AllByRecursion}
use Rattle.std.specs.Option.{option_map}
use Rattle.std.specs.Map.{lookup}
use Rattle.std.specs.declared.vec.Vec.{Vec}
use Rattle.std.specs.declared.alloc.Global.{Global}
use Rattle.rev_causal.specs.Chosen.{IsRising}
use Rattle.rev_manifest.specs.Manifest.{ManifestValue}
use Rattle.rev_commands.specs.declared.point.Point.{Point}
use Rattle.rev_desk.specs.declared.breaks.Breaks.{Breaks}
use Rattle.rev_desk.specs.declared.break_key.BreakKey.{BreakKey}
use Rattle.rev_desk.specs.BreakKeys.{both_same, numbers_of, point_break_key, same_break_key}

-- the numbers of the breaks that wait for the events of a key
abbrev pub numbers_at : ManifestValue → BreakKey → List (ℕ × Point) → List ℕ
numbers_at manifest s standing = numbers_of (filter (λ b. both_same (point_break_key manifest b.1) (Some s)) standing)

abbrev pub items_of : Option (Vec ℕ Global) → List ℕ
items_of None = []
items_of (Some v) = v.items

-- the numbers that are kept beside a key
abbrev pub listed_at : List (BreakKey × Vec ℕ Global) → BreakKey → List ℕ
listed_at entries s = items_of (lookup (same_break_key s) entries)

-- all numbers are below one
abbrev pub AreBelow : ℕ → List (ℕ × Point) → Type 0
AreBelow n standing = AllByRecursion (λ (k : ℕ). k < n) (numbers_of standing)

-- The numbers rise, and beside each key stand those of the breaks that wait for it.
pub record AreSound (manifest : ManifestValue) (b : Breaks) : Type 0 where
  pub rising : IsRising (numbers_of b.standing.items)
  pub numbers : b.numbers.items ≡ numbers_of b.standing.items
  pub break_keys : (s : BreakKey) → listed_at b.break_keys.entries s ≡ numbers_at manifest s b.standing.items
