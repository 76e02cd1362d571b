-- Where paths and lists of paths end.
use Rattle.std.specs.Prelude.{ℕ, suc, Bool, true, false, ◌||◌, ◌==◌, List, [], ◌∷◌, if◌then◌else◌}
use Rattle.rev_syntax.specs.declared.bytes.End.{End}
use Rattle.rev_syntax.specs.declared.bytes.End.TheVariants.{SpaceEnd, PathEnd, ListEnd}

-- a list of paths ends at a colon or a bar, and a path at a space too
abbrev pub ends_at : End → ℕ → Bool
ends_at SpaceEnd b = b == 32
ends_at PathEnd b = b == 32 || b == 58 || b == 124
ends_at ListEnd b = b == 58 || b == 124

-- how many bytes stand before the first end that no `$` takes along: a `$` takes the byte after it along.
-- The flag says whether a `$` takes the first byte.
abbrev pub free_len : End → Bool → List ℕ → ℕ
free_len end taken [] = 0
free_len end true (b ∷ bs) = suc (free_len end false bs)
free_len end false (b ∷ bs) = if ends_at end b then 0 else suc (free_len end (b == 36) bs)
