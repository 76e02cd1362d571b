-- The line that counts what can make a next build stale.
use Rattle.std.specs.Prelude.{ℕ, ◌==◌, ◌&&◌, List, [], ◌++◌, codes, if◌then◌else◌}
use Rattle.rev_races_text.specs.Counts.{counted}

-- how many there are of something, where there are any
unfoldable pub counted_if : ℕ → List ℕ → List ℕ → List ℕ
counted_if count one many = if count == 0 then [] else counted count one many

-- what stands between two counts, where neither is zero
unfoldable pub and_if : ℕ → ℕ → List ℕ
and_if one other = if one == 0 then [] else if other == 0 then [] else codes " and "

-- `1 undeclared output and 2 unlisted inputs`
unfoldable pub stale_words : ℕ → ℕ → List ℕ
stale_words undeclared unlisted =
    counted_if undeclared (codes "undeclared output") (codes "undeclared outputs") ++ and_if undeclared unlisted
    ++ counted_if unlisted (codes "unlisted input") (codes "unlisted inputs")

-- by what a next build can leave something stale
abbrev pub stale_line : ℕ → ℕ → List ℕ
stale_line undeclared unlisted =
    if undeclared == 0 && unlisted == 0 then []
    else codes "  not certified: what a next build makes, which " ++ stale_words undeclared unlisted
    ++ codes " can leave stale (rebug races)\n"
