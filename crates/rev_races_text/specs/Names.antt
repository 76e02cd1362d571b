-- Names and texts as people read them. No byte of one reaches a terminal but a visible one of ASCII, or a space.
use Rattle.std.specs.Prelude.{ℕ, ◌==◌, ◌||◌, if◌then◌else◌, List, [], ◌∷◌, ◌++◌, Option, Some, None, codes}
use Rattle.std.specs.List.{flat_map}
use Rattle.rev_shown.specs.Shown.{shown, shown_byte}
use Rattle.rev_races_text.specs.declared.names.Made.{Made}
use Rattle.rev_races_text.specs.declared.names.Shown.{Shown}

-- a name, where there is one
abbrev pub name_if : Option Shown → List ℕ
name_if None = []
name_if (Some name) = shown name.0.now

-- a text of several words: as a name, but a space stays one
abbrev pub text_byte : ℕ → List ℕ
text_byte b = if b == 32 then 32 ∷ [] else shown_byte b

abbrev pub text_shown : List ℕ → List ℕ
text_shown text = flat_map text_byte text

-- a path as it stands on a build line: a `$` before each `$`, space and `:`
abbrev pub written_byte : ℕ → List ℕ
written_byte b =
    if b == 36 || (b == 32 || b == 58) then 36 ∷ b ∷ [] else (if b == 92 then 92 ∷ [] else shown_byte b)

abbrev pub written : List ℕ → List ℕ
written path = flat_map written_byte path

abbrev pub written_if : Option Shown → List ℕ
written_if None = []
written_if (Some path) = written path.0.now

-- ` (by both.dd)`: the dyndep file that says a path of an edge, where the edge's own line does not
abbrev pub by_words : Option Shown → List ℕ
by_words None = []
by_words (Some file) = codes " (by " ++ shown file.0.now ++ codes ")"

-- a path of an edge, as `b.mod (by both.dd)`
unfoldable pub path_words : Made → List ℕ
path_words made = shown made.path.0.now ++ by_words made.file
