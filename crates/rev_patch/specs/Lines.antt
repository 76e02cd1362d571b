-- The lines of a text, and what changes make of them.
use Rattle.std.specs.Prelude.{ℕ, suc, ◌==◌, Bool, true, false, if◌then◌else◌, List, [], ◌∷◌, ◌++◌, length, map, Option, Some, None, unwrap_or}
use Rattle.std.specs.List.{slice_split}
use Rattle.std.specs.Option.{option_copied}
use Rattle.rev_patch.specs.declared.changes.Change.{Change}
use Rattle.rev_patch.specs.declared.lines.Row.{Row}

-- a line of a text, without its end: what it is, what it is changed to if it is, and whether it has an end
pub record Line : Type 0 where
  pub old : List ℕ
  pub new : Option (List ℕ)
  pub is_ended : Bool

-- what a line is changed to, by its number from 0
pub record Edit : Type 0 where
  pub line : ℕ
  pub text : List ℕ

abbrev pub line_of : Row → Line
line_of r = record { old = r.old.now; new = option_copied r.new; is_ended = r.is_ended }

abbrev pub edit_of : Change → Edit
edit_of c = record { line = c.line; text = c.text.items }

abbrev pub edits : List Change → List Edit
edits changes = map edit_of changes

-- the lines of a text that is cut at each LF: each part is a line with an end, and the last one is a line without an
-- end, if anything stands there
abbrev pub lines_of_parts : List (List ℕ) → List Line
lines_of_parts [] = []
lines_of_parts (part ∷ []) =
    if length part == 0 then [] else record { old = part; new = None; is_ended = false } ∷ []
lines_of_parts (part ∷ next ∷ parts) =
    record { old = part; new = None; is_ended = true } ∷ lines_of_parts (next ∷ parts)

abbrev pub lines_of : List ℕ → List Line
lines_of text = lines_of_parts (slice_split (λ b. b == 10) text)

-- what the first of these edits that names a line changes it to, if one does
abbrev pub new_at : List Edit → ℕ → Option (List ℕ)
new_at [] k = None
new_at (e ∷ es) k = if e.line == k then Some e.text else new_at es k

abbrev pub with_new : Line → Option (List ℕ) → Line
with_new l new = record { old = l.old; new = new; is_ended = l.is_ended }

-- lines, numbered from some number on, each with what it is changed to
abbrev pub edited_from : ℕ → List Edit → List Line → List Line
edited_from k es [] = []
edited_from k es (l ∷ ls) = with_new l (new_at es k) ∷ edited_from (suc k) es ls

-- the lines of a text, each with what it is changed to
abbrev pub edited : List ℕ → List Edit → List Line
edited text es = edited_from 0 es (lines_of text)

-- a line with its end as it is now
abbrev pub new_text : Line → List ℕ
new_text l = unwrap_or l.new l.old ++ (if l.is_ended then 10 ∷ [] else [])
