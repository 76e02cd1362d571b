-- Lines as they are found one after another, and edits as they are noted, each at the line that it names.
use Rattle.std.specs.Prelude.{ℕ, zero, suc, Bool, true, false, ◌==◌, if◌then◌else◌, List, [], ◌∷◌, length, None, Some, unwrap_or}
use Rattle.rev_patch.specs.Lines.{Edit, Line, with_new}

-- a line that an edit names: what an earlier one made of it stays
abbrev pub unless_new : List ℕ → Line → Line
unless_new text l = with_new l (Some (unwrap_or l.new text))

abbrev pub noted_at : List Line → ℕ → List ℕ → List Line
noted_at [] k text = []
noted_at (l ∷ ls) zero text = unless_new text l ∷ ls
noted_at (l ∷ ls) (suc k) text = l ∷ noted_at ls k text

abbrev pub noted : List Line → Edit → List Line
noted ls e = noted_at ls e.line e.text

-- a part of a text that is cut at LF: a line, but none where the last part is empty
abbrev pub part_lines : Bool → List ℕ → List Line
part_lines true part = record { old = part; new = None; is_ended = true } ∷ []
part_lines false part =
    if length part == 0 then [] else record { old = part; new = None; is_ended = false } ∷ []
