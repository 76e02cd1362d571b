-- A patch of a file, in the unified format that `diff -u` writes and `patch -p0` takes.
use Rattle.std.specs.Prelude.{ℕ, ◌+◌, ◌-◌, nat_le, ◌==◌, Bool, true, false, if◌then◌else◌, List, [], ◌∷◌, ◌++◌, length, Option, Some, None, codes, decimal}
use Rattle.std.specs.List.{flat_map, list_any, slice_range}
use Rattle.rev_patch.specs.Lines.{Edit, Line}
use Rattle.rev_patch.specs.Runs.{runs}

-- a line that names the file: behind a name with a space stands a tab, so that the name ends where it does
abbrev pub name_line : List ℕ → List ℕ → List ℕ
name_line sign name = sign ++ name ++ (if list_any (λ b. b == 32) name then 9 ∷ [] else []) ++ 10 ∷ []

-- the end of a line in a patch, and a note where the line has none in the file
abbrev pub end_text : Bool → List ℕ
end_text true = 10 ∷ []
end_text false = codes "\n\\ No newline at end of file\n"

-- a line behind its sign
abbrev pub signed : ℕ → List ℕ → Bool → List ℕ
signed sign line is_ended = sign ∷ line ++ end_text is_ended

-- a line that stays behind a space; one that changes as it was behind `-`, and as it is now behind `+`
abbrev pub told_as : List ℕ → Bool → Option (List ℕ) → List ℕ
told_as old is_ended None = signed 32 old is_ended
told_as old is_ended (Some new) = signed 45 old is_ended ++ signed 43 new is_ended

abbrev pub told : Line → List ℕ
told l = told_as l.old l.is_ended l.new

-- the number of the first of some lines, from 1, and how many there are
abbrev pub range_text : ℕ → ℕ → ℕ → List ℕ
range_text sign first count = sign ∷ decimal first ++ 44 ∷ decimal count

-- the head of a hunk: no line comes or goes, so the lines before and after have the same number and are as many
abbrev pub head : ℕ → ℕ → List ℕ
head first count = codes "@@ " ++ range_text 45 first count ++ 32 ∷ range_text 43 first count ++ codes " @@\n"

-- a hunk of these lines, the first of which has this number
abbrev pub hunk_text : ℕ → List Line → List ℕ
hunk_text first ls = head first (length ls) ++ flat_map told ls

-- the line of the last of some edits
abbrev pub last_line : Edit → List Edit → ℕ
last_line e [] = e.line
last_line e (f ∷ fs) = last_line f fs

-- the hunk of some edits: from three lines before the first to three lines behind the last, as far as there are lines
abbrev pub hunk : List Line → List Edit → List ℕ
hunk ls [] = []
hunk ls (e ∷ es) = hunk_text (e.line - 3 + 1) (slice_range ls (e.line - 3) (last_line e es + 4))

-- whether two edits stand in one hunk: the lines around them meet, or no line stands between these
abbrev pub are_near : Edit → Edit → Bool
are_near e f = nat_le (f.line - e.line) 7

-- the patch of a file's lines, nothing where nothing is edited
abbrev pub patch_of : List ℕ → List Line → List Edit → List ℕ
patch_of name ls [] = []
patch_of name ls (e ∷ es) =
    name_line (codes "--- ") name ++ name_line (codes "+++ ") name ++ flat_map (hunk ls) (runs are_near (e ∷ es))
