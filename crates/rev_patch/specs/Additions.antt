-- Order-only inputs that are added to the build statements of a manifest.
use Rattle.std.specs.Prelude.{ℕ, ◌-◌, ◌==◌, Bool, true, false, not, ◌&&◌, ◌||◌, if◌then◌else◌, List, [], ◌∷◌, ◌++◌, take, drop, map, Option, Some, None, codes}
use Rattle.std.specs.List.{flat_map, list_all, list_any, slice_get}
use Rattle.rev_patch.specs.declared.changes.Addition.{Addition}
use Rattle.rev_patch.specs.declared.statement.Place.{Place}
use Rattle.rev_patch.specs.Lines.{Edit, Line, lines_of}
use Rattle.rev_patch.specs.Runs.{runs}
use Rattle.rev_patch.specs.Statement.{place_in, statement}

-- whether a path can be written on a build line: it has no `|`, LF or CR
abbrev pub is_written : List ℕ → Bool
is_written path = not (list_any (λ b. b == 124) path) && (not (list_any (λ b. b == 10) path) && not (list_any (λ b. b == 13) path))

-- a path as it is written there: a `$` stands before each `$`, space and `:`
abbrev pub written_byte : ℕ → List ℕ
written_byte b = if b == 36 || (b == 32 || b == 58) then 36 ∷ b ∷ [] else b ∷ []

abbrev pub written : List ℕ → List ℕ
written path = flat_map written_byte path

-- the paths of some additions, with a space between each two
abbrev pub spaced_path : Addition → List ℕ
spaced_path a = 32 ∷ written a.path.now

abbrev pub paths_text : List Addition → List ℕ
paths_text [] = []
paths_text (a ∷ adds) = written a.path.now ++ flat_map spaced_path adds

abbrev pub unless : Bool → List ℕ → List ℕ
unless true text = []
unless false text = text

-- what is put at a place: a space, `||` where that is not there, and the paths
abbrev pub added : Place → List Addition → List ℕ
added p adds = codes " " ++ unless p.has_sign (codes "|| ") ++ paths_text adds

abbrev pub edit_in : List Addition → Place → Option (List ℕ) → List Edit
edit_in adds p None = []
edit_in adds p (Some l) = record { line = p.line; text = take p.at l ++ added p adds ++ drop p.at l } ∷ []

abbrev pub edit_at : List (List ℕ) → List Addition → Option Place → List Edit
edit_at ls adds None = []
edit_at ls adds (Some p) = edit_in adds p (slice_get ls p.line)

-- Where the additions to one statement are put, in a file of these lines: nowhere where it would begin at no line of the
-- file, or where a path cannot be written.
abbrev pub place_for : List (List ℕ) → List Addition → Option Place
place_for ls [] = None
place_for ls (a ∷ adds) =
    if a.line == 0 || not (list_all (λ b. is_written b.path.now) (a ∷ adds)) then None
    else place_in (a.line - 1) (statement (drop (a.line - 1) ls))

-- the edit for them, if there is a place
abbrev pub edits_for : List (List ℕ) → List Addition → List Edit
edits_for ls adds = edit_at ls adds (place_for ls adds)

-- whether two additions are to one statement
abbrev pub same_line : Addition → Addition → Bool
same_line a b = a.line == b.line

abbrev pub texts_of : List Line → List (List ℕ)
texts_of ls = map (λ l. l.old) ls

-- the edits for all additions, those of one statement beside each other
abbrev pub edits_of : List ℕ → List Addition → List Edit
edits_of text adds = flat_map (edits_for (texts_of (lines_of text))) (runs same_line adds)
