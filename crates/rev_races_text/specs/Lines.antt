-- The lines of races, clashes and hints.
use Rattle.std.specs.Prelude.{ℕ, ◌-◌, ◌==◌, nat_le, if◌then◌else◌, List, [], ◌∷◌, ◌++◌, Option, Some, None, bytes_eq, codes, decimal, slice_get}
use Rattle.std.specs.Option.{option_map}
use Rattle.rev_clashes.specs.Clashes.{path_in}
use Rattle.rev_clashes.specs.declared.side_file.SideFile.{SideFile}
use Rattle.rev_clashes.specs.declared.side_file.SideFile.TheVariants.{Depfile, ResponseFile}
use Rattle.rev_races.specs.declared.race.Kind.{Kind}
use Rattle.rev_races.specs.declared.race.Kind.TheVariants.{Race, Cycle, Own}
use Rattle.rev_manifest.specs.Manifest.{BuildValue}
use Rattle.rev_races_text.specs.Edges.{line_if, placed, placed_at, words_if}
use Rattle.rev_races_text.specs.Happened.{here_line}
use Rattle.rev_races_text.specs.Names.{name_if, path_words, written, written_if}
use Rattle.rev_races_text.specs.declared.edges.Edge.{Edge}
use Rattle.rev_races_text.specs.declared.others.Change.{Change}
use Rattle.rev_races_text.specs.declared.others.ClashLine.{ClashLine}
use Rattle.rev_races_text.specs.declared.others.Hint.{Hint}
use Rattle.rev_races_text.specs.declared.names.Made.{Made}
use Rattle.rev_races_text.specs.declared.names.Shown.{Shown}
use Rattle.rev_races_text.specs.declared.race.Evidence.{Evidence}
use Rattle.rev_races_text.specs.declared.race.Evidence.TheVariants as evidence
use Rattle.rev_races_text.specs.declared.race.ListedBefore.{ListedBefore}
use Rattle.rev_suspects.specs.declared.suspected.Progress.{Progress}
use Rattle.rev_suspects.specs.declared.suspected.Progress.TheVariants as progress
use Rattle.rev_shown.specs.Shown.{shown}

-- RACES
abbrev pub kind_word : Kind → List ℕ
kind_word Race = codes "race"
kind_word Cycle = codes "cycle"
kind_word Own = codes "own"

-- `race version.h made by version.h (build.ninja:14)`, and `race b.mod (by both.dd) made by b.o (build.ninja:11)`
abbrev pub maker_line : Kind → Made → Edge → List ℕ
maker_line kind path maker =
    kind_word kind ++ codes " " ++ path_words path ++ codes " made by " ++ placed maker ++ codes "\n"

-- what is said behind a user
abbrev pub user_ends : Kind → List ℕ
user_ends Race = codes ", which does not wait for it"
user_ends Cycle = codes ", for which the maker waits: no order mends that"
user_ends Own = codes ", which makes it: no order mends that"

-- the path by which a user is in the race, and how many more, where it is more than the path that the maker's line has
unfoldable pub through_words : List ℕ → Made → ℕ → List ℕ
through_words told path more =
    if more == 0 then (if bytes_eq path.path.0.now told then [] else codes " through " ++ path_words path)
    else codes " through " ++ path_words path ++ codes " and " ++ decimal more ++ codes " more"

-- `  used by main.o (build.ninja:19), which does not wait for it [1]`, with the number that `--witness` takes
abbrev pub user_line : Kind → List ℕ → Made → ℕ → Edge → ℕ → List ℕ
user_line kind told path more user number =
    codes "  used by " ++ placed user ++ through_words told path more ++ user_ends kind ++ codes " ["
    ++ decimal number ++ codes "]\n"

-- how far the maker was when a command began that failed
abbrev pub progress_words : Progress → List ℕ
progress_words progress.Running = codes "was running"
progress_words progress.Failed = codes "had failed"
progress_words progress.ToRun = codes "was still to run"

-- how the user's command ended, which did not end well
abbrev pub user_words : Option ℕ → List ℕ
user_words None = codes "the user did not end well"
user_words (Some number) = codes "the user failed at " ++ decimal number

-- how far the maker was then, where that is known
abbrev pub maker_words : Option Progress → List ℕ
maker_words None = []
maker_words (Some progress) = codes ", and the maker " ++ progress_words progress ++ codes " when it began"

-- what is known where the list is of before: `    here: the user failed at 9; it listed this when it was built before`
unfoldable pub before_line : ListedBefore → List ℕ
before_line l =
    codes "    here: " ++ user_words l.failed ++ maker_words l.maker
    ++ codes "; it listed this when it was built before\n"

-- what this recording shows: what happened with two runs, or of what it is known where the user failed
abbrev pub evidence_line : Evidence → List ℕ → List ℕ
evidence_line evidence.Own path = []
evidence_line (evidence.Story story) path = here_line story
evidence_line (evidence.Earlier listed) path = before_line listed
evidence_line (evidence.Error progress) path =
    codes "    here: the maker " ++ progress_words progress ++ codes " when the user began; its error names "
    ++ shown path ++ codes "\n"

-- `    mend: build.ninja:19: build main.o: ... || version.h`
abbrev pub mend_line : Edge → List ℕ → List ℕ
mend_line user output =
    codes "    mend: " ++ name_if user.file ++ line_if user.line ++ codes ": build " ++ written_if user.output ++ codes ": ... || "
    ++ written output ++ codes "\n"

-- how many are left out
abbrev pub more_line : List ℕ → ℕ → List ℕ → List ℕ
more_line before more after = if more == 0 then [] else before ++ decimal more ++ after

-- CLASHES
-- whose file it is, by its kind
abbrev pub whose : SideFile → List ℕ
whose Depfile = codes "the depfile of "
whose ResponseFile = codes "the response file of "

-- what can come of it, by the kind of the file
abbrev pub outcome : SideFile → List ℕ
outcome Depfile = codes "one of them can lose its list"
outcome ResponseFile = codes "one can read the other's"

-- `clash deps.d: the depfile of a.o (build.ninja:14)`
unfoldable pub first_words : Option Shown → SideFile → Edge → List ℕ
first_words path file edge = codes "clash " ++ name_if path ++ codes ": " ++ whose file ++ placed edge

-- ` and of b.o (build.ninja:19): one of them can lose its list`
unfoldable pub other_words : Edge → SideFile → List ℕ
other_words edge file = codes " and of " ++ placed edge ++ codes ": " ++ outcome file ++ codes "\n"

abbrev pub clash_line : ClashLine → List ℕ
clash_line c = first_words c.path c.file c.first ++ other_words c.other c.file

-- the same by numbers: the path is the one that the rule of the first edge says
abbrev pub side_path : SideFile → Option BuildValue → Option (List ℕ)
side_path kind build = option_map (path_in kind) build

abbrev pub first_at : SideFile → List BuildValue → List (List ℕ × List ℕ) → ℕ → List ℕ
first_at kind builds files first =
    codes "clash " ++ words_if (side_path kind (slice_get builds first)) ++ codes ": " ++ whose kind
    ++ placed_at builds files first

abbrev pub other_at : SideFile → List BuildValue → List (List ℕ × List ℕ) → ℕ → List ℕ
other_at kind builds files other =
    codes " and of " ++ placed_at builds files other ++ codes ": " ++ outcome kind ++ codes "\n"

abbrev pub clash_at : SideFile → List BuildValue → List (List ℕ × List ℕ) → ℕ → ℕ → List ℕ
clash_at kind builds files first other = first_at kind builds files first ++ other_at kind builds files other

-- HINTS
-- `hint main.o (build.ninja:19) lists /b/version.h`
unfoldable pub lists_words : Edge → List ℕ → List ℕ
lists_words user path = codes "hint " ++ placed user ++ codes " lists " ++ shown path

-- `, which is version.h, made by version.h (build.ninja:14), for which it does not wait`
unfoldable pub made_words : List ℕ → Edge → List ℕ
made_words output maker =
    codes ", which is " ++ shown output ++ codes ", made by " ++ placed maker
    ++ codes ", for which it does not wait\n"

abbrev pub hint_line : Hint → List ℕ
hint_line h = lists_words h.user h.path.0.now ++ made_words h.output.0.now h.maker

-- which commands ran when a file changed: the first of so many
unfoldable pub ran_words : Option Edge → ℕ → List ℕ
ran_words None n = codes "nothing ran\n"
ran_words (Some e) n =
    if nat_le n 1 then placed e ++ codes " ran: the user does not wait for it\n"
    else placed e ++ codes " and " ++ decimal (n - 1) ++ codes " more ran: the user waits for none of them\n"

-- `, which no edge makes`, and when it changed
unfoldable pub changed_words : ℕ → List ℕ
changed_words at = codes ", which no edge makes\n  it changed at " ++ decimal at ++ codes ", while "

abbrev pub change_line : Change → List ℕ
change_line c = lists_words c.user c.path.0.now ++ changed_words c.at ++ ran_words c.first c.commands
