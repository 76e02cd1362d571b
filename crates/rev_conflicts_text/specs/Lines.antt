-- The lines of findings.
use Rattle.std.specs.Prelude.{ℕ, ◌==◌, List, [], ◌++◌, codes, decimal, if◌then◌else◌}
use Rattle.rev_conflicts.specs.declared.conflict.Change.{Change}
use Rattle.rev_conflicts.specs.declared.conflict.Change.TheVariants as change
use Rattle.rev_conflicts.specs.declared.conflict.Look.{Look}
use Rattle.rev_conflicts.specs.declared.conflict.Look.TheVariants as look
use Rattle.rev_conflicts_text.specs.declared.finding.Kind.{Kind}
use Rattle.rev_conflicts_text.specs.declared.finding.Kind.TheVariants as kind
use Rattle.rev_races_text.specs.Edges.{line_if, placed}
use Rattle.rev_races_text.specs.Lines.{through_words}
use Rattle.rev_races_text.specs.Names.{name_if, path_words, written, written_if}
use Rattle.rev_races_text.specs.declared.edges.Edge.{Edge}
use Rattle.rev_races_text.specs.declared.names.Made.{Made}
use Rattle.rev_shown.specs.Shown.{shown}

-- the word that a group begins with
abbrev pub kind_word : Kind → List ℕ
kind_word kind.Race = codes "race"
kind_word kind.Cycle = codes "cycle"
kind_word kind.Clash = codes "clash"
kind_word kind.Unstable = codes "unstable"
kind_word kind.Undeclared = codes "undeclared"
kind_word kind.Anothers = codes "undeclared"
kind_word kind.Unlisted = codes "unlisted"

-- what stands between the path and the maker
abbrev pub before_maker : Kind → Change → List ℕ
before_maker kind.Race change.Output = codes " made by "
before_maker kind.Cycle change.Output = codes " made by "
before_maker _ _ = codes ": "

-- what the maker does at the place, behind the maker
abbrev pub behind_maker : Kind → Change → List ℕ
behind_maker kind.Race change.Output = []
behind_maker kind.Cycle change.Output = []
behind_maker _ change.Output = codes " writes it"
behind_maker _ change.Edit = codes " changes it in place"
behind_maker _ change.Undeclared = codes " writes it, though no line says so"
behind_maker _ change.Delete = codes " takes it away"
behind_maker _ change.Temporary = codes " makes it, and takes it away again"
behind_maker _ change.Entry = codes " makes or takes away an entry of this folder"

-- `race extra.h: gen.stamp (build.ninja:9) writes it, though no line says so`
abbrev pub head_line : Kind → Change → Made → Edge → List ℕ
head_line kind change path maker =
    kind_word kind ++ codes " " ++ path_words path ++ before_maker kind change ++ placed maker
    ++ behind_maker kind change ++ codes "\n"

-- what stands before a user
abbrev pub user_begins : Kind → List ℕ
user_begins kind.Clash = codes "  so does "
user_begins kind.Anothers = codes "  an output of "
user_begins _ = codes "  used by "

-- how a user looked at a place that it does not wait for
abbrev pub race_ends : Look → Change → List ℕ
race_ends look.Read _ = codes ", which does not wait for it"
race_ends look.Miss change.Delete = codes ", which asked for it and found nothing, and does not wait for it"
race_ends look.Miss change.Temporary = codes ", which asked for it and found nothing, and does not wait for it"
race_ends look.Miss _ = codes ", which asked for it before it was there, and does not wait for it"
race_ends look.Stat _ = codes ", which asked whether it is there, and does not wait for it"
race_ends look.List _ = codes ", which lists the folder, and does not wait for it"

-- what is said behind a user
abbrev pub user_ends : Kind → Look → Change → List ℕ
user_ends kind.Race look change = race_ends look change
user_ends kind.Cycle look change = codes ", for which the maker waits: no order mends that"
user_ends kind.Clash look change = codes ": both write, and neither waits for the other"
user_ends kind.Unstable look change = codes ", which looked at it before: the next build shows it another file"
user_ends kind.Undeclared look change = []
user_ends kind.Anothers look change = codes ", whose line says so"
user_ends kind.Unlisted look change = codes ", whose line and list do not have it"

-- `  used by main.o (build.ninja:19), which does not wait for it [1]`
abbrev pub user_line : Kind → Look → Change → List ℕ → Made → ℕ → Edge → ℕ → List ℕ
user_line kind look change told path more user number =
    user_begins kind ++ placed user ++ through_words told path more ++ user_ends kind look change ++ codes " ["
    ++ decimal number ++ codes "]\n"

-- `unlisted helper.py: commands read it, though neither their lines nor their lists have it`
abbrev pub unlisted_head : List ℕ → List ℕ
unlisted_head path =
    codes "unlisted " ++ shown path ++ codes ": commands read it, though neither their lines nor their lists have it\n"

-- `  read by out.txt (build.ninja:6) [3]`
abbrev pub unlisted_line : Edge → ℕ → List ℕ
unlisted_line user number = codes "  read by " ++ placed user ++ codes " [" ++ decimal number ++ codes "]\n"

-- `    list: has this file as /work/build/gen/version.h`
abbrev pub listed_line : List ℕ → List ℕ
listed_line path = codes "    list: has this file as " ++ shown path ++ codes "\n"

-- `    mend: build.ninja:9: build gen.stamp | extra.h: ...`
abbrev pub declare_line : Edge → List ℕ → List ℕ
declare_line maker path =
    codes "    mend: " ++ name_if maker.file ++ line_if maker.line ++ codes ": build " ++ written_if maker.output
    ++ codes " | " ++ written path ++ codes ": ...\n"

-- `    mend: build.ninja:6: build out.txt: ... | helper.py`
unfoldable pub build_words : Edge → List ℕ
build_words user =
    codes "    mend: " ++ name_if user.file ++ line_if user.line ++ codes ": build " ++ written_if user.output

unfoldable pub listed_words : List ℕ → List ℕ
listed_words path = codes ": ... | " ++ written path ++ codes ", or a depfile that lists it\n"

abbrev pub list_line : Edge → List ℕ → List ℕ
list_line user path = build_words user ++ listed_words path

-- `    mend: build.ninja:6: build out.txt: ... | names.h`
unfoldable pub order_begins : List ℕ → Edge → List ℕ
order_begins head edge = head ++ name_if edge.file ++ line_if edge.line ++ codes ": build " ++ written_if edge.output

unfoldable pub order_ends : List ℕ → List ℕ → List ℕ → List ℕ
order_ends sign path end = codes ": ... " ++ sign ++ codes " " ++ written path ++ end ++ codes "\n"

abbrev pub order_line : List ℕ → Edge → List ℕ → List ℕ → List ℕ → List ℕ
order_line head edge sign path end = order_begins head edge ++ order_ends sign path end
