-- What the lines of an observation are in a scene.
use Rattle.std.specs.Prelude.{List, [], map, Option, Some, None}
use Rattle.std.specs.List.{flat_map}
use Rattle.rev_observed.specs.declared.path_set.PathRange.{PathRange}
use Rattle.rev_observation.specs.declared.blocks.Line.{Line}
use Rattle.rev_observation.specs.declared.deed.Deed.{Deed}
use Rattle.rev_observation.specs.declared.deed.Deed.TheVariants as deed
use Rattle.rev_observation.specs.declared.look.Change.{Change}
use Rattle.rev_observation.specs.declared.look.Change.TheVariants as change
use Rattle.rev_observation.specs.declared.look.Look.{Look}
use Rattle.rev_observation.specs.declared.look.Look.TheVariants as look
use Rattle.rev_entry_conflicts.specs.declared.deed.Deed.{Deed as Act}
use Rattle.rev_entry_conflicts.specs.declared.word.Word.{Word}
use Rattle.rev_entry_conflicts.specs.declared.word.Word.TheVariants as word

-- WORDS
abbrev pub look_word : Look → Word
look_word look.Read = word.Read
look_word look.Status = word.Status
look_word look.Mode = word.Mode
look_word look.There = word.There
look_word look.Folder = word.Folder
look_word look.Link = word.Link
look_word look.Missing = word.Missing
look_word look.Passed = word.Passed
look_word look.Listed = word.Listed
look_word look.Own = word.Own
look_word look.Searched = word.Searched
look_word look.After = word.After

abbrev pub change_word : Change → Word
change_word change.Left = word.Left
change_word change.Edited = word.Edited
change_word change.Taken = word.Taken
change_word change.Temps = word.Temp
change_word change.Linked = word.Linked
change_word change.Made = word.Made
change_word change.Found = word.Found
change_word change.Ensured = word.Ensured
change_word change.Removed = word.Removed

-- What a deed of a command is called in a scene. That a folder is a cache is for a certificate to tell.
abbrev pub word_of : Deed → Option Word
word_of deed.Cached = None
word_of (deed.Look look) = Some (look_word look)
word_of (deed.Change change) = Some (change_word change)
word_of deed.Prepared = Some word.Prepared

-- What a change of Ninja's own is called. Ninja takes away depfiles, and makes and takes away response files: these are
-- acts of the edges that have them.
abbrev pub ninja_change : Change → Option Word
ninja_change change.Taken = None
ninja_change change.Temps = None
ninja_change change.Left = Some word.Left
ninja_change change.Edited = Some word.Edited
ninja_change change.Linked = Some word.Linked
ninja_change change.Made = Some word.Made
ninja_change change.Found = Some word.Found
ninja_change change.Ensured = Some word.Ensured
ninja_change change.Removed = Some word.Removed

abbrev pub ninja_word : Deed → Option Word
ninja_word deed.Cached = None
ninja_word (deed.Look look) = None
ninja_word (deed.Change change) = ninja_change change
ninja_word deed.Prepared = None

-- LINES
abbrev pub act_at : Word → PathRange → Act
act_at word range = record { word = word; first = range.first; last = range.last }

abbrev pub acts_by : Option Word → List PathRange → List Act
acts_by None ranges = []
acts_by (Some word) ranges = map (act_at word) ranges

-- each line is a deed at each of its ranges
abbrev pub acts_of_line : Line → List Act
acts_of_line line = acts_by (word_of line.deed) line.entries

abbrev pub acts_of : List Line → List Act
acts_of lines = flat_map acts_of_line lines

abbrev pub ninja_line : Line → List Act
ninja_line line = acts_by (ninja_word line.deed) line.entries

abbrev pub ninja_acts : List Line → List Act
ninja_acts lines = flat_map ninja_line lines
