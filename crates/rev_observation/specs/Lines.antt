-- What one more line adds to what the lines before it say. Of one line a fault of syntax counts first, then one of a
-- number, then numbers that are no entries' or do not rise, and last a path or an edge that has its line already. A line
-- that may not stand at its place is a fault of syntax, whatever else is wrong with it.
use Rattle.std.specs.Prelude.{ℕ, ◌^◌, ◌==◌, ◌&&◌, not, nat_lt, length, bytes_eq, codes, is_none, if◌then◌else◌, Bool, true, false, List, [], ◌∷◌, ◌++◌, Option, Some, None, Result, Ok, Err}
use Rattle.rev_fields.specs.Fields.{texts_of}
use Rattle.rev_fields.specs.Lines.{path_of}
use Rattle.rev_fields.specs.Numbers.{number_below}
use Rattle.rev_observed.specs.declared.faults.FaultKind.{FaultKind}
use Rattle.rev_observed.specs.declared.faults.FaultKind.TheVariants.{Syntax, Range}
use Rattle.rev_observed.specs.declared.path_set.PathRange.{PathRange}
use Rattle.rev_observed.specs.Faults.{◌>>=◌, of_fields}
use Rattle.rev_observed.specs.Lines.{count_said, or_syntax, set_of, set_said}
use Rattle.rev_observed.specs.Ranges.{number_of, ranges_of}
use Rattle.rev_observation.specs.declared.deed.Deed.{Deed}
use Rattle.rev_observation.specs.declared.flag.Flag.{Flag}
use Rattle.rev_observation.specs.declared.head.Observer.{Observer}
use Rattle.rev_observation.specs.declared.word.Word.{Word}
use Rattle.rev_observation.specs.declared.word.Word.TheVariants as word
use Rattle.rev_observation.specs.Blocks.{CommandValue, is_empty, last_line, last_of, may_flag, may_follow, may_take, with_flag, with_last, with_line, with_outside}
use Rattle.rev_observation.specs.Deeds.{has_text, is_change}
use Rattle.rev_observation.specs.Observations.{ObservationValue, also_put, begins, command_put, may_enter, may_name, may_open, path_put, with_commands}
use Rattle.rev_observation.specs.Words.{flag_of, word_of}

-- the number of an entry, of which there are so many
abbrev pub entry_said : ℕ → List ℕ → Result ℕ FaultKind
entry_said count text = of_fields (number_of text) >>= λ n. if nat_lt n count then Ok n else Err Range

-- `path PATH [FOLDER]`
abbrev pub path_said : ObservationValue → List (List ℕ) → Result ObservationValue FaultKind
path_said o [] = Err Syntax
path_said o (text ∷ []) = of_fields (path_of text) >>= λ path. path_put o path None
path_said o (text ∷ folder ∷ []) =
    of_fields (path_of text) >>= λ path. entry_said (length o.entries.paths) folder >>= λ n. path_put o path (Some n)
path_said o (text ∷ folder ∷ more ∷ rest) = Err Syntax

-- `also PATH N`
abbrev pub also_said : ObservationValue → List (List ℕ) → Result ObservationValue FaultKind
also_said o [] = Err Syntax
also_said o (text ∷ []) = Err Syntax
also_said o (text ∷ entry ∷ []) =
    of_fields (path_of text) >>= λ path. entry_said (length o.entries.paths) entry >>= λ n. also_put o path n
also_said o (text ∷ entry ∷ more ∷ rest) = Err Syntax

-- whether ranges are of one number alone
abbrev pub is_single : List PathRange → Bool
is_single [] = false
is_single (r ∷ []) = r.first == r.last
is_single (r ∷ s ∷ rs) = false

-- two entries at least
abbrev pub several_of : ℕ → List PathRange → Result (List PathRange) FaultKind
several_of count ranges = if is_single ranges then Err Syntax else set_of count ranges

-- `same N...`
abbrev pub same_said : ObservationValue → List (List ℕ) → Result ObservationValue FaultKind
same_said o texts =
    of_fields (ranges_of texts) >>= λ ranges. several_of (length o.entries.paths) ranges
    >>= λ set. Ok (record o { same = o.same ++ set ∷ [] })

-- `opening N...`
abbrev pub opening_said : ObservationValue → List (List ℕ) → Result ObservationValue FaultKind
opening_said o texts = set_said (length o.entries.paths) texts >>= λ set. Ok (record o { opening = Some set })

-- `hidden PATH N`
abbrev pub hidden_said : ObservationValue → List (List ℕ) → Result ObservationValue FaultKind
hidden_said o [] = Err Syntax
hidden_said o (text ∷ []) = Err Syntax
hidden_said o (text ∷ count ∷ []) =
    of_fields (path_of text) >>= λ path. of_fields (number_below (2 ^ 64) count)
    >>= λ n. Ok (record o { hidden = o.hidden ++ record { path = path; commands = n } ∷ [] })
hidden_said o (text ∷ count ∷ more ∷ rest) = Err Syntax

-- `ninja`
abbrev pub ninja_said : ObservationValue → List (List ℕ) → Result ObservationValue FaultKind
ninja_said o [] = Ok (record o { has_ninja = true })
ninja_said o (text ∷ rest) = Err Syntax

-- `edge OUT`
abbrev pub edge_said : ObservationValue → List (List ℕ) → Result ObservationValue FaultKind
edge_said o [] = Err Syntax
edge_said o (text ∷ []) = of_fields (path_of text) >>= λ output. command_put o output
edge_said o (text ∷ more ∷ rest) = Err Syntax

-- an observation with another command in the place of the last
abbrev pub last_put : ObservationValue → CommandValue → Result ObservationValue FaultKind
last_put o c = Ok (with_commands o (with_last o.commands c))

-- the flag in `FLAG CALL PROGRAM TEXT`
abbrev pub flag_said : List (List ℕ) → Result Flag FaultKind
flag_said [] = Err Syntax
flag_said (word ∷ []) = Err Syntax
flag_said (word ∷ call ∷ []) = Err Syntax
flag_said (word ∷ call ∷ program ∷ []) = Err Syntax
flag_said (word ∷ call ∷ program ∷ text ∷ []) =
    or_syntax (flag_of word) >>= λ kind. Ok (record { kind = kind; call = call; program = program; text = text })
flag_said (word ∷ call ∷ program ∷ text ∷ more ∷ rest) = Err Syntax

-- `flag FLAG CALL PROGRAM TEXT`, of the last command
abbrev pub flag_behind : ObservationValue → List (List ℕ) → Option CommandValue → Result ObservationValue FaultKind
flag_behind o texts None = Err Syntax
flag_behind o texts (Some c) =
    if may_flag c then (flag_said texts >>= λ flag. last_put o (with_flag c flag)) else Err Syntax

-- `outside N`, of the last command
abbrev pub outside_behind : ObservationValue → List (List ℕ) → Option CommandValue → Result ObservationValue FaultKind
outside_behind o texts None = Err Syntax
outside_behind o texts (Some c) =
    if is_none c.outside then (count_said texts >>= λ n. last_put o (with_outside c n)) else Err Syntax

-- `DEED [TEXT] N...`, of the last command, or of Ninja where no command has begun
abbrev pub deed_in : ObservationValue → Deed → List ℕ → List PathRange → Option CommandValue → ObservationValue
deed_in o deed text set None =
    record o { ninja = o.ninja ++ record { deed = deed; text = text; entries = set } ∷ [] }
deed_in o deed text set (Some c) =
    with_commands o (with_last o.commands (with_line c (record { deed = deed; text = text; entries = set })))

abbrev pub may_do_behind : ObservationValue → Deed → Option CommandValue → Bool
may_do_behind o deed None = o.has_ninja && is_change deed && may_follow (last_line o.ninja) deed
may_do_behind o deed (Some c) = may_take deed c

abbrev pub may_do : ObservationValue → Deed → Bool
may_do o deed = may_do_behind o deed (last_of o.commands)

abbrev pub deed_added : ObservationValue → Deed → List ℕ → List (List ℕ) → Result ObservationValue FaultKind
deed_added o deed text texts =
    set_said (length o.entries.paths) texts >>= λ set. Ok (deed_in o deed text set (last_of o.commands))

-- the text before the numbers, where the deed has one
abbrev pub deed_parted : ObservationValue → Deed → List (List ℕ) → Result ObservationValue FaultKind
deed_parted o deed [] = Err Syntax
deed_parted o deed (text ∷ texts) = deed_added o deed text texts

abbrev pub deed_said : ObservationValue → Deed → List (List ℕ) → Result ObservationValue FaultKind
deed_said o deed texts = if has_text deed then deed_parted o deed texts else deed_added o deed [] texts

-- `PATHS EDGES LINES SUM`, of which this gives LINES: whether they are those of a whole observation, `Ends` says
abbrev pub counts_said : List (List ℕ) → Result ℕ FaultKind
counts_said [] = Err Syntax
counts_said (paths ∷ []) = Err Syntax
counts_said (paths ∷ edges ∷ []) = Err Syntax
counts_said (paths ∷ edges ∷ lines ∷ []) = Err Syntax
counts_said (paths ∷ edges ∷ lines ∷ sum ∷ []) =
    of_fields (number_below (2 ^ 64) paths) >>= λ m. of_fields (number_below (2 ^ 64) edges)
    >>= λ n. of_fields (number_below (2 ^ 64) lines)
counts_said (paths ∷ edges ∷ lines ∷ sum ∷ more ∷ rest) = Err Syntax

-- `end PATHS EDGES LINES SUM`
abbrev pub end_said : ObservationValue → List (List ℕ) → Result ObservationValue FaultKind
end_said o texts = counts_said texts >>= λ lines. Ok (record o { is_ended = true })

-- whether a line that begins with this word may stand behind those before it
abbrev pub may_stand : ObservationValue → Word → Bool
may_stand o word.Path = may_enter o
may_stand o word.Also = may_name o
may_stand o word.Same = may_open o
may_stand o word.Opening = may_open o
may_stand o word.Hidden = not (begins o)
may_stand o word.Ninja = not (begins o)
may_stand o word.Edge = true
may_stand o word.Flag = true
may_stand o (word.Deed deed) = may_do o deed
may_stand o word.Outside = true
may_stand o word.End = true

-- what a line adds that begins with this word, where it may stand
abbrev pub added_by : ObservationValue → Word → List (List ℕ) → Result ObservationValue FaultKind
added_by o word.Path texts = path_said o texts
added_by o word.Also texts = also_said o texts
added_by o word.Same texts = same_said o texts
added_by o word.Opening texts = opening_said o texts
added_by o word.Hidden texts = hidden_said o texts
added_by o word.Ninja texts = ninja_said o texts
added_by o word.Edge texts = edge_said o texts
added_by o word.Flag texts = flag_behind o texts (last_of o.commands)
added_by o (word.Deed deed) texts = deed_said o deed texts
added_by o word.Outside texts = outside_behind o texts (last_of o.commands)
added_by o word.End texts = end_said o texts

abbrev pub added_where : ObservationValue → List (List ℕ) → Option Word → Result ObservationValue FaultKind
added_where o texts None = Err Syntax
added_where o texts (Some word) = if may_stand o word then added_by o word texts else Err Syntax

-- what a line adds whose fields have these texts
abbrev pub texts_added : ObservationValue → List (List ℕ) → Result ObservationValue FaultKind
texts_added o [] = Err Syntax
texts_added o (word ∷ texts) = added_where o texts (word_of word)

-- nothing follows the last line
abbrev pub line_added : ObservationValue → List ℕ → Result ObservationValue FaultKind
line_added o line = if o.is_ended then Err Syntax else (or_syntax (texts_of line) >>= λ texts. texts_added o texts)

-- what observed, in `by NAME RELEASE MACHINE`
abbrev pub by_said : List (List ℕ) → Result Observer FaultKind
by_said [] = Err Syntax
by_said (word ∷ []) = Err Syntax
by_said (word ∷ name ∷ []) = Err Syntax
by_said (word ∷ name ∷ release ∷ []) = Err Syntax
by_said (word ∷ name ∷ release ∷ machine ∷ []) =
    if bytes_eq word (codes "by") then Ok (record { name = name; release = release; machine = machine }) else Err Syntax
by_said (word ∷ name ∷ release ∷ machine ∷ more ∷ rest) = Err Syntax

abbrev pub by_line : List ℕ → Result Observer FaultKind
by_line line = or_syntax (texts_of line) >>= λ texts. by_said texts
