-- What the words of a command line ask for.
use Rattle.std.specs.Prelude.{true, codes, bytes_eq, if◌then◌else◌, List, [], ◌∷◌, Option, Some, unwrap_or, option_map}
use Rattle.clap.specs.Words.{App, Row, Rule, Shape, Text, all_of, first_of, new_app, new_rule, subcommand_of, with_rule, with_subcommand}
use Rattle.clap.specs.Simple.{new_shape, on_top}
use Rattle.clap.specs.declared.builder.action.ArgAction.TheVariants.{Append, Set, SetTrue}
use Rattle.rev_asking.specs.declared.words.Word.{Word}
use Rattle.rev_asking.specs.declared.words.Word.TheVariants.{Ask, Certify, Compare, Picture, Races, Replay, Schedule, Separate, Shuffle, Timeline}

-- the recording, which has to be given
abbrev pub recording_rule : Rule
recording_rule = record (new_rule (codes "RECORDING")) { required = true; action = Some Set }

-- `--NAME`, which takes no value
abbrev pub flag_rule : Text → Rule
flag_rule name = record (new_rule name) { long = Some name; action = Some SetTrue }

-- `--NAME VALUE`
abbrev pub value_rule : Text → Rule
value_rule name = record (new_rule name) { long = Some name; value_names = 1; action = Some Set }

-- `--NAME VALUE`, which may be given several times
abbrev pub repeated_rule : Text → Rule
repeated_rule name = record (new_rule name) { long = Some name; value_names = 1; action = Some Append }

-- `-j N,..`: 106 is the letter j
abbrev pub jobs_rule : Rule
jobs_rule = record (new_rule (codes "jobs")) { short = Some 106; value_names = 1; action = Some Set }

-- a command of this name with these arguments
abbrev pub shape_with : Text → List Rule → Shape
shape_with name rules = record (new_shape name) { rules = rules }

-- what `races` and `certify` take alike: `[--filters FILE] [--format FORMAT] [--baseline FILE] [--write-baseline FILE]`
abbrev pub with_findings : App → App
with_findings app =
    with_rule
    (with_rule (with_rule (with_rule app (value_rule (codes "filters"))) (value_rule (codes "format")))
    (value_rule (codes "baseline")))
    (value_rule (codes "write-baseline"))

-- `races [--all] [--json] [--mend] [--witness N] [--provoke N] RECORDING`, and what both take
abbrev pub bare_races : App
bare_races =
    with_rule
    (with_rule
    (with_rule
    (with_rule
    (with_rule (with_rule (new_app (codes "races")) (flag_rule (codes "all"))) (flag_rule (codes "json")))
    (flag_rule (codes "mend")))
    (value_rule (codes "witness")))
    (value_rule (codes "provoke")))
    recording_rule

abbrev pub races_shape : Shape
races_shape = (with_findings bare_races).top

-- `certify [--all] [--json] [--strict] [--trust FILE] RECORDING`, and what both take
abbrev pub bare_certify : App
bare_certify =
    with_rule
    (with_rule
    (with_rule
    (with_rule (with_rule (new_app (codes "certify")) (flag_rule (codes "all"))) (flag_rule (codes "json")))
    (flag_rule (codes "strict")))
    (value_rule (codes "trust")))
    recording_rule

abbrev pub certify_shape : Shape
certify_shape = (with_findings bare_certify).top

-- `replay RECORDING`
abbrev pub replay_shape : Shape
replay_shape = shape_with (codes "replay") (recording_rule ∷ [])

-- `ask [--json] RECORDING`
abbrev pub ask_shape : Shape
ask_shape = shape_with (codes "ask") (flag_rule (codes "json") ∷ recording_rule ∷ [])

-- the file to write, which may be left out
abbrev pub out_rule : Rule
out_rule = record (new_rule (codes "OUT")) { action = Some Set }

-- `picture [--html] [--event N] RECORDING [OUT]`
abbrev pub picture_shape : Shape
picture_shape =
    shape_with (codes "picture")
    (flag_rule (codes "html") ∷ value_rule (codes "event") ∷ recording_rule ∷ out_rule ∷ [])

-- `timeline RECORDING [OUT]`
abbrev pub timeline_shape : Shape
timeline_shape = shape_with (codes "timeline") (recording_rule ∷ out_rule ∷ [])

-- the other recording, which has to be given
abbrev pub other_rule : Rule
other_rule = record (new_rule (codes "OTHER")) { required = true; action = Some Set }

-- `compare [--all] [--json] RECORDING OTHER`
abbrev pub compare_shape : Shape
compare_shape =
    shape_with (codes "compare")
    (flag_rule (codes "all") ∷ flag_rule (codes "json") ∷ recording_rule ∷ other_rule ∷ [])

-- `schedule [-j N,..] [--faster OUT=FACTOR].. [--pool NAME=DEPTH].. [--without FILE] [--json] RECORDING`
abbrev pub schedule_shape : Shape
schedule_shape =
    shape_with (codes "schedule")
    (jobs_rule ∷ repeated_rule (codes "faster") ∷ repeated_rule (codes "pool") ∷ value_rule (codes "without")
    ∷ flag_rule (codes "json") ∷ recording_rule ∷ [])

-- `shuffle [--list] [--runs N] [--json] RECORDING`
abbrev pub shuffle_shape : Shape
shuffle_shape =
    shape_with (codes "shuffle")
    (flag_rule (codes "list") ∷ value_rule (codes "runs") ∷ flag_rule (codes "json") ∷ recording_rule ∷ [])

-- `separate`
abbrev pub separate_shape : Shape
separate_shape = new_shape (codes "separate")

-- the program without its words: one has to be given
abbrev pub bare_program : App
bare_program = on_top (λ s. record s { has_version = true; subcommand_required = true }) (new_app (codes "rebug"))

-- the program
abbrev pub program : App
program =
    with_subcommand
    (with_subcommand
    (with_subcommand
    (with_subcommand
    (with_subcommand
    (with_subcommand
    (with_subcommand (with_subcommand (with_subcommand (with_subcommand bare_program races_shape) certify_shape)
    replay_shape) ask_shape)
    picture_shape)
    timeline_shape)
    compare_shape)
    schedule_shape)
    shuffle_shape)
    separate_shape

-- the word that a name is
abbrev pub word_named : Text → Word
word_named name =
    if bytes_eq name (codes "replay") then Replay else
    if bytes_eq name (codes "ask") then Ask else
    if bytes_eq name (codes "certify") then Certify else
    if bytes_eq name (codes "picture") then Picture else
    if bytes_eq name (codes "timeline") then Timeline else
    if bytes_eq name (codes "compare") then Compare else
    if bytes_eq name (codes "schedule") then Schedule else
    if bytes_eq name (codes "shuffle") then Shuffle else
    if bytes_eq name (codes "separate") then Separate else Races

-- the word that was given, and what was given to it
abbrev pub given_name : List Text → Text
given_name words = unwrap_or (option_map (λ p. p.0) (subcommand_of program words)) []

abbrev pub given_rows : List Text → List Row
given_rows words = unwrap_or (option_map (λ p. p.1) (subcommand_of program words)) []

-- the value of an argument of that word, if it was given one
abbrev pub value_in : List Text → Text → Option Text
value_in words name = first_of name (given_rows words)

-- the values of an argument of that word that may be given several times, in their order
abbrev pub values_in : List Text → Text → List Text
values_in words name = unwrap_or (all_of name (given_rows words)) []
