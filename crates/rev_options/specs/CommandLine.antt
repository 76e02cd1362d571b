-- What the words of a command line mean.
use Rattle.std.specs.Prelude.{◌≡◌, true, codes, is_some, List, [], Option, Some, unwrap_or}
use Rattle.clap.specs.Built.{IsParsedFrom}
use Rattle.clap.specs.Lexer.{usize_max}
use Rattle.clap.specs.Words.{App, Rule, Text, all_of, first_of, first_value, found_of, matches_of, new_app, new_rule, with_rule}
use Rattle.clap.specs.Simple.{on_top}
use Rattle.clap.specs.declared.builder.command.Command.{Command}
use Rattle.clap.specs.declared.parser.matches.ArgMatches.{ArgMatches}
use Rattle.clap.specs.declared.builder.action.ArgAction.TheVariants.{Append, Set, SetTrue}

-- `--NAME FILE`, which has to be given
abbrev pub file_rule : Text → Rule
file_rule name = record (new_rule name) { long = Some name; value_names = 1; required = true; action = Some Set }

-- `--NAME`, which takes no value
abbrev pub flag_rule : Text → Rule
flag_rule name = record (new_rule name) { long = Some name; action = Some SetTrue }

-- the words that are no options, any number of them
abbrev pub others_rule : Rule
others_rule = record (new_rule (codes "FILE")) {
  range = Some (record { start_inclusive = 0; end_inclusive = usize_max });
  action = Some Append;
}

-- the program without its arguments, which has a version
abbrev pub bare_program : App
bare_program = on_top (λ s. record s { has_version = true }) (new_app (codes "rebug"))

-- the program with its arguments
abbrev pub program : App
program =
    with_rule (with_rule (with_rule (with_rule (with_rule (with_rule bare_program
    (file_rule (codes "manifest"))) (file_rule (codes "trace"))) (file_rule (codes "script")))
    (flag_rule (codes "workers"))) (flag_rule (codes "migrate"))) others_rule

-- the value of an option, if the words give it one
abbrev pub value_in : List Text → Text → Option Text
value_in words name = first_of name (matches_of program words)

-- the words that are no options, in their order
abbrev pub others_in : List Text → List Text
others_in words = unwrap_or (all_of (codes "FILE") (matches_of program words)) []

-- words that such a command line takes give the option a value
abbrev pub Gives : Command → Text → Type 0
Gives c name = (m : ArgMatches) → IsParsedFrom c m → is_some (first_value (found_of m) name) ≡ true
