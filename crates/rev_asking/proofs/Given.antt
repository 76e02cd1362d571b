-- What was given to the word of a command line.
use Rattle.std.proofs.Common.{◌≡◌, ◌∙◌, ap, sym, List, [], Option, Some, None, unwrap_or}
use Rattle.std.specs.Option.{option_map}
use Rattle.clap.specs.Words.{Row, Text, subcommand_of, subcommand_rows_of}
use Rattle.clap.specs.declared.parser.matches.ArgMatches.{ArgMatches}
use Rattle.rev_asking.specs.Asking.{given_rows, program}

pub rows-given : (words : List Text) (m : ArgMatches) (rows : List Row) → subcommand_rows_of m ≡ subcommand_of program words
    → Some rows ≡ option_map (λ p. p.1) (subcommand_rows_of m) → given_rows words ≡ rows
rows-given words m rows same is =
    ap (λ (o : Option (Text × List Row)). unwrap_or (option_map (λ p. p.1) o) []) (sym same) ∙ ap (λ (o : Option (List Row)). unwrap_or o []) (sym is)

pub rows-none : (words : List Text) (m : ArgMatches) → subcommand_rows_of m ≡ subcommand_of program words
    → None ≡ option_map (λ p. p.1) (subcommand_rows_of m) → given_rows words ≡ []
rows-none words m same is =
    ap (λ (o : Option (Text × List Row)). unwrap_or (option_map (λ p. p.1) o) []) (sym same) ∙ ap (λ (o : Option (List Row)). unwrap_or o []) (sym is)
