use Rattle.std.proofs.Common.{◌∙◌, [], List, Option, ap, map, string_bytes, sym, unwrap_or}
use Rattle.clap.specs.Words.{Text, all_of, found_of, rows_of}
use Rattle.clap.proofs.WalkLemmas.{raw_values-rows}
use Rattle.rev_asking.proofs.Given.{rows-given}
use Rattle.rev_asking.proofs.words.read_values.Goals as goal

pub returns-in-Some-clause-values : goal.returns-in-Some-clause-values
returns-in-Some-clause-values c =
    let words = map string_bytes c.args.words.now in
    let rows = rows-given words c.in_ok-matches.matches (rows_of (found_of c.in-Some.given.now)) c.in_ok-matches.ensures.rows c.in-Some.ensures.rows in
    c.in_ok-values-in-Some.ensures
    ∙ ap (λ (o : Option (List Text)). unwrap_or o []) (raw_values-rows (found_of c.in-Some.given.now) c.args.name.now
    ∙ ap (all_of c.args.name.now) (sym rows))
