use Rattle.std.proofs.Common.{◌≡◌, ◌∙◌, [], List, Option, ap, codes, map, string_bytes, sym, unwrap_or}
use Rattle.clap.specs.Words.{Text, first_of, first_value, found_of, rows_of}
use Rattle.clap.specs.declared.parser.matches.ArgMatches.{ArgMatches}
use Rattle.clap.proofs.WalkLemmas.{first_value-rows}
use Rattle.rev_asking.specs.Asking.{given_rows, value_in}
use Rattle.rev_asking.proofs.Given.{rows-given}
use Rattle.rev_asking.proofs.words.read_words.Goals as goal

-- a value of what was given is that of the words
same : (words : List Text) (given : ArgMatches) (name : Text) → given_rows words ≡ rows_of (found_of given) → first_value (found_of given) name ≡ value_in words name
same words given name rows = first_value-rows (found_of given) name ∙ ap (first_of name) (sym rows)

pub returns-in-Some-clause-recording : goal.returns-in-Some-clause-recording
returns-in-Some-clause-recording c =
    let words = map string_bytes c.args.words.now in
    let rows = rows-given words c.in_ok-matches.matches (rows_of (found_of c.in-Some.given.now)) c.in_ok-matches.ensures.rows c.in-Some.ensures.rows in
    c.asked_of.ensures.recording ∙ ap (λ (o : Option Text). unwrap_or o []) (same words c.in-Some.given.now (codes "RECORDING") rows)

pub returns-in-Some-clause-html : goal.returns-in-Some-clause-html
returns-in-Some-clause-html c =
    let words = map string_bytes c.args.words.now in
    let rows = rows-given words c.in_ok-matches.matches (rows_of (found_of c.in-Some.given.now)) c.in_ok-matches.ensures.rows c.in-Some.ensures.rows in
    let is = same words c.in-Some.given.now (codes "html") rows in
    ((λ on. sym is ∙ c.asked_of.ensures.html.0 on), (λ e. c.asked_of.ensures.html.1 (is ∙ e)))

pub returns-in-Some-clause-other : goal.returns-in-Some-clause-other
returns-in-Some-clause-other c =
    let words = map string_bytes c.args.words.now in
    let rows = rows-given words c.in_ok-matches.matches (rows_of (found_of c.in-Some.given.now)) c.in_ok-matches.ensures.rows c.in-Some.ensures.rows in
    c.asked_of.ensures.other ∙ same words c.in-Some.given.now (codes "OTHER") rows

pub returns-in-Some-clause-out : goal.returns-in-Some-clause-out
returns-in-Some-clause-out c =
    let words = map string_bytes c.args.words.now in
    let rows = rows-given words c.in_ok-matches.matches (rows_of (found_of c.in-Some.given.now)) c.in_ok-matches.ensures.rows c.in-Some.ensures.rows in
    c.asked_of.ensures.out ∙ same words c.in-Some.given.now (codes "OUT") rows

pub returns-in-Some-clause-event : goal.returns-in-Some-clause-event
returns-in-Some-clause-event c =
    let words = map string_bytes c.args.words.now in
    let rows = rows-given words c.in_ok-matches.matches (rows_of (found_of c.in-Some.given.now)) c.in_ok-matches.ensures.rows c.in-Some.ensures.rows in
    c.asked_of.ensures.event ∙ same words c.in-Some.given.now (codes "event") rows

pub returns-in-Some-clause-all : goal.returns-in-Some-clause-all
returns-in-Some-clause-all c =
    let words = map string_bytes c.args.words.now in
    let rows = rows-given words c.in_ok-matches.matches (rows_of (found_of c.in-Some.given.now)) c.in_ok-matches.ensures.rows c.in-Some.ensures.rows in
    let is = same words c.in-Some.given.now (codes "all") rows in
    ((λ on. sym is ∙ c.asked_of.ensures.all.0 on), (λ e. c.asked_of.ensures.all.1 (is ∙ e)))

pub returns-in-Some-clause-json : goal.returns-in-Some-clause-json
returns-in-Some-clause-json c =
    let words = map string_bytes c.args.words.now in
    let rows = rows-given words c.in_ok-matches.matches (rows_of (found_of c.in-Some.given.now)) c.in_ok-matches.ensures.rows c.in-Some.ensures.rows in
    let is = same words c.in-Some.given.now (codes "json") rows in
    ((λ on. sym is ∙ c.asked_of.ensures.json.0 on), (λ e. c.asked_of.ensures.json.1 (is ∙ e)))

pub returns-in-Some-clause-mend : goal.returns-in-Some-clause-mend
returns-in-Some-clause-mend c =
    let words = map string_bytes c.args.words.now in
    let rows = rows-given words c.in_ok-matches.matches (rows_of (found_of c.in-Some.given.now)) c.in_ok-matches.ensures.rows c.in-Some.ensures.rows in
    let is = same words c.in-Some.given.now (codes "mend") rows in
    ((λ on. sym is ∙ c.asked_of.ensures.mend.0 on), (λ e. c.asked_of.ensures.mend.1 (is ∙ e)))

pub returns-in-Some-clause-witness : goal.returns-in-Some-clause-witness
returns-in-Some-clause-witness c =
    let words = map string_bytes c.args.words.now in
    let rows = rows-given words c.in_ok-matches.matches (rows_of (found_of c.in-Some.given.now)) c.in_ok-matches.ensures.rows c.in-Some.ensures.rows in
    c.asked_of.ensures.witness ∙ same words c.in-Some.given.now (codes "witness") rows

pub returns-in-Some-clause-provoke : goal.returns-in-Some-clause-provoke
returns-in-Some-clause-provoke c =
    let words = map string_bytes c.args.words.now in
    let rows = rows-given words c.in_ok-matches.matches (rows_of (found_of c.in-Some.given.now)) c.in_ok-matches.ensures.rows c.in-Some.ensures.rows in
    c.asked_of.ensures.provoke ∙ same words c.in-Some.given.now (codes "provoke") rows

pub returns-in-Some-clause-filters : goal.returns-in-Some-clause-filters
returns-in-Some-clause-filters c =
    let words = map string_bytes c.args.words.now in
    let rows = rows-given words c.in_ok-matches.matches (rows_of (found_of c.in-Some.given.now)) c.in_ok-matches.ensures.rows c.in-Some.ensures.rows in
    c.asked_of.ensures.filters ∙ same words c.in-Some.given.now (codes "filters") rows

pub returns-in-Some-clause-format : goal.returns-in-Some-clause-format
returns-in-Some-clause-format c =
    let words = map string_bytes c.args.words.now in
    let rows = rows-given words c.in_ok-matches.matches (rows_of (found_of c.in-Some.given.now)) c.in_ok-matches.ensures.rows c.in-Some.ensures.rows in
    c.asked_of.ensures.format ∙ same words c.in-Some.given.now (codes "format") rows

pub returns-in-Some-clause-baseline : goal.returns-in-Some-clause-baseline
returns-in-Some-clause-baseline c =
    let words = map string_bytes c.args.words.now in
    let rows = rows-given words c.in_ok-matches.matches (rows_of (found_of c.in-Some.given.now)) c.in_ok-matches.ensures.rows c.in-Some.ensures.rows in
    c.asked_of.ensures.baseline ∙ same words c.in-Some.given.now (codes "baseline") rows

pub returns-in-Some-clause-write_baseline : goal.returns-in-Some-clause-write_baseline
returns-in-Some-clause-write_baseline c =
    let words = map string_bytes c.args.words.now in
    let rows = rows-given words c.in_ok-matches.matches (rows_of (found_of c.in-Some.given.now)) c.in_ok-matches.ensures.rows c.in-Some.ensures.rows in
    c.asked_of.ensures.write_baseline ∙ same words c.in-Some.given.now (codes "write-baseline") rows

pub returns-in-Some-clause-jobs : goal.returns-in-Some-clause-jobs
returns-in-Some-clause-jobs c =
    let words = map string_bytes c.args.words.now in
    let rows = rows-given words c.in_ok-matches.matches (rows_of (found_of c.in-Some.given.now)) c.in_ok-matches.ensures.rows c.in-Some.ensures.rows in
    c.asked_of.ensures.jobs ∙ same words c.in-Some.given.now (codes "jobs") rows

pub returns-in-Some-clause-without : goal.returns-in-Some-clause-without
returns-in-Some-clause-without c =
    let words = map string_bytes c.args.words.now in
    let rows = rows-given words c.in_ok-matches.matches (rows_of (found_of c.in-Some.given.now)) c.in_ok-matches.ensures.rows c.in-Some.ensures.rows in
    c.asked_of.ensures.without ∙ same words c.in-Some.given.now (codes "without") rows

pub returns-in-Some-clause-strict : goal.returns-in-Some-clause-strict
returns-in-Some-clause-strict c =
    let words = map string_bytes c.args.words.now in
    let rows = rows-given words c.in_ok-matches.matches (rows_of (found_of c.in-Some.given.now)) c.in_ok-matches.ensures.rows c.in-Some.ensures.rows in
    let is = same words c.in-Some.given.now (codes "strict") rows in
    ((λ on. sym is ∙ c.asked_of.ensures.strict.0 on), (λ e. c.asked_of.ensures.strict.1 (is ∙ e)))

pub returns-in-Some-clause-trust : goal.returns-in-Some-clause-trust
returns-in-Some-clause-trust c =
    let words = map string_bytes c.args.words.now in
    let rows = rows-given words c.in_ok-matches.matches (rows_of (found_of c.in-Some.given.now)) c.in_ok-matches.ensures.rows c.in-Some.ensures.rows in
    c.asked_of.ensures.trust ∙ same words c.in-Some.given.now (codes "trust") rows

pub returns-in-Some-clause-list : goal.returns-in-Some-clause-list
returns-in-Some-clause-list c =
    let words = map string_bytes c.args.words.now in
    let rows = rows-given words c.in_ok-matches.matches (rows_of (found_of c.in-Some.given.now)) c.in_ok-matches.ensures.rows c.in-Some.ensures.rows in
    let is = same words c.in-Some.given.now (codes "list") rows in
    ((λ on. sym is ∙ c.asked_of.ensures.list.0 on), (λ e. c.asked_of.ensures.list.1 (is ∙ e)))

pub returns-in-Some-clause-runs : goal.returns-in-Some-clause-runs
returns-in-Some-clause-runs c =
    let words = map string_bytes c.args.words.now in
    let rows = rows-given words c.in_ok-matches.matches (rows_of (found_of c.in-Some.given.now)) c.in_ok-matches.ensures.rows c.in-Some.ensures.rows in
    c.asked_of.ensures.runs ∙ same words c.in-Some.given.now (codes "runs") rows
