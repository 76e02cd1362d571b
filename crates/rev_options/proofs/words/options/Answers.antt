use Rattle.std.proofs.Common.{◌∙◌, [], List, Option, ap, codes, sym, unwrap_or}
use Rattle.clap.specs.Words.{Text, all_of, first_of, found_of}
use Rattle.clap.proofs.WalkLemmas.{first_value-rows, raw_values-rows}
use Rattle.rev_options.proofs.words.options.Goals as goal

pub returns-clause-manifest : goal.returns-clause-manifest
returns-clause-manifest c =
    ap (first_of (codes "manifest")) (sym c.in_ok-matches.ensures.rows)
    ∙ (sym (first_value-rows (found_of c.in_ok-matches.matches) (codes "manifest")) ∙ c.file_of.ensures)

pub returns-clause-trace : goal.returns-clause-trace
returns-clause-trace c =
    ap (first_of (codes "trace")) (sym c.in_ok-matches.ensures.rows)
    ∙ (sym (first_value-rows (found_of c.in_ok-matches.matches) (codes "trace")) ∙ c.file_of-2.ensures)

pub returns-clause-script : goal.returns-clause-script
returns-clause-script c =
    ap (first_of (codes "script")) (sym c.in_ok-matches.ensures.rows)
    ∙ (sym (first_value-rows (found_of c.in_ok-matches.matches) (codes "script")) ∙ c.file_of-3.ensures)

pub returns-clause-workers : goal.returns-clause-workers
returns-clause-workers c =
    let same = first_value-rows (found_of c.in_ok-matches.matches) (codes "workers")
    ∙ ap (first_of (codes "workers")) c.in_ok-matches.ensures.rows in
    ((λ on. sym same ∙ c.is_on.ensures.0 on), (λ e. c.is_on.ensures.1 (same ∙ e)))

pub returns-clause-migrate : goal.returns-clause-migrate
returns-clause-migrate c =
    let same = first_value-rows (found_of c.in_ok-matches.matches) (codes "migrate")
    ∙ ap (first_of (codes "migrate")) c.in_ok-matches.ensures.rows in
    ((λ on. sym same ∙ c.is_on-2.ensures.0 on), (λ e. c.is_on-2.ensures.1 (same ∙ e)))

pub returns-clause-files : goal.returns-clause-files
returns-clause-files c =
    c.in_ok-files.ensures
    ∙ ap (λ (o : Option (List Text)). unwrap_or o []) (raw_values-rows (found_of c.in_ok-matches.matches) (codes "FILE")
    ∙ ap (all_of (codes "FILE")) c.in_ok-matches.ensures.rows)
