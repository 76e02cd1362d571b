use Rattle.std.proofs.Common.{◌≡◌, ap, IfOk, map, refl, string_bytes, subst}
use Rattle.std.proofs.lemmas.Result.{IfOk-weaker}
use Rattle.clap.specs.Words.{App, FailsBy, HasMatchesOf, fault_of, is_simple_and_free, subcommand_of, subcommand_rows_of}
use Rattle.rev_asking.specs.Asking.{program}
use Rattle.rev_asking.proofs.words.matches_of.Goals as goal

pub returns-clause-rows : goal.returns-clause-rows
returns-clause-rows c =
    let same = c.in_ok-command.ensures.program in
    let words = map string_bytes c.args.words.now in
    let has = subst (λ (a : App). IfOk c.try_get_matches_from.result (HasMatchesOf a words)) same c.try_get_matches_from.ensures.matches in
    IfOk-weaker c.try_get_matches_from.result (HasMatchesOf program words) (λ m. subcommand_rows_of m ≡ subcommand_of program words) (λ m h. (h refl).1) has

pub returns-clause-fails : goal.returns-clause-fails
returns-clause-fails c =
    let same = c.in_ok-command.ensures.program in
    subst (λ (a : App). FailsBy (fault_of a (map string_bytes c.args.words.now)) c.try_get_matches_from.result) same
    (c.try_get_matches_from.ensures.kinds (ap is_simple_and_free same))
