use Rattle.std.proofs.Common.{sym, ◌∙◌}
use Rattle.rev_syntax.proofs.PieceLemmas.{braced-escape}
use Rattle.rev_syntax.proofs.text.braced.Goals as goal

pub returns-clause-escape : goal.returns-clause-escape
returns-clause-escape c =
    braced-escape c.args.rest.now c.split_run.result.0 c.in_ok-byte.after c.in_ok-byte.byte.now c.split_run.ensures.run
    (sym c.split_run.ensures.rest ∙ c.in_ok-byte.ensures.cases.0) c.if-byte-ne125.false (sym c.is_empty.ensures ∙ c.if-is_empty.false)
