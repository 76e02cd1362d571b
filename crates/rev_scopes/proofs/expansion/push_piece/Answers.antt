use Rattle.std.proofs.Common.{ap, sym, ◌∙◌}
use Rattle.rev_syntax.specs.Pieces.{seen_piece}
use Rattle.rev_scopes.specs.Scopes.{variable_in}
use Rattle.rev_scopes.specs.Expansion.{expanded, in_block, appended}
use Rattle.rev_scopes.proofs.ExpansionLemmas.{expanded-bytes}
use Rattle.rev_scopes.proofs.expansion.push_piece.Goals as goal

pub returns-in_ok-push-in-Literal : goal.returns-in_ok-push-in-Literal
returns-in_ok-push-in-Literal c =
    let look_up = in_block c.args.block.now (variable_in c.args.scopes.now c.args.scope) in
    c.in_ok-push-in-Literal.ensures.appended ∙ ap (appended c.args.growth.now) (sym (expanded-bytes look_up c.in-Literal.bytes.now))
    ∙ ap (λ piece. appended c.args.growth.now (expanded look_up (seen_piece piece))) (sym c.in-Literal.is)
