use Rattle.std.proofs.Common.{sym, ap, ◌∙◌}
use Rattle.rev_syntax.specs.Pieces.{seen_piece}
use Rattle.rev_scopes.specs.Scopes.{variable_in}
use Rattle.rev_scopes.specs.Expansion.{expanded}
use Rattle.rev_scopes.proofs.ExpansionLemmas.{expanded-bytes}
use Rattle.rev_manifest.proofs.depth.bytes_of.Goals as goal

pub returns-in-Literal : goal.returns-in-Literal
returns-in-Literal c =
    let look_up = variable_in c.args.scopes.now c.args.scope in
    sym (expanded-bytes look_up c.in-Literal.bytes.now) ∙ ap (λ piece. expanded look_up (seen_piece piece)) (sym c.in-Literal.is)
