use Rattle.rev_syntax.specs.Pieces.{seen_piece}
use Rattle.rev_scopes.specs.Scopes.{variable_in}
use Rattle.rev_manifest.proofs.MadeLemmas.{text-more}
use Rattle.rev_manifest.proofs.made.left_of_text.Goals as goal

pub loop-piece-preserved : goal.loop-piece-preserved
loop-piece-preserved c =
    text-more (variable_in c.args.scopes.now c.args.scope) _ c.loop-piece.left c.loop-piece.rest (seen_piece c.in-Some.piece) c.in-Some.after c.bytes_of.result.now
    c.loop-piece.invariant c.in-Some.ensures.pieces c.bytes_of.ensures c.in_ok-left.left c.in_ok-left.ensures.0 c.in_ok-left.ensures.1
