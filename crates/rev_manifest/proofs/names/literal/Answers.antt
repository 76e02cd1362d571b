use Rattle.std.proofs.Common.{sym}
use Rattle.rev_manifest.proofs.NameLemmas.{literal-stands}
use Rattle.rev_manifest.proofs.names.literal.Goals as goal

pub returns-in-Literal : goal.returns-in-Literal
returns-in-Literal c =
    literal-stands c.args.text.now c.in_ok-piece.rest c.in_ok-piece.piece c.in-Literal.bytes c.in_ok-piece.ensures.pieces (sym c.if-not-is_empty.ensures)
    c.in-Literal.is
