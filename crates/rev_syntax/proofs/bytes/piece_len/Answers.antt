use Rattle.std.proofs.Common.{sym}
use Rattle.rev_syntax.proofs.ByteLemmas.{piece-found, piece-none}
use Rattle.rev_syntax.proofs.bytes.piece_len.Goals as goal

pub returns-in-Some-clause-piece : goal.returns-in-Some-clause-piece
returns-in-Some-clause-piece c = sym (piece-found c.args.separator c.args.text.now c.in-Some.place c.in-Some.ensures)

pub returns-in-None-clause-piece : goal.returns-in-None-clause-piece
returns-in-None-clause-piece c = sym (piece-none c.args.separator c.args.text.now c.in-None.ensures)
