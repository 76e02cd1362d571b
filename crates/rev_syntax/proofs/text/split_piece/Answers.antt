use Rattle.std.proofs.Common.{sym, ap, ◌∙◌, ◌++◌, map, take, drop}
use Rattle.std.proofs.lemmas.Bool.{ne_eqb}
use Rattle.std.specs.List.{position_or_len}
use Rattle.rev_syntax.specs.Bytes.{is_byte}
use Rattle.rev_syntax.specs.Texts.{Byte, fault_of, pieces_of}
use Rattle.rev_syntax.proofs.PieceLemmas.{dollar-fault, dollar-pieces, plain-fault, plain-pieces, plain-some}
use Rattle.rev_syntax.proofs.text.split_piece.Goals as goal

pub returns-then-byte-eq36-clause-pieces : goal.returns-then-byte-eq36-clause-pieces
returns-then-byte-eq36-clause-pieces c =
    ap pieces_of c.in_ok-byte.ensures.cases.0
    ∙ dollar-pieces c.in_ok-byte.byte.now c.in_ok-byte.after.now (c.in_ok-piece.piece, c.in_ok-piece.rest) c.if-byte-eq36.true c.in_ok-piece.ensures.escape

pub returns-then-byte-eq36-clause-text : goal.returns-then-byte-eq36-clause-text
returns-then-byte-eq36-clause-text c =
    sym (dollar-fault c.in_ok-byte.byte.now c.in_ok-byte.after.now (c.in_ok-piece.piece, c.in_ok-piece.rest) c.if-byte-eq36.true c.in_ok-piece.ensures.escape)
    ∙ sym (ap fault_of c.in_ok-byte.ensures.cases.0) ∙ c.requires

pub returns-clause-pieces : goal.returns-clause-pieces
returns-clause-pieces c =
    let raw = c.args.raw.now in
    plain-pieces raw
    ∙ sym (ap (λ n. map Byte (take n raw) ++ pieces_of (drop n raw)) c.piece_len.ensures.piece)
    ∙ (λ i. map Byte (sym c.split_at.ensures.front i) ++ pieces_of (sym c.split_at.ensures.back i))

pub returns-clause-text : goal.returns-clause-text
returns-clause-text c =
    let raw = c.args.raw.now in
    ap fault_of c.split_at.ensures.back ∙ ap (λ n. fault_of (drop n raw)) c.piece_len.ensures.piece ∙ plain-fault raw c.requires

pub returns-clause-some : goal.returns-clause-some
returns-clause-some c = λ none.
    let b = c.in_ok-byte.byte.now in
    let bs = c.in_ok-byte.after.now in
    let front =
    c.split_at.ensures.front ∙ ap (λ n. take n c.args.raw.now) c.piece_len.ensures.piece
    ∙ ap (λ text. take (position_or_len (is_byte 36) text) text) c.in_ok-byte.ensures.cases.0 in
    plain-some b bs (ne_eqb b 36 c.if-byte-eq36.false) (sym (ap (map Byte) front) ∙ none)
