use Rattle.std.proofs.Common.{◌∙◌}
use Rattle.rev_syntax.specs.Pieces.{seen_piece}
use Rattle.rev_scopes.specs.Scopes.{variable_in}
use Rattle.rev_manifest.specs.Names.{is_empty}
use Rattle.rev_manifest.proofs.DepthLemmas.{piece_some, piece_none, none_either, some_text}
use Rattle.rev_manifest.proofs.depth.depth_of_text.Goals as goal

pub returns-in_err-number : goal.returns-in_err-number
returns-in_err-number c =
    let look_up = variable_in c.args.scopes.now c.args.scope in
    c.from_residual-in_err-number.ensures ∙ none_either (is_empty c.args.text.now) _
    (piece_none look_up 0 c.args.text.now (seen_piece c.in_ok-piece.piece) c.in_ok-piece.rest c.bytes_of.result.now c.in_ok-piece.ensures.pieces c.bytes_of.ensures c.in_err-number.ensures.value)

pub loop-piece-init : goal.loop-piece-init
loop-piece-init c =
    let look_up = variable_in c.args.scopes.now c.args.scope in
    record {
      some = some_text c.args.text.now (seen_piece c.in_ok-piece.piece) c.in_ok-piece.rest c.in_ok-piece.ensures.pieces c.in_ok-piece.ensures.some;
      value =
          piece_some look_up 0 c.in_ok-number.number c.args.text.now (seen_piece c.in_ok-piece.piece) c.in_ok-piece.rest c.bytes_of.result.now c.in_ok-piece.ensures.pieces c.bytes_of.ensures
          c.in_ok-number.ensures.value;
      small = c.in_ok-number.ensures.small;
    }

pub returns-in_err-number-2 : goal.returns-in_err-number-2
returns-in_err-number-2 c =
    let look_up = variable_in c.args.scopes.now c.args.scope in
    c.from_residual-in_err-number-2.ensures ∙ none_either (is_empty c.args.text.now) _
    (piece_none look_up c.loop-piece.number c.loop-piece.rest (seen_piece c.in-Some.piece) c.in-Some.after c.bytes_of-in-Some.result.now c.in-Some.ensures.pieces c.bytes_of-in-Some.ensures
    c.in_err-number-2.ensures.value ∙ c.loop-piece.invariant.value)

pub loop-piece-preserved : goal.loop-piece-preserved
loop-piece-preserved c =
    let look_up = variable_in c.args.scopes.now c.args.scope in
    record {
      some = c.loop-piece.invariant.some;
      value =
          piece_some look_up c.loop-piece.number c.in_ok-number-2.number c.loop-piece.rest (seen_piece c.in-Some.piece) c.in-Some.after c.bytes_of-in-Some.result.now c.in-Some.ensures.pieces
          c.bytes_of-in-Some.ensures c.in_ok-number-2.ensures.value ∙ c.loop-piece.invariant.value;
      small = c.in_ok-number-2.ensures.small;
    }
