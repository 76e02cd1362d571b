use Rattle.std.proofs.Common.{ap, sym, ◌∙◌, ◌++◌, [], List, subst}
use Rattle.rev_syntax.specs.Texts.{PieceValue}
use Rattle.rev_syntax.specs.Pieces.{seen_piece}
use Rattle.rev_scopes.specs.Expansion.{appended}
use Rattle.rev_scopes.specs.Edges.{seen_edge, IsExpanded, Nothing}
use Rattle.rev_scopes.specs.Slots.{seen_slots, IsWaiting, Waits}
use Rattle.rev_scopes.proofs.ExpansionLemmas.{appended-both}
use Rattle.rev_scopes.proofs.SlotLemmas.{waited, was_added, waits-before, waits-after}
use Rattle.rev_scopes.proofs.edge_values.text_value.Goals as goal

pub returns-then-not-branch : goal.returns-then-not-branch
returns-then-not-branch c =
    let edge = seen_edge c.args.edge.now in
    let slots = seen_slots c.args.slots.now in
    let first = seen_piece c.in-Some.piece in
    let waits = waited edge slots first c.loop-piece.value _ c.in_ok-push_piece.field-0 c.if-not-branch.true c.in_ok-push_piece.ensures in
    c.loop-piece.invariant.0
    (subst (λ (text : List PieceValue). Waits (IsWaiting edge slots) text) (sym c.in-Some.ensures.pieces) (waits-before (IsWaiting edge slots) first c.in-Some.after waits))

pub loop-piece-preserved : goal.loop-piece-preserved
loop-piece-preserved c =
    let edge = seen_edge c.args.edge.now in
    let slots = seen_slots c.args.slots.now in
    let first = seen_piece c.in-Some.piece in
    let after = c.in-Some.after in
    let added = was_added edge slots first c.loop-piece.value _ c.in_ok-push_piece.field-0 c.if-not-branch.false c.in_ok-push_piece.ensures in (
      (λ waits. c.loop-piece.invariant.0
          (subst (λ (text : List PieceValue). Waits (IsWaiting edge slots) text) (sym c.in-Some.ensures.pieces) (waits-after (IsWaiting edge slots) first after waits))),
      (λ others given.
          let whole = c.loop-piece.invariant.1 (added.0 ++ others)
          (subst (λ (text : List PieceValue). IsExpanded edge text (added.0 ++ others)) (sym c.in-Some.ensures.pieces) (added.1 after others given)) in
          (whole.0, whole.1, whole.2 ∙ sym (appended-both c.loop-piece.value added.0 others) ∙ ap (λ value. appended value others) (sym added.2))),
      added.3,
    )

pub returns : goal.returns
returns c =
    let edge = seen_edge c.args.edge.now in
    let whole = c.loop-piece.invariant.1 [] (subst (λ (text : List PieceValue). IsExpanded edge text []) (sym c.in_default.ensures.pieces) Nothing) in
    (whole.0, whole.1, sym (whole.2 ∙ c.loop-piece.invariant.2))
