use Rattle.std.proofs.Common.{[], ap, sym}
use Rattle.rev_syntax.specs.Pieces.{seen_piece}
use Rattle.rev_scopes.specs.Edges.{joined, seen_edge, Given, Expanded}
use Rattle.rev_scopes.specs.Slots.{seen_slots}
use Rattle.rev_scopes.proofs.ExpansionLemmas.{over-stays}
use Rattle.rev_scopes.proofs.SlotLemmas.{right-at, added-bytes, added-name}
use Rattle.rev_scopes.proofs.edge_values.push_piece.Goals as goal

pub returns-in-Literal : goal.returns-in-Literal
returns-in-Literal c =
    added-bytes (seen_edge c.args.edge.now) (seen_slots c.args.slots.now) (seen_piece c.args.piece) c.args.value.now _ c.in_ok-push-in-Literal.ensures.within
    c.in-Literal.bytes.now (ap seen_piece c.in-Literal.is) c.in_ok-push-in-Literal.ensures.appended

pub returns-in_ok-push_value-in-Paths : goal.returns-in_ok-push_value-in-Paths
returns-in_ok-push_value-in-Paths c =
    let value = joined c.in-Paths.by c.in-Paths.paths.now in
    added-name (seen_edge c.args.edge.now) (seen_slots c.args.slots.now) (seen_piece c.args.piece) c.args.value.now _ c.in_ok-push_value-in-Paths.ensures.within
    c.in-Variable.name.now value (ap seen_piece c.in-Variable.is) (Given c.in-Paths.ensures) (c.in_ok-push_value-in-Paths.ensures.appended value c.in_ok-text-in-Paths.ensures)

pub returns-in_ok-push-in-Bytes : goal.returns-in_ok-push-in-Bytes
returns-in_ok-push-in-Bytes c =
    added-name (seen_edge c.args.edge.now) (seen_slots c.args.slots.now) (seen_piece c.args.piece) c.args.value.now _ c.in_ok-push-in-Bytes.ensures.within
    c.in-Variable.name.now c.in-Bytes.bytes.now (ap seen_piece c.in-Variable.is) (Given c.in-Bytes.ensures) c.in_ok-push-in-Bytes.ensures.appended

pub returns-in_ok-push_value-in-Value : goal.returns-in_ok-push_value-in-Value
returns-in_ok-push_value-in-Value c =
    let edge = seen_edge c.args.edge.now in
    let slots = seen_slots c.args.slots.now in
    let name = c.in-Variable.name.now in
    let right = right-at edge name slots _ c.requires.slots.right c.in-Value.ensures.2 in
    added-name edge slots (seen_piece c.args.piece) c.args.value.now _ c.in_ok-push_value-in-Value.ensures.within name right.0 (ap seen_piece c.in-Variable.is)
    (Expanded c.in-Value.ensures.1 right.1) (c.in_ok-push_value-in-Value.ensures.appended right.0 right.2)

pub returns-then-is_over : goal.returns-then-is_over
returns-then-is_over c =
    let value = joined c.in-Paths.by c.in-Paths.paths.now in
    let old = c.args.value.now in
    let over = c.is_over.ensures c.if-is_over.true in
    added-name (seen_edge c.args.edge.now) (seen_slots c.args.slots.now) (seen_piece c.args.piece) old old (over-stays old over []) c.in-Variable.name.now value
    (ap seen_piece c.in-Variable.is) (Given c.in-Paths.ensures) (sym (over-stays old over value))
