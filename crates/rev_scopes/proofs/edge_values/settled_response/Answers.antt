use Rattle.std.proofs.Common.{List, ℕ, [], ◌∷◌, Option, Some, codes, sym, subst}
use Rattle.rev_syntax.specs.Texts.{Variable}
use Rattle.rev_scopes.specs.Edges.{seen_edge, IsResponseFile}
use Rattle.rev_scopes.specs.Slots.{seen_slots, IsAdded}
use Rattle.rev_scopes.proofs.SlotLemmas.{response-none, response-known}
use Rattle.rev_scopes.proofs.edge_values.settled_response.Goals as goal

pub returns-then-not-is_known-clause-path : goal.returns-then-not-is_known-clause-path
returns-then-not-is_known-clause-path c =
    let edge = seen_edge c.args.edge.now in
    let slots = seen_slots c.args.slots.now in
    let new = c.push_piece.new.value in
    let added =
    subst (λ (old : Option (List ℕ)). IsAdded edge slots (Variable (codes "rspfile") ∷ []) old c.in_ok-is_known.is_known new) c.new-value.ensures
    (subst (λ (n : List ℕ). IsAdded edge slots (Variable n ∷ []) c.new-value.result c.in_ok-is_known.is_known new) c.name.ensures c.in_ok-is_known.ensures) in
    subst (λ (p : List ℕ). IsResponseFile edge (Some p)) (sym c.new.ensures.items)
    (response-none edge slots new c.in_ok-is_known.is_known c.if-not-is_known.true c.requires.settled added)

pub returns-clause-path : goal.returns-clause-path
returns-clause-path c =
    let edge = seen_edge c.args.edge.now in
    let slots = seen_slots c.args.slots.now in
    let new = c.push_piece.new.value in
    let added =
    subst (λ (old : Option (List ℕ)). IsAdded edge slots (Variable (codes "rspfile") ∷ []) old c.in_ok-is_known.is_known new) c.new-value.ensures
    (subst (λ (n : List ℕ). IsAdded edge slots (Variable n ∷ []) c.new-value.result c.in_ok-is_known.is_known new) c.name.ensures c.in_ok-is_known.ensures) in
    response-known edge slots new c.in_ok-is_known.is_known c.if-not-is_known.false added _ (sym c.into_value.ensures.value)
