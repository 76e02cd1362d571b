use Rattle.std.proofs.Common.{◌≡◌, ◌∙◌, ◌++◌, ◌==◌, false, map, replicate, length, sym, ap}
use Rattle.std.specs.List.{list_any}
use Rattle.std.proofs.lemmas.List.{append-nil}
use Rattle.rev_graph.specs.Graph.{build_at}
use Rattle.rev_cells.specs.State.{stamp_of}
use Rattle.rev_queries.proofs.OwnLemmas.{stamps_are}
use Rattle.rev_queries.proofs.own.input_stamps.Goals as goal

pub returns : goal.returns
returns c =
    let state = c.args.cells.now.state in
    let build = build_at c.args.graph.now.manifest.builds c.args.edge in
    let there : list_any (λ stamp. stamp == 0) c.in_ok-line.line.items ≡ false =
    ap (list_any (λ stamp. stamp == 0)) (sym c.deref.ensures.value) ∙ sym c.has_missing.ensures ∙ c.if-has_missing.false in
    let also : list_any (λ stamp. stamp == 0) c.in_ok-listed.listed.items ≡ false =
    ap (list_any (λ stamp. stamp == 0)) (sym c.deref-else-has_missing.ensures.value) ∙ sym c.has_missing-else-has_missing.ensures ∙ c.if-has_missing-2.false in
    stamps_are state build c.in_ok-line.line.items c.in_ok-listed.listed.items c.in_ok-stamps.stamps.items
    (c.in_ok-line.ensures ∙ (λ i. map (stamp_of state) (c.inputs-inputs.ensures.explicit i ++ c.inputs-inputs.ensures.implicit i)))
    (c.in_ok-listed.ensures ∙ ap (map (stamp_of state)) (append-nil c.listed_inputs.result.now ∙ c.listed_inputs.ensures))
    there also
    (c.in_ok-stamps.ensures ∙ (λ i. c.deref-2.ensures.value i ++ replicate (length (c.inputs-inputs.ensures.order_only i)) 0 ++ c.deref-3.ensures.value i))
