use Rattle.std.proofs.Common.{◌≡◌, true, false, length, map, sym, ap, ◌∙◌}
use Rattle.std.specs.Prelude.{◌==◌}
use Rattle.std.specs.List.{list_any, range_with_len}
use Rattle.std.proofs.lemmas.List.{length-map}
use Rattle.rev_graph.specs.Graph.{build_at, outputs_of}
use Rattle.rev_cells.specs.State.{mark_of}
use Rattle.rev_dirty.specs.Inputs.{inputs}
use Rattle.rev_dirty.specs.Reasons.{is_missing, is_rebuilt}
use Rattle.rev_events.specs.Refusal.{is_wanted_mark}
use Rattle.rev_events.proofs.EffectLemmas.{pass-all, pass-still}
use Rattle.rev_events.proofs.effects.passed_on.Goals as goal

pub returns-then-rebuilt : goal.returns-then-rebuilt
returns-then-rebuilt c =
    let builds = c.args.graph.now.manifest.builds in
    let state = c.args.cells.now.state in
    let build = build_at builds c.args.edge in
    let all = inputs state build in
    let wanted : is_wanted_mark (mark_of state c.args.edge) ≡ true = sym c.is_wanted-wanted.ensures ∙ c.if-not-wanted.false in
    let some : (length all == 0) ≡ false = sym c.in_ok-alone.ensures ∙ c.if-alone.false in
    let rebuilt : list_any (is_rebuilt builds state) all ≡ true = sym c.in_ok-rebuilt.ensures ∙ c.if-rebuilt.true in
    c.in_ok-all.ensures ∙ ap (range_with_len 0) (sym (length-map (outputs_of build) (is_missing state)))
    ∙ sym (pass-all (mark_of state c.args.edge) all (list_any (is_rebuilt builds state) all) (map (is_missing state) (outputs_of build)) wanted some rebuilt)

pub returns : goal.returns
returns c =
    let builds = c.args.graph.now.manifest.builds in
    let state = c.args.cells.now.state in
    let build = build_at builds c.args.edge in
    let all = inputs state build in
    let wanted : is_wanted_mark (mark_of state c.args.edge) ≡ true = sym c.is_wanted-wanted.ensures ∙ c.if-not-wanted.false in
    let some : (length all == 0) ≡ false = sym c.in_ok-alone.ensures ∙ c.if-alone.false in
    let rebuilt : list_any (is_rebuilt builds state) all ≡ false = sym c.in_ok-rebuilt.ensures ∙ c.if-rebuilt.false in
    c.new-2.ensures.items ∙ sym (pass-still (mark_of state c.args.edge) all (list_any (is_rebuilt builds state) all) (map (is_missing state) (outputs_of build)) wanted some rebuilt)
