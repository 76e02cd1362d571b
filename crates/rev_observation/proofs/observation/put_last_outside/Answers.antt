use Rattle.std.proofs.Common.{◌≡◌, ◌-◌, length, get_or, set, arith, ap, ◌∙◌, sym, subst}
use Rattle.std.proofs.lemmas.Option.{get_or_from_slice_get}
use Rattle.rev_observation.specs.Blocks.{CommandValue, LinesAreWithin, with_outside}
use Rattle.rev_observation.proofs.CommandLemmas.{outputs_of-set, within-set}
use Rattle.rev_observation.proofs.observation.put_last_outside.Goals as goal

pub returns-clause-ok : goal.returns-clause-ok
returns-clause-ok c = λ d last.
    let items = c.args.commands.now.items in
    let was = c.index_mut-last.result.now in
    let many : c.len-place.result ≡ length items = omega (arith, c.len-place.ensures, c.args.commands.now.ok.0) in
    let same : was ≡ d = c.index_mut-last.ensures.value ∙ ap (λ k. get_or items (k - 1) was) many ∙ get_or_from_slice_get items (length items - 1) d was last in
    ap (λ k. set items (k - 1) c.put_outside.new.self) many ∙ ap (set items (length items - 1)) (c.put_outside.ensures ∙ ap (λ (d : CommandValue). with_outside d c.args.count) same)

pub returns-clause-outputs : goal.returns-clause-outputs
returns-clause-outputs c =
    outputs_of-set c.args.commands.now.items (c.len-place.result - 1) c.index_mut-last.result.now c.put_outside.new.self c.index_mut-last.ensures.value (ap (λ (d : CommandValue). d.output) c.put_outside.ensures)

pub returns-clause-within : goal.returns-clause-within
returns-clause-within c = λ n h.
    let P : CommandValue → Type 0 = λ d. LinesAreWithin n d.lines in
    within-set n c.args.commands.now.items (c.len-place.result - 1) c.index_mut-last.result.now c.put_outside.new.self c.index_mut-last.ensures.value (subst P (sym c.put_outside.ensures)) h
