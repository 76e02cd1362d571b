use Rattle.std.proofs.Common.{◌≡◌, ◌-◌, List, length, get_or, set, arith, ap, ◌∙◌, sym, subst}
use Rattle.std.proofs.lemmas.Option.{get_or_from_slice_get}
use Rattle.std.proofs.lemmas.Result.{on_ok_weaker}
use Rattle.rev_observation.specs.declared.blocks.Line.{Line}
use Rattle.rev_observation.specs.Blocks.{CommandValue, LinesAreWithin, with_flag}
use Rattle.rev_observation.proofs.CommandLemmas.{outputs_of-set, within-set}
use Rattle.rev_observation.proofs.observation.put_last_flag.Goals as goal

pub returns-clause-ok : goal.returns-clause-ok
returns-clause-ok c = λ d last.
    let items = c.args.commands.now.items in
    let was = c.index_mut-last.result.now in
    let many : c.len-place.result ≡ length items = omega (arith, c.len-place.ensures, c.args.commands.now.ok.0) in
    let same : was ≡ d = c.index_mut-last.ensures.value ∙ ap (λ k. get_or items (k - 1) was) many ∙ get_or_from_slice_get items (length items - 1) d was last in
    on_ok_weaker c.put_flag.result (λ is.
    ap (λ k. set items (k - 1) c.put_flag.new.self) many ∙ ap (set items (length items - 1)) (is ∙ ap (λ (d : CommandValue). with_flag d c.args.flag) same)) c.put_flag.ensures.ok

pub returns-clause-outputs : goal.returns-clause-outputs
returns-clause-outputs c =
    outputs_of-set c.args.commands.now.items (c.len-place.result - 1) c.index_mut-last.result.now c.put_flag.new.self c.index_mut-last.ensures.value c.put_flag.ensures.output

pub returns-clause-within : goal.returns-clause-within
returns-clause-within c = λ n h.
    let Q : List Line → Type 0 = λ ls. LinesAreWithin n ls in
    within-set n c.args.commands.now.items (c.len-place.result - 1) c.index_mut-last.result.now c.put_flag.new.self c.index_mut-last.ensures.value (subst Q (sym c.put_flag.ensures.lines)) h
