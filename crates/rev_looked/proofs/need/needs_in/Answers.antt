use Rattle.std.proofs.Common.{◌<◌, ◌++◌, length, sym, ◌∙◌, arith}
use Rattle.std.specs.Option.{option_to_list}
use Rattle.rev_looked.proofs.NeedLemmas.{mapped-next}
use Rattle.rev_looked.proofs.need.needs_in.Goals as goal

pub loop-path-preserved : goal.loop-path-preserved
loop-path-preserved c = λ f same.
    let within : c.loop-path.path < length c.args.declared.now = omega arith in
    c.in_ok-add.ensures
    ∙ (λ j. c.loop-path.invariant f same j
    ++ option_to_list ((c.need_in-need.ensures ∙ sym (same c.loop-path.path within)) j))
    ∙ sym (mapped-next f c.loop-path.path)
