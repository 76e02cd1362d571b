use Rattle.std.proofs.Common.{◌-◌, length, sym, ◌∙◌}
use Rattle.rev_listing.proofs.InputLemmas.{copied-at, get-back}
use Rattle.rev_prompt.proofs.reasons.of_two.Goals as goal

pub returns : goal.returns
returns c =
    let first = c.args.first.now in
    let second = c.args.second.now in
    let got = c.get-2.ensures.lookup in
    copied-at c.get-2.result second (c.args.position - length first) got.0 got.1 ∙ sym (get-back first second c.args.position c.if-position-first.false)
