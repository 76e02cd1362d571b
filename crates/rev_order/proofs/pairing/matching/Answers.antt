use Rattle.std.proofs.Common.{◌≡◌, length, sym, ◌∙◌, arith}
use Rattle.rev_causal.specs.Chosen.{chosen}
use Rattle.rev_causal.specs.OrderCheck.{bare}
use Rattle.rev_causal.proofs.Chosen.{chosen-rises}
use Rattle.rev_order.proofs.Matching.{apart_none, bare-length, chosen-length}
use Rattle.rev_order.proofs.pairing.matching.Goals as goal

pub returns-then-kept-other_kept : goal.returns-then-kept-other_kept
returns-then-kept-other_kept g c =
    let one = chosen-length c.args.items.now.entries c.args.kept.now c.requires.items in
    let two = bare-length (chosen c.args.others.now.entries c.args.other_kept.now) ∙ chosen-length c.args.others.now.entries c.args.other_kept.now c.requires.others in
    apart_none g.T.PartialEq.eq (chosen c.args.items.now.entries c.args.kept.now) (bare (chosen c.args.others.now.entries c.args.other_kept.now))
    (λ e. let same : length c.args.kept.now ≡ length c.args.other_kept.now = sym one ∙ e ∙ two in omega (arith, c.if-kept-other_kept.true))

pub returns : goal.returns
returns g c =
    let same : length c.args.kept.now ≡ length c.args.other_kept.now = omega (arith, c.if-kept-other_kept.false) in
    c.in_ok-numbers.ensures (chosen c.args.items.now.entries c.args.kept.now) (chosen-rises c.args.items.now.entries c.args.kept.now c.requires.rising)
    (chosen-length c.args.items.now.entries c.args.kept.now c.requires.items ∙ same
    ∙ sym (bare-length (chosen c.args.others.now.entries c.args.other_kept.now) ∙ chosen-length c.args.others.now.entries c.args.other_kept.now c.requires.others))
    c.in_ok-waiting.ensures
