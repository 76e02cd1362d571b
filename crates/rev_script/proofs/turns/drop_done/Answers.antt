use Rattle.std.proofs.Common.{◌∙◌, ap, rules}
use Rattle.std.proofs.lemmas.Fn.{filter_same}
use Rattle.rev_script.specs.LeftTurns.{seen_left}
use Rattle.rev_script.proofs.TurnLemmas.{seen_filter}
use Rattle.rev_script.proofs.turns.drop_done.Goals as goal

pub returns : goal.returns
returns c =
    ap seen_left (filter_same _ _ _ (λ x b f k. search rules) _ _ c.retain.ensures.filtered)
    ∙ seen_filter c.args.place c.args.left.now.items
