use Rattle.std.proofs.Common.{ℕ, List, ap, ◌∙◌}
use Rattle.std.specs.Global.{Vec}
use Rattle.rev_several.specs.Holders.{lists_of}
use Rattle.rev_several.proofs.HolderLemmas.{empties-more}
use Rattle.rev_several.proofs.shared.empty_lists.Goals as goal

pub loop-number-preserved : goal.loop-number-preserved
loop-number-preserved c =
    ap (λ (ls : List (Vec ℕ)). lists_of ls) c.in_ok-push.ensures.items ∙ empties-more c.loop-number.lists.items c.new.result c.loop-number.number c.new.ensures.items c.loop-number.invariant
