use Rattle.std.proofs.Common.{◌+◌, List, map, sym, ap, ◌∙◌}
use Rattle.rev_causal.specs.declared.registers.history.Kept.{Kept}
use Rattle.rev_causal.specs.Order.{nearest}
use Rattle.rev_causal.specs.Entries.{clash}
use Rattle.rev_causal.specs.History.{number_of}
use Rattle.rev_causal.specs.Registers.{register_machine}
use Rattle.rev_causal.specs.RegisterHistory.{entry_of}
use Rattle.rev_causal.proofs.KeptHistories.{nearest_there, rest_of_slice}
use Rattle.rev_causal.proofs.registers.history.dependent.Goals as goal

pub returns : goal.returns
returns c =
    c.nearest.ensures
    ∙ ap (λ (ks : List Kept). number_of register_machine (nearest (clash register_machine) (entry_of c.index-kept-place.result) (map entry_of ks))) (rest_of_slice c.args.kept.now (c.args.place + 1))
    ∙ sym (nearest_there c.args.number c.args.kept.now c.args.place c.index-kept-place.result c.requires c.index-kept-place.is)
