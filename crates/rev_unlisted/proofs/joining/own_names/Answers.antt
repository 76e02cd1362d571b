use Rattle.std.proofs.Common.{◌++◌, ◌∙◌}
use Rattle.rev_places.specs.Names.{own_names_in, own_of}
use Rattle.rev_unlisted.proofs.JoinLemmas.{three}
use Rattle.rev_unlisted.proofs.joining.own_names.Goals as goal

pub returns : goal.returns
returns c =
    let E = c.inputs-inputs.ensures in
    three (own_of c.args.names.now.entries) c.inputs-inputs.result.explicit.now c.inputs-inputs.result.implicit.now c.args.list.now
    c.new-found.result.items c.push_own_names.new.found.items c.push_own_names-2.new.found.items c.push_own_names-3.new.found.items
    c.new-found.ensures.items c.in_ok-push_own_names.ensures c.in_ok-push_own_names-2.ensures c.in_ok-push_own_names-3.ensures
    ∙ (λ i. own_names_in c.args.names.now.entries (E.explicit i ++ E.implicit i ++ c.args.list.now))
