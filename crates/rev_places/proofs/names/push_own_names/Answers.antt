use Rattle.std.proofs.Common.{◌++◌, ap, ◌∙◌}
use Rattle.std.specs.Option.{option_to_list}
use Rattle.rev_places.specs.Names.{own_of}
use Rattle.rev_places.proofs.NameLemmas.{picked-next}
use Rattle.rev_places.proofs.names.push_own_names.Goals as goal

pub loop-path-preserved : goal.loop-path-preserved
loop-path-preserved c =
    picked-next (own_of c.args.names.now.entries) c.args.paths.now c.loop-path.path-index c.path-item.result c.args.found.now.items
    c.loop-path.found.items c.push_if.new.found.items c.loop-path-test.true c.loop-path.invariant
    (c.in_ok-push_if.ensures
    ∙ ap (λ o. c.loop-path.found.items ++ option_to_list o)
    (c.own_of_path.ensures ∙ ap (own_of c.args.names.now.entries) c.path-item.is))
