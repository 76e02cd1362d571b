use Rattle.std.proofs.Common.{◌++◌, [], ap, ◌∙◌, arith}
use Rattle.std.specs.Option.{option_to_list}
use Rattle.rev_places.specs.Names.{other_of}
use Rattle.rev_places.proofs.NameLemmas.{picked-at}
use Rattle.rev_places.proofs.names.push_other_names.Goals as goal

pub loop-place-preserved : goal.loop-place-preserved
loop-place-preserved c =
    picked-at (other_of c.args.owns.now) c.args.names.now.entries c.loop-place.place ([], []) c.args.found.now.items
    c.loop-place.found.items c.push_if.new.found.items
    (omega (arith, c.loop-place-test.true, c.len-place-end.ensures.len)) c.loop-place.invariant
    (c.in_ok-push_if.ensures ∙ ap (λ o. c.loop-place.found.items ++ option_to_list o) c.other_at.ensures)
