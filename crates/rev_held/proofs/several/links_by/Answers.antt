use Rattle.std.proofs.Common.{◌≡◌, ℕ, get_or, ap}
use Rattle.std.proofs.lemmas.List.{get_or_default}
use Rattle.rev_held.specs.Dependence.{dependence_of}
use Rattle.rev_held.specs.Links.{link, link_between}
use Rattle.rev_held.proofs.SeveralLemmas.{map-next}
use Rattle.rev_held.proofs.several.links_by.Goals as goal

pub loop-other-preserved : goal.loop-other-preserved
loop-other-preserved c =
    let t = c.args.history.now.timeline in
    let others = c.args.others.now in
    let o : ℕ = get_or c.args.others.now c.loop-other.other-index 0 in
    let told = c.requires.1 in
    let is : c.in_ok-cell.cell ≡ dependence_of c.args.history.now.timeline c.args.one (get_or c.args.others.now c.loop-other.other-index 0) = c.in_ok-cell.ensures told.footprint told.is told.told.writes told.told.names in
    map-next (link_between t c.args.one) others c.loop-other.other-index o c.loop-other.links.items c.push.new.self.items (link c.args.one c.in_ok-cell.cell o) c.loop-other-test.true
    (get_or_default others c.loop-other.other-index 0 o c.loop-other-test.true) c.loop-other.invariant (ap (λ cell. link c.args.one cell o) is) c.in_ok-push.ensures.items
