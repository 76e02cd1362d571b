use Rattle.std.proofs.Common.{◌≡◌, None, map, refl, sym, ◌∙◌}
use Rattle.std.specs.Global.{Vec}
use Rattle.rev_held.specs.Links.{link, link_between}
use Rattle.rev_held.specs.declared.linked.Link.{Link}
use Rattle.rev_held.proofs.LinkLemmas.{no-dependence, ok-more}
use Rattle.rev_held.proofs.SeveralLemmas.{map-same}
use Rattle.rev_held.proofs.several.links_on.Goals as goal

pub links_by-requires : goal.links_by-requires
links_by-requires c = (
  c.in-Some.first.whole,
  record {
    footprint = c.in-Some.first;
    is = sym c.in-Some.is ∙ c.footprint_of.ensures;
    told = record { plan = refl; writes = c.in_ok-written.ensures; names = c.in_ok-named.ensures };
  },
)

pub returns-in_default : goal.returns-in_default
returns-in_default c =
    let t = c.args.history.now.timeline in
    let none = sym c.footprint_of.ensures ∙ c.in_default.is in
    ok-more (λ (links : Vec Link). links.items ≡ map (link c.args.one None) c.args.others.now) (λ (links : Vec Link). links.items ≡ map (link_between c.args.history.now.timeline c.args.one) c.args.others.now)
    (λ links are. are ∙ map-same (link c.args.one None) (link_between t c.args.one) c.args.others.now (λ other. λ i. link c.args.one (no-dependence t c.args.one other none i) other))
    c.no_links.result c.no_links.ensures
