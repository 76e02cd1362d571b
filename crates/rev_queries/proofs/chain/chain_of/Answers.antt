use Rattle.std.proofs.Common.{◌+◌, [], ◌∷◌, length, ap, ◌∙◌, length-append}
use Rattle.rev_queries.proofs.ChainLemmas.{chain-begun, chain-linked}
use Rattle.rev_queries.proofs.chain.chain_of.Goals as goal

pub loop-place-init : goal.loop-place-init
loop-place-init c = record {
  chain =
      chain-begun c.args.graph.now.manifest.builds c.args.runs.now c.new-links.result.items c.latest-next.result
      c.new-links.ensures.items c.latest-next.ensures.latest;
  count = ap length c.new-links.ensures.items;
  within = c.latest-next.ensures.within (length c.args.graph.now.manifest.builds) c.requires;
}

pub loop-place-preserved : goal.loop-place-preserved
loop-place-preserved c = record {
  chain =
      chain-linked c.args.graph.now.manifest.builds c.args.runs.now c.loop-place.links.items c.push.new.self.items
      c.loop-place.next _ c.in-Some.run' c.loop-place.invariant.chain c.in-Some.is c.in_ok-next.ensures.link
      c.in_ok-push.ensures.items;
  count =
      ap length c.in_ok-push.ensures.items ∙ length-append c.loop-place.links.items (c.in-Some.run' ∷ [])
      ∙ ap (λ n. n + 1) c.loop-place.invariant.count;
  within = c.in_ok-next.ensures.within (length c.args.graph.now.manifest.builds) c.requires;
}
