use Rattle.std.proofs.Common.{ap, ◌∙◌}
use Rattle.rev_scopes.specs.Bindings.{bound, seen_entries}
use Rattle.rev_scopes.proofs.BindingLemmas.{bound-seen_entries}
use Rattle.rev_manifest.proofs.PoolLemmas.{bound-last}
use Rattle.rev_manifest.proofs.pools.Pools.add.Goals as goal

pub returns-clause-added : goal.returns-clause-added
returns-clause-added c =
    ap seen_entries c.in_ok-insert.ensures.entries ∙ bound-seen_entries c.in_ok-key.key c.args.depth c.self.inside.depths.entries
    ∙ (λ i. bound (c.in_ok-key.ensures.items i) c.args.depth (c.self.view_is i)) ∙ bound-last c.args.name.now c.args.depth c.args.self.now c.requires
