use Rattle.std.proofs.Common.{ℕ, bytes_eq, sym, ap, ◌∙◌}
use Rattle.std.specs.Global.{Vec}
use Rattle.rev_manifest.specs.Pools.{PoolValue, pool_of}
use Rattle.rev_manifest.proofs.PoolLemmas.{position-map}
use Rattle.rev_manifest.proofs.pools.Pools.number.Goals as goal

pub returns : goal.returns
returns c =
    let name = c.args.name.now in
    c.get_index_of.ensures.index ∙ position-map (λ (key : Vec ℕ). bytes_eq name key.items) (λ (e : Vec ℕ × ℕ). e.0) c.self.inside.depths.entries
    ∙ sym (position-map (λ (pool : PoolValue). bytes_eq name pool.0) (λ (e : Vec ℕ × ℕ). (e.0.items, e.1)) c.self.inside.depths.entries)
    ∙ ap (pool_of name) c.self.view_is
