-- Graphs that lend the same.
use Rattle.std.specs.Prelude.{◌≡◌, ℕ, Bool, true, false, ◌&&◌, ◌==◌, List, [], map, Option, Some, None, bytes_eq}
use Rattle.std.proofs.Math.Bool.{beq}
use Rattle.std.specs.Cmp.Lexicographic.{pointwise}
use Rattle.rev_manifest.specs.Builds.{BuildValue, ManifestValue}
use Rattle.rev_graph.specs.Graph.{numbered_pool}

-- what a graph lends of an edge: all but the names of its depfile and its response file and where its statement stands,
-- and the number and depth of its pool
abbrev pub lent_edge : List (List ℕ × ℕ) → BuildValue → BuildValue × Option (ℕ × ℕ)
lent_edge pools build =
    (record build { depfile = []; rspfile = []; pool = None; file = 0; line = 0 }, numbered_pool pools build.pool)

-- the depths of pools by their numbers, without the names
abbrev pub depths_of : List (List ℕ × ℕ) → List ℕ
depths_of pools = map (λ (pool : List ℕ × ℕ). pool.1) pools

-- The graphs of two manifests lend the same: of each edge, of the pools their depths, and the defaults. The names of
-- pools, of depfiles and response files, and where a statement stands in which file, no graph lends.
pub record LendAlike (m n : ManifestValue) : Type 0 where
  pub edges : map (lent_edge n.pools) n.builds ≡ map (lent_edge m.pools) m.builds
  pub depths : depths_of n.pools ≡ depths_of m.pools
  pub defaults : n.defaults ≡ m.defaults

-- THE SAME, AS TESTS
abbrev pub same_paths : List (List ℕ) → List (List ℕ) → Bool
same_paths = pointwise bytes_eq

abbrev pub same_outputs : BuildValue → BuildValue → Bool
same_outputs a b = same_paths a.explicit_outs b.explicit_outs && same_paths a.implicit_outs b.implicit_outs

abbrev pub same_inputs : BuildValue → BuildValue → Bool
same_inputs a b =
    same_paths a.explicit b.explicit && same_paths a.implicit b.implicit && same_paths a.order_only b.order_only
    && same_paths a.validations b.validations

abbrev pub same_rule : BuildValue → BuildValue → Bool
same_rule a b =
    beq a.phony b.phony && bytes_eq a.command b.command && beq a.keeps_deps b.keeps_deps && beq a.restat b.restat
    && beq a.generator b.generator

abbrev pub same_pool : Option (ℕ × ℕ) → Option (ℕ × ℕ) → Bool
same_pool None None = true
same_pool None (Some q) = false
same_pool (Some p) None = false
same_pool (Some p) (Some q) = (p.0 == q.0) && (p.1 == q.1)

abbrev pub same_edge : List (List ℕ × ℕ) → List (List ℕ × ℕ) → BuildValue → BuildValue → Bool
same_edge pools others a b =
    same_outputs a b && same_inputs a b && same_rule a b
    && same_pool (numbered_pool pools a.pool) (numbered_pool others b.pool)

abbrev pub same_lent : ManifestValue → ManifestValue → Bool
same_lent m n =
    bytes_eq (depths_of m.pools) (depths_of n.pools) && same_paths m.defaults n.defaults
    && pointwise (same_edge m.pools n.pools) m.builds n.builds
