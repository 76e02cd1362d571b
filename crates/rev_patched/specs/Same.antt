-- Manifests that are the same but for orders, as tests.
use Rattle.std.specs.Prelude.{◌≡◌, ◌<◌, ℕ, suc, Bool, true, false, ◌&&◌, ◌||◌, ◌==◌, List, [], ◌∷◌, ◌++◌, map, Option, Some, None, bytes_eq, slice_index_or}
use Rattle.std.specs.Cmp.Lexicographic.{pointwise}
use Rattle.std.specs.Global.{Vec}
use Rattle.rev_manifest.specs.Builds.{BuildValue, ManifestValue}
use Rattle.rev_manifest.specs.Names.{without}
use Rattle.rev_graph.specs.Alike.{same_outputs, same_paths, same_rule}
use Rattle.rev_patched.specs.declared.orders.Order.{Order}
use Rattle.rev_patched.specs.Orders.{ordered_paths, paths_for}

abbrev pub same_inputs : BuildValue → List (List ℕ) → BuildValue → Bool
same_inputs a paths b =
    same_paths a.explicit b.explicit && same_paths a.implicit b.implicit
    && same_paths (a.order_only ++ paths) b.order_only && same_paths a.validations b.validations

abbrev pub same_number : Option ℕ → Option ℕ → Bool
same_number None None = true
same_number None (Some q) = false
same_number (Some p) None = false
same_number (Some p) (Some q) = p == q

abbrev pub same_place : BuildValue → BuildValue → Bool
same_place a b =
    bytes_eq a.depfile b.depfile && bytes_eq a.rspfile b.rspfile && same_number a.pool b.pool && (a.file == b.file)
    && (a.line == b.line)

-- an edge is another one with these paths as order-only inputs
abbrev pub same_edge : BuildValue → List (List ℕ) → BuildValue → Bool
same_edge a paths b = same_outputs a b && same_inputs a paths b && same_rule a b && same_place a b

-- edges that are numbered from some number on are others with the paths of their orders
abbrev pub same_from : ℕ → List Order → List BuildValue → List BuildValue → Bool
same_from n orders [] [] = true
same_from n orders [] (b ∷ bs) = false
same_from n orders (a ∷ rest) [] = false
same_from n orders (a ∷ rest) (b ∷ bs) = same_edge a (paths_for orders n) b && same_from (suc n) orders rest bs

abbrev pub same_pool : List ℕ × ℕ → List ℕ × ℕ → Bool
same_pool p q = bytes_eq p.0 q.0 && (p.1 == q.1)

abbrev pub same_pools : List (List ℕ × ℕ) → List (List ℕ × ℕ) → Bool
same_pools ps qs = pointwise same_pool ps qs

abbrev pub same_defaults : List Order → List (List ℕ) → List (List ℕ) → Bool
same_defaults orders old new = same_paths new old || same_paths new (without (ordered_paths orders) old)

abbrev pub same_manifest : List Order → ManifestValue → ManifestValue → Bool
same_manifest orders old new =
    same_pools old.pools new.pools && same_from 0 orders old.builds new.builds
    && same_defaults orders old.defaults new.defaults

-- the paths in a list of a number; none past the last list
abbrev pub listed_at : List (Vec (List ℕ)) → ℕ → List (List ℕ)
listed_at lists edge = slice_index_or (map (λ (v : Vec (List ℕ)). v.items) lists) edge []

-- for each of the first edges a list of the paths that are ordered before it
abbrev pub AreListed : ℕ → List Order → List (Vec (List ℕ)) → Type 0
AreListed edges orders lists = (edge : ℕ) → edge < edges → listed_at lists edge ≡ paths_for orders edge
