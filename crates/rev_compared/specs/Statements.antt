-- What differs between two build statements.
use Rattle.std.specs.Prelude.{ℕ, Bool, true, false, not, ◌&&◌, ◌==◌, List, Option, None, Some, bytes_eq, slice_get}
use Rattle.std.proofs.Math.Bool.{beq}
use Rattle.rev_manifest.specs.Builds.{BuildValue}
use Rattle.rev_graph.specs.Alike.{same_inputs, same_outputs}
use Rattle.rev_compared.specs.declared.statements.Changes.{Changes}

-- what a rule says beside the command and the pool
abbrev pub same_rule : BuildValue → BuildValue → Bool
same_rule a b =
    beq a.phony b.phony && bytes_eq a.depfile b.depfile && bytes_eq a.rspfile b.rspfile && beq a.keeps_deps b.keeps_deps
    && beq a.restat b.restat && beq a.generator b.generator

-- pools with the same name and depth
abbrev pub same_pool : Option (List ℕ × ℕ) → Option (List ℕ × ℕ) → Bool
same_pool None None = true
same_pool None (Some q) = false
same_pool (Some p) None = false
same_pool (Some p) (Some q) = bytes_eq p.0 q.0 && (p.1 == q.1)

-- pools by their numbers, where there are some
abbrev pub same_pool_if : List (List ℕ × ℕ) → List (List ℕ × ℕ) → Option ℕ → Option ℕ → Bool
same_pool_if pools others None None = true
same_pool_if pools others None (Some m) = false
same_pool_if pools others (Some n) None = false
same_pool_if pools others (Some n) (Some m) = same_pool (slice_get pools n) (slice_get others m)

abbrev pub same_flags : List (List ℕ × ℕ) → List (List ℕ × ℕ) → BuildValue → BuildValue → Bool
same_flags pools others a b = same_rule a b && same_pool_if pools others a.pool b.pool

-- WHAT DIFFERS between two edges, each of a manifest with its pools
abbrev pub changes_of : List (List ℕ × ℕ) → List (List ℕ × ℕ) → BuildValue → BuildValue → Changes
changes_of pools others a b = record {
  outputs = not (same_outputs a b);
  inputs = not (same_inputs a b);
  command = not (bytes_eq a.command b.command);
  flags = not (same_flags pools others a b);
}
