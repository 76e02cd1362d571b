-- What stands once.
use Rattle.std.proofs.Common.{◌≡◌, ℕ, false, List, [], ◌∷◌, length, All, bytes_eq, sym, ap, ◌∙◌, inl, inr, true≢false, arith, zero, suc}
use Rattle.std.specs.List.{AllByRecursion, IsDistinct}
use Rattle.std.specs.Ordering.{eq_by_cmp}
use Rattle.rev_causal.specs.Order.{Has, Distinct}
use Rattle.rev_cells.specs.declared.cell.Cell.{Cell}
use Rattle.rev_cells.specs.Keys.{cell_cmp}
use Rattle.rev_cells.proofs.EntryLemmas.{other_cell}
use Rattle.rev_manifest.specs.Builds.{BuildValue, ManifestValue, IsManifest, IsBuild}
use Rattle.rev_graph.proofs.EntryLemmas.{own_bytes}
use Rattle.rev_graph.specs.Graph.{build_at, outputs_of}
use Rattle.rev_events.specs.Laws.{OutputsOnce}

-- what stands once, by the test
pub once_by_test : (xs : List Cell) → Distinct xs → IsDistinct (eq_by_cmp cell_cmp) xs
unfolding IsDistinct
once_by_test [] h = tt
once_by_test (x ∷ xs) h = (apart xs h.0, once_by_test xs h.1)
  where
    apart : (ys : List Cell) → (Has ys x → ⊥) → AllByRecursion (λ y. eq_by_cmp cell_cmp x y ≡ false) ys
    apart [] none = tt
    apart (y ∷ ys) none = (other_cell x y (λ e. none (inl (sym e))), apart ys (λ r. none (inr r)))

once_by_bytes : (xs : List (List ℕ)) → IsDistinct bytes_eq xs → Distinct xs
unfolding IsDistinct
once_by_bytes [] h = tt
once_by_bytes (x ∷ xs) h = (λ has. apart xs h.0 has, once_by_bytes xs h.1)
  where
    apart : (ys : List (List ℕ)) → AllByRecursion (λ y. bytes_eq x y ≡ false) ys → Has ys x → ⊥
    apart [] none has = has
    apart (y ∷ ys) none has = elim has [
      | inl p ↦ true≢false (sym (own_bytes x) ∙ sym (ap (bytes_eq x) p) ∙ none.0)
      | inr r ↦ apart ys none.1 r
    ]

build_within : (pools : ℕ) (builds : List BuildValue) (edge : ℕ) → All (IsBuild pools) builds → Distinct (outputs_of (build_at builds edge))
build_within pools [] edge h = tt
build_within pools (b ∷ builds) zero h = once_by_bytes (outputs_of b) (h zero b (omega arith)).outputs.once
build_within pools (b ∷ builds) (suc edge) h = build_within pools builds edge (λ k d lt. h (suc k) d (omega arith))

pub outputs_once : (manifest : ManifestValue) → IsManifest manifest → OutputsOnce manifest
outputs_once manifest m edge = build_within (length manifest.pools) manifest.builds edge m.builds
