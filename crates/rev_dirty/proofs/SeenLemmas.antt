-- States that agree on the seen paths show the same of a path.
use Rattle.std.proofs.Common.{◌≡◌, ℕ, zero, suc, ◌==◌, Bool, true, false, List, [], map, length, Option, Some, None, flat_map, inl, inr, refl, ap, if◌then◌else◌}
use Rattle.std.specs.FinMap.{get}
use Rattle.rev_manifest.specs.Manifest.{BuildValue}
use Rattle.rev_graph.specs.Graph.{build_at, producer_of}
use Rattle.rev_cells.specs.declared.cell.Cell.{Cell}
use Rattle.rev_cells.specs.State.{State, stamp_of}
use Rattle.rev_causal.specs.Order.{Has}
use Rattle.rev_dirty.specs.Visible.{greatest, line_inputs, seen_behind, seen_within, visible_stamp}
use Rattle.rev_dirty.specs.Seen.{behind, seen_paths, seen_paths_within}
use Rattle.rev_dirty.proofs.ListLemmas.{map-same, in-flat}

-- the two states hold the same in these cells
abbrev pub Agree : State → State → List Cell → Type 0
Agree s u cells = (c : Cell) → Has cells c → get u c ≡ get s c

-- and the same stamps of these paths
abbrev pub SameStamps : State → State → List (List ℕ) → Type 0
SameStamps s u paths = (path : List ℕ) → Has paths path → stamp_of u path ≡ stamp_of s path

behind-same : (builds : List BuildValue) (s u : State) (n : ℕ) → ((path : List ℕ) → SameStamps s u (seen_paths_within builds n path) → seen_within builds u n path ≡ seen_within builds s n path)
    → (o : Option ℕ) → SameStamps s u (behind builds (seen_paths_within builds n) o) → seen_behind builds (seen_within builds u n) o ≡ seen_behind builds (seen_within builds s n) o
behind-same builds s u n same None on = refl
behind-same builds s u n same (Some edge) on = by (build_at builds edge).phony on
  where
    by : (b : Bool) → SameStamps s u (if b then flat_map (seen_paths_within builds n) (line_inputs (build_at builds edge)) else [])
        → (if b then greatest (map (seen_within builds u n) (line_inputs (build_at builds edge))) else 0) ≡ (if b then greatest (map (seen_within builds s n) (line_inputs (build_at builds edge))) else 0)
    by true on =
        ap greatest (map-same (seen_within builds u n) (seen_within builds s n) (line_inputs (build_at builds edge))
        (λ path at. same path (λ other h. on other (in-flat (seen_paths_within builds n) (line_inputs (build_at builds edge)) path other at h))))
    by false on = refl

within-same : (builds : List BuildValue) (s u : State) (n : ℕ) (path : List ℕ) → SameStamps s u (seen_paths_within builds n path) → seen_within builds u n path ≡ seen_within builds s n path
within-same builds s u zero path on = on path (inl refl)
within-same builds s u (suc n) path on =
    let own : stamp_of u path ≡ stamp_of s path = on path (inl refl) in
    let deep : seen_behind builds (seen_within builds u n) (producer_of builds path) ≡ seen_behind builds (seen_within builds s n) (producer_of builds path) =
    behind-same builds s u n (within-same builds s u n) (producer_of builds path) (λ other h. on other (inr h)) in
    λ i. if own i == 0 then deep i else own i

-- the visible stamp depends on the stamps of the seen paths alone
pub visible-same : (builds : List BuildValue) (s u : State) (path : List ℕ) → SameStamps s u (seen_paths builds path) → visible_stamp builds u path ≡ visible_stamp builds s path
unfolding visible_stamp seen_paths
visible-same builds s u path on = within-same builds s u (length builds) path on
