-- Each cell is written once.
use Rattle.std.proofs.Common.{◌≡◌, List, [], ◌∷◌, sym, ap, subst, refl, ◌∙◌, arith, zero, suc}
use Rattle.std.specs.List.{AllByRecursion, IsDistinct}
use Rattle.std.specs.Ordering.{eq_by_cmp}
use Rattle.rev_causal.specs.Store.{keys_of}
use Rattle.rev_cells.specs.declared.cell.Cell.{Cell}
use Rattle.rev_cells.specs.declared.value.Value.{Value}
use Rattle.rev_cells.specs.Effects.{cells_of, stored_values}
use Rattle.rev_cells.specs.Keys.{cell_cmp}
use Rattle.rev_cells.specs.State.{State}
use Rattle.rev_cells.specs.Values.{Fits, unless_default}
use Rattle.rev_manifest.specs.Builds.{ManifestValue, IsManifest}
use Rattle.rev_events.specs.declared.event.Event.{Event}
use Rattle.rev_events.specs.Edge.{stored, AllFit}
use Rattle.rev_events.specs.Machine.{effect}
use Rattle.rev_events.specs.Written.{written}
use Rattle.rev_events.proofs.WrittenLemmas.{written-same, written-once}
use Rattle.rev_footprint.specs.Footprint.{footprint}
use Rattle.rev_footprint.specs.Value.{FootprintValue}
use Rattle.rev_footprint.proofs.OnceLemmas.{once_by_test, outputs_once}

-- one by one
pub each_fits : (ws : List (Cell × Value)) → AllFit ws → AllByRecursion (λ (w : Cell × Value). Fits w.0 w.1) ws
each_fits [] h = tt
each_fits (w ∷ ws) h = (h zero w (omega arith), each_fits ws (λ k d lt. h (suc k) d (omega arith)))

pub stored-is : (ws : List (Cell × Value)) → stored ws ≡ stored_values ws
stored-is [] = refl
stored-is (w ∷ ws) = ap (λ es. (w.0, unless_default w.1) ∷ es) (stored-is ws)

cells-keys : (ws : List (Cell × Value)) → cells_of ws ≡ keys_of (stored_values ws)
cells-keys [] = refl
cells-keys (w ∷ ws) = ap (λ cs. w.0 ∷ cs) (cells-keys ws)

-- no cell is written twice
pub writes_once : (manifest : ManifestValue) (s : State) (e : Event) (ws : List (Cell × Value)) → IsManifest manifest → stored ws ≡ effect manifest s e → IsDistinct (eq_by_cmp cell_cmp) (cells_of ws)
writes_once manifest s e ws m is =
    let keys : cells_of ws ≡ written manifest s e = cells-keys ws ∙ ap keys_of (sym (stored-is ws) ∙ is) ∙ written-same manifest s e in
    subst (IsDistinct (eq_by_cmp cell_cmp)) (sym keys) (once_by_test (written manifest s e) (written-once manifest s e (outputs_once manifest m)))

footprint_writes : (manifest : ManifestValue) (s : State) (e : Event) → (footprint manifest s e).writes ≡ written manifest s e
unfolding footprint
footprint_writes manifest s e = refl

-- the cells that an event writes are those that its footprint names
pub writes_named : (manifest : ManifestValue) (s : State) (e : Event) (ws : List (Cell × Value)) (f : FootprintValue) → stored_values ws ≡ effect manifest s e → f ≡ footprint manifest s e → cells_of ws ≡ f.writes
writes_named manifest s e ws f is print =
    cells-keys ws ∙ ap keys_of is ∙ written-same manifest s e ∙ sym (ap (λ (g : FootprintValue). g.writes) print ∙ footprint_writes manifest s e)
