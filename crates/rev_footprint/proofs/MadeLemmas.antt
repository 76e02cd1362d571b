-- A footprint that is made of its cells.
use Rattle.std.proofs.Common.{◌≡◌, Bool, true, false, ◌||◌, List, [], ◌++◌, refl, sym, ap, ◌∙◌}
use Rattle.std.specs.FinSet as cells
use Rattle.std.specs.Ordering.{eq_by_cmp}
use Rattle.std.proofs.lemmas.List.Folds.{list_any-append}
use Rattle.rev_cells.specs.declared.cell.Cell.{Cell}
use Rattle.rev_cells.specs.Keys.{cell_cmp}
use Rattle.rev_cells.proofs.EntryLemmas.{cells_total, cells_exact}
use Rattle.rev_causal.specs.Store.{among}
use Rattle.rev_footprint.specs.Adds.{Adds}
use Rattle.rev_footprint.specs.Value.{FootprintValue, footprint_by}

pub same-set : (keys cs : List Cell) → Adds [] keys cs → cells.from_list {R = cell_cmp} keys ≡ cells.from_list {R = cell_cmp} cs
same-set keys cs added =
    cells.same_set cells_total cells_exact (cells.from_list keys) (cells.from_list cs)
    (λ q. cells.contains-from_list cells_total keys q ∙ added q ∙ sym (cells.contains-from_list cells_total cs q))

-- the value of a footprint whose set has these cells
pub made : (keys writes besides : List Cell) (whole : Bool) → Adds [] keys (writes ++ besides)
    → (let value : FootprintValue = record { reads = cells.from_list {R = cell_cmp} keys; writes = writes; whole = whole } in value ≡ footprint_by whole besides writes)
made keys writes besides whole added = λ i. record { reads = same-set keys (writes ++ besides) added i; writes = writes; whole = whole }

-- what is written, where nothing is read besides
pub adds-none : (written besides : List Cell) → besides ≡ [] → Adds written written besides
adds-none written besides none c = or_none (among cell_cmp written c) ∙ ap (λ ks. among cell_cmp written c || among cell_cmp ks c) (sym none)
  where
    or_none : (b : Bool) → b ≡ (b || false)
    or_none true = refl
    or_none false = refl

-- what was added to what is written
pub adds-both : (written all besides : List Cell) → Adds written all besides → Adds [] all (written ++ besides)
adds-both written all besides added c = added c ∙ sym (list_any-append (eq_by_cmp cell_cmp c) written besides)
