use Rattle.std.proofs.Common.{◌≡◌, ℕ, List, Option, None, Some, is_some, Contains, slice_get, false, true≢false, refl, sym, subst, ◌∙◌}
use Rattle.std.specs.Prelude.{IfNone, IfSome}
use Rattle.std.specs.Map.{keys_of}
use Rattle.std.proofs.lemmas.Map.Views.{IsSome-lookup_from_Contains}
use Rattle.rev_cells.specs.declared.cell.Cell.{Cell}
use Rattle.rev_cells.specs.Table.{Table}
use Rattle.rev_cells.proofs.EntryLemmas.{cell_eq_equiv}
use Rattle.rev_cells.specs.Same.{cell_eq}
use Rattle.std.specs.Prelude.{position}
use Rattle.rev_cells.proofs.PlacesLemmas.{found_at}
use Rattle.rev_cells.proofs.cells.Cells.place_of.Goals as goal

some_at : (c : Cell) (cells : List Cell) (o : Option ℕ) → o ≡ position (cell_eq c) cells → IfSome o (λ i. slice_get cells i ≡ Some c)
some_at c cells None e = tt
some_at c cells (Some i) e = found_at c cells i e

none_there : (o : Option ℕ) (P : Type 0) → (is_some o ≡ false → P → ⊥) → IfNone o (P → ⊥)
none_there None P h = h refl
none_there (Some i) P h = tt

pub returns-clause-some : goal.returns-clause-some
returns-clause-some c =
    subst (λ (t : Table). IfSome c.get_index_of.result (λ i. slice_get t.places i ≡ Some c.args.cell.now)) c.self.view_is
    (some_at c.args.cell.now (keys_of c.self.inside.entries.entries) c.get_index_of.result c.get_index_of.ensures.index)

pub returns-clause-none : goal.returns-clause-none
returns-clause-none c =
    none_there c.get_index_of.result (Contains c.args.self.now.places c.args.cell.now)
    (λ none h. true≢false (sym (c.get_index_of.ensures.found
    ∙ IsSome-lookup_from_Contains cell_eq_equiv c.args.cell.now c.self.inside.entries.entries (subst (λ (t : Table). Contains t.places c.args.cell.now) (sym c.self.view_is) h)) ∙ none))
