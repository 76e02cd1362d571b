use Rattle.std.proofs.Common.{◌++◌, ◌∷◌, [], List, ap, ◌∙◌, subst, Contains, cond, Some}
use Rattle.std.specs.Map.{lookup, keys_of}
use Rattle.indexmap.proofs.CallerLemmas.{insert_entry-new}
use Rattle.rev_cells.specs.declared.cell.Cell.{Cell}
use Rattle.rev_cells.specs.declared.value.Value.{Value}
use Rattle.rev_cells.specs.Table.{Table}
use Rattle.rev_cells.proofs.EntryLemmas.{lookup-absent, state_of-reserve, keys_of-push, cell_eq, distinct_by_cmp, AllFit-reserve}
use Rattle.rev_cells.proofs.cells.Cells.add_place.Goals as goal

pub returns-clause-state : goal.returns-clause-state
returns-clause-state c =
    let es : List (Cell × Value) = c.self.inside.entries.entries in
    state_of-reserve es c.insert.new.self.entries c.in_ok-cell.cell
    (lookup-absent es c.in_ok-cell.cell (λ h. c.requires (subst (λ (t : Table). Contains t.places c.args.cell.now) c.self.view_is (subst (Contains (keys_of es)) c.in_ok-cell.ensures h))))
    (λ q. c.in_ok-insert.ensures.updates.0 q
    ∙ ap (λ v. cond (cell_eq c.in_ok-cell.cell q) (Some v) (lookup (cell_eq q) es)) c.default_value-value.ensures)
    ∙ ap (λ t. t.state) c.self.view_is

pub invariant_of-self-2 : goal.invariant_of-self-2
invariant_of-self-2 c =
    let es : List (Cell × Value) = c.self.inside.entries.entries in
    record {
      distinct = distinct_by_cmp _ c.in_ok-insert.ensures.unique;
      fit = AllFit-reserve es c.insert.new.self.entries c.in_ok-cell.cell c.self.invariant.fit
          (λ q. c.in_ok-insert.ensures.updates.0 q
          ∙ ap (λ v. cond (cell_eq c.in_ok-cell.cell q) (Some v) (lookup (cell_eq q) es)) c.default_value-value.ensures);
    }

pub returns-clause-added : goal.returns-clause-added
returns-clause-added c =
    let es : List (Cell × Value) = c.self.inside.entries.entries in
    ap keys_of (c.in_ok-insert.ensures.entries
    ∙ insert_entry-new cell_eq c.self.inside.entries c.in_ok-cell.cell c.default_value-value.result
    (lookup-absent es c.in_ok-cell.cell (λ h. c.requires (subst (λ (t : Table). Contains t.places c.args.cell.now) c.self.view_is (subst (Contains (keys_of es)) c.in_ok-cell.ensures h)))))
    ∙ keys_of-push es c.in_ok-cell.cell c.default_value-value.result
    ∙ ap (λ (k : Cell). keys_of es ++ k ∷ []) c.in_ok-cell.ensures
    ∙ ap (λ (t : Table). t.places ++ c.args.cell.now ∷ []) c.self.view_is
