-- The state that an accepted plan leaves.
use Rattle.std.proofs.Common.{◌≡◌, ℕ, Bool, true, false, List, [], ◌∷◌, ◌++◌, map, length, Option, None, inl, inr, refl, sym, ap, subst, ◌∙◌, true≢false}
use Rattle.std.specs.FinMap.{get}
use Rattle.rev_manifest.specs.Manifest.{ManifestValue}
use Rattle.rev_cells.specs.declared.cell.Cell.{Cell}
use Rattle.rev_cells.specs.declared.cell.Cell.TheVariants as cell
use Rattle.rev_cells.specs.declared.mark.Mark.{Mark}
use Rattle.rev_cells.specs.declared.value.Value.{Value}
use Rattle.rev_cells.specs.declared.value.Value.TheVariants as value
use Rattle.rev_cells.specs.Keys.{cell_cmp}
use Rattle.rev_cells.specs.State.{State, mark_of, default_or, stamp_in, mark_in, built_in, deps_in}
use Rattle.rev_cells.specs.Values.{unless_default}
use Rattle.rev_causal.specs.Order.{Has, Distinct}
use Rattle.rev_causal.specs.Store.{keys_of, set_cell, set_cells}
use Rattle.rev_dirty.specs.Inputs.{producers_in}
use Rattle.rev_plan.specs.Plan.{edge_numbers, mark_for, marks_of, plan_refusal, targets_or}
use Rattle.rev_plan.specs.Planned.{LeadsTo}
use Rattle.rev_plan.proofs.PlannedLemmas.{chains-end-at-reasons}
use Rattle.rev_events.specs.declared.event.Event.TheVariants.{Plan}
use Rattle.rev_events.specs.Edge.{Effect, write}
use Rattle.rev_events.specs.Laws.{PlansAreExplained}
use Rattle.rev_events.specs.Machine.{refusal, effect, after, write_marks}
use Rattle.rev_events.specs.Refusal.{of_plan}
use Rattle.rev_events.specs.Written.{written}
use Rattle.rev_events.proofs.TestLemmas.{none-mapped}
use Rattle.rev_events.proofs.WriteLemmas.{unwritten, written-first, read-mark}
use Rattle.rev_events.proofs.WrittenLemmas.{written-same, plan-once}

-- a cell holds what is written to it, where no cell is written twice
written-at : (s : State) (ws : Effect) (c : Cell) (v : Option Value) → Distinct (keys_of ws) → Has ws (c, v) → get (set_cells cell_cmp s ws) c ≡ v
written-at s [] c v d h = absurd h
written-at s (w ∷ ws) c v d (inl e) =
    subst (λ (p : Cell × Option Value). get (set_cells cell_cmp s (w ∷ ws)) p.0 ≡ p.1) e (written-first s w.0 w.1 ws d.0)
written-at s (w ∷ ws) c v d (inr h) = written-at (set_cell cell_cmp s w.0 w.1) ws c v d.1 h

-- the mark of each edge is written
mark-written : (f : ℕ → Mark) (tail : Effect) (edges : List ℕ) (edge : ℕ) → Has edges edge → Has (write_marks edges (map f edges) ++ tail) (write (cell.Mark edge) (value.Mark (f edge)))
mark-written f tail [] edge h = absurd h
mark-written f tail (e ∷ es) edge (inl same) = inl (ap (λ n. write (cell.Mark n) (value.Mark (f n))) same)
mark-written f tail (e ∷ es) edge (inr h) = inr (mark-written f tail es edge h)

-- a plan writes marks and the interrupt, and no other cell
abbrev is_planned : Cell → Bool
is_planned (cell.Stamp path) = false
is_planned (cell.Mark edge) = true
is_planned (cell.Job job) = false
is_planned (cell.Slot pool place) = false
is_planned (cell.Depth pool) = false
is_planned (cell.Built path) = false
is_planned (cell.Deps path) = false
is_planned cell.Halted = true

planned-cell : (edges : List ℕ) (c : Cell) → Has (map cell.Mark edges ++ cell.Halted ∷ []) c → is_planned c ≡ true
planned-cell [] c (inl e) = ap is_planned (sym e)
planned-cell [] c (inr h) = absurd h
planned-cell (edge ∷ edges) c (inl e) = ap is_planned (sym e)
planned-cell (edge ∷ edges) c (inr h) = planned-cell edges c h

map-same : (g f : ℕ → Mark) (xs : List ℕ) → ((x : ℕ) → Has xs x → g x ≡ f x) → map g xs ≡ map f xs
map-same g f [] h = refl
map-same g f (x ∷ xs) h = λ i. h x (inl refl) i ∷ map-same g f xs (λ y k. h y (inr k)) i

module _ (manifest : ManifestValue) (s : State) (targets : List (List ℕ)) where
  abbrev plan_effect : Effect
  plan_effect = effect manifest s (Plan targets)

  keys-are : keys_of plan_effect ≡ map cell.Mark (edge_numbers manifest.builds) ++ cell.Halted ∷ []
  unfolding written
  keys-are = written-same manifest s (Plan targets)

  keys-once : Distinct (keys_of plan_effect)
  keys-once = subst (λ (cs : List Cell). Distinct cs) (sym keys-are) (plan-once (length manifest.builds))

  -- other cells stay
  stays : (c : Cell) → is_planned c ≡ false → get (after manifest s (Plan targets)) c ≡ get s c
  stays c other = unwritten s plan_effect c
      (λ h. true≢false (sym (planned-cell (edge_numbers manifest.builds) c (subst (λ (cs : List Cell). Has cs c) keys-are h)) ∙ other))

  mark-has : (edge : ℕ) → Has (edge_numbers manifest.builds) edge
      → Has plan_effect (write (cell.Mark edge) (value.Mark (mark_for manifest.builds s (producers_in manifest.builds (targets_or manifest.defaults targets)) edge)))
  unfolding effect marks_of
  mark-has edge h =
      mark-written (mark_for manifest.builds s (producers_in manifest.builds (targets_or manifest.defaults targets))) (write cell.Halted (value.Halted false) ∷ []) (edge_numbers manifest.builds) edge h

  mark-is : (edge : ℕ) → Has (edge_numbers manifest.builds) edge
      → mark_of (after manifest s (Plan targets)) edge ≡ mark_for manifest.builds s (producers_in manifest.builds (targets_or manifest.defaults targets)) edge
  mark-is edge h =
      let m = mark_for manifest.builds s (producers_in manifest.builds (targets_or manifest.defaults targets)) edge in
      ap (λ o. mark_in (default_or (cell.Mark edge) o)) (written-at s plan_effect (cell.Mark edge) (unless_default (value.Mark m)) keys-once (mark-has edge h))
      ∙ read-mark edge m

  marks-are : map (mark_of (after manifest s (Plan targets))) (edge_numbers manifest.builds) ≡ marks_of manifest s targets
  unfolding marks_of
  marks-are =
      map-same (mark_of (after manifest s (Plan targets))) (mark_for manifest.builds s (producers_in manifest.builds (targets_or manifest.defaults targets))) (edge_numbers manifest.builds) mark-is

  module _ (jobs : ℕ) (accepted : refusal manifest jobs s (Plan targets) ≡ None) where
    plan-accepted : plan_refusal manifest s targets ≡ None
    unfolding refusal
    plan-accepted = none-mapped of_plan (plan_refusal manifest s targets) accepted

    pub leads-to : LeadsTo manifest targets s (after manifest s (Plan targets))
    leads-to = record {
      accepted = plan-accepted;
      marks = marks-are;
      stamps = λ path. ap (λ o. stamp_in (default_or (cell.Stamp path) o)) (stays (cell.Stamp path) refl);
      built = λ path. ap (λ o. built_in (default_or (cell.Built path) o)) (stays (cell.Built path) refl);
      deps = λ path. ap (λ o. deps_in (default_or (cell.Deps path) o)) (stays (cell.Deps path) refl);
    }

pub plans-are-explained : PlansAreExplained
plans-are-explained = record {
  leads = λ manifest jobs s targets accepted. leads-to manifest s targets jobs accepted;
  ends = λ manifest jobs s targets edge accepted within wanted.
      chains-end-at-reasons manifest targets s (after manifest s (Plan targets)) edge (leads-to manifest s targets jobs accepted) within wanted;
}
