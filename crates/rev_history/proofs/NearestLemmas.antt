-- What is found by the places of a history's cells.
use Rattle.std.proofs.Common.{◌≡◌, ℕ, true, List, Option, ◌∙◌}
use Rattle.std.specs.Ordering.{nat_cmp}
use Rattle.rev_accesses.specs.Places as access_places
use Rattle.rev_causal.specs.AccessLists.{numbers_by}
use Rattle.rev_causal.specs.Chosen.{chosen}
use Rattle.rev_causal.specs.History as causal
use Rattle.rev_causal.specs.KeptHistory.{nearest_in}
use Rattle.rev_causal.proofs.Chosen.{chosen-rises}
use Rattle.rev_footprint.specs.Value as footprints
use Rattle.rev_history.specs.declared.history.History.TheInside.{Inside}
use Rattle.rev_history.specs.declared.steps.Step.{Step}
use Rattle.rev_history.specs.Named.{AreNamed, ArePaired, CellPrints}
use Rattle.rev_history.specs.Sound.{IsListed, IsPlacedIn, beside_of, kept_prints, timeline_of}
use Rattle.rev_history.specs.Steps.{footprint_at, place_prints, prints_of}
use Rattle.rev_history.specs.Timeline.{Timeline, nearest_conflict}
use Rattle.rev_history.proofs.Listed.{all_prints, nearest_found, numbers_chosen}
use Rattle.rev_history.proofs.NamedLemmas.{step_is_named, steps_paired}
use Rattle.rev_history.proofs.PairedLemmas.{nearest_same, paired_chosen}

-- the kept footprints by cells
abbrev pub kept_named : Inside → CellPrints
kept_named a = chosen (prints_of a.accepted.entries (beside_of a)) a.kept.items

pub kept_are_named : (a : Inside) → IsListed a → AreNamed a.cells.places (kept_prints a) (kept_named a)
kept_are_named a l = record {
  distinct = l.distinct;
  paired = paired_chosen a.cells.places (place_prints a.accepted.entries a.steps.items) (prints_of a.accepted.entries (beside_of a)) a.kept.items
      (steps_paired a.cells.places a.accepted.entries a.steps.items l.placed);
}

pub named_rise : (a : Inside) → IsListed a → causal.IsRising (kept_named a)
named_rise a l = chosen-rises (prints_of a.accepted.entries (beside_of a)) a.kept.items l.sound.stepped.rising

pub named_numbers : (a : Inside) → IsListed a → numbers_by (λ f. true) (kept_named a) ≡ a.kept.items
named_numbers a l = numbers_chosen (prints_of a.accepted.entries (beside_of a)) a.kept.items (all_prints a l.sound)

-- the nearest conflict with a step's footprint
pub nearest_step : (a : Inside) → IsListed a → (t : Timeline) → timeline_of a ≡ t → (n : ℕ) (s : Step) → IsPlacedIn a.cells.places s → (o : Option ℕ)
    → o ≡ nearest_in nat_cmp n (access_places.print_of s.places) (kept_prints a) → o ≡ nearest_conflict n (footprint_at a.cells.places s) t
nearest_step a l t view n s placed o is =
    nearest_found a l.sound t view n (footprint_at a.cells.places s) o
    (is ∙ nearest_same a.cells.places l.distinct n (access_places.print_of s.places) (footprints.print_of (footprint_at a.cells.places s)) (step_is_named a.cells.places s placed)
    (kept_prints a) (kept_named a) (kept_are_named a l).paired)
