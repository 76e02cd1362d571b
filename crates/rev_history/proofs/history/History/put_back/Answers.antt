use Rattle.std.proofs.Common.{List, [], ◌∷◌, length, refl, sym, ap, ◌∙◌}
use Rattle.rev_causal.specs.History.{event_at}
use Rattle.rev_cells.specs.Table.{raised_by}
use Rattle.rev_history.specs.declared.history.History.TheInside.{Inside}
use Rattle.rev_history.specs.Steps.{Placed, place_prints}
use Rattle.rev_history.specs.Removal.{IsWithout}
use Rattle.rev_history.specs.Timeline.{undo_refusal, undone}
use Rattle.rev_history.specs.Value.{HistoryValue, cells_written}
use Rattle.rev_history.proofs.Fields.{as_many}
use Rattle.rev_history.proofs.NamedLemmas.{length_named}
use Rattle.rev_history.proofs.RemovalLemmas.{listed_without}
use Rattle.rev_history.proofs.history.History.put_back.Goals as goal

pub remove_members-requires-clause-many : goal.remove_members-requires-clause-many
remove_members-requires-clause-many c = ap length c.deref.ensures.value ∙ sym (length_named c.self.inside.cells.places c.self.inside.steps.items) ∙ as_many c.self.inside c.self.invariant.sound

pub put_back-requires : goal.put_back-requires
put_back-requires c = record {
  inside = c.self.inside;
  has = record { accepted = refl; steps = refl; cells = refl };
  sound = c.self.invariant.sound;
  placed = c.self.invariant.placed;
  free = ap (λ (h : HistoryValue). undo_refusal h.timeline c.args.number) c.self.view_is ∙ c.requires;
}

pub invariant_of-self : goal.invariant_of-self
invariant_of-self c =
    let after : Inside = record c.self.inside { steps = c.put_back.new.steps; kept = c.take.new.self; accesses = c.remove_members.new.accesses; cells = c.put_back.new.cells } in
    let w : IsWithout c.self.inside after c.args.number =
    c.put_back.ensures c.self.inside after (record { accepted = refl; steps = refl; cells = refl }) c.self.invariant.sound
    (ap (λ (h : HistoryValue). undo_refusal h.timeline c.args.number) c.self.view_is ∙ c.requires)
    (record { graph = refl; opening = refl; last = refl }) (record { accepted = refl; steps = refl; cells = refl }) c.take.ensures in
    listed_without c.self.inside after (c.args.number ∷ []) c.self.invariant w.sound w.places w.placed w.prints c.remove_members.ensures.thinned
    (λ n f among at. c.remove_members.ensures.gone n f among (ap (λ (xs : List Placed). event_at n (place_prints c.self.inside.accepted.entries xs)) c.deref.ensures.value ∙ at))

pub returns-clause-timeline : goal.returns-clause-timeline
returns-clause-timeline c =
    let after : Inside = record c.self.inside { steps = c.put_back.new.steps; kept = c.take.new.self; accesses = c.remove_members.new.accesses; cells = c.put_back.new.cells } in
    (c.put_back.ensures c.self.inside after (record { accepted = refl; steps = refl; cells = refl }) c.self.invariant.sound
    (ap (λ (h : HistoryValue). undo_refusal h.timeline c.args.number) c.self.view_is ∙ c.requires)
    (record { graph = refl; opening = refl; last = refl }) (record { accepted = refl; steps = refl; cells = refl }) c.take.ensures).timeline
    ∙ ap (λ (h : HistoryValue). undone c.args.number h.timeline) c.self.view_is

pub returns-clause-writes : goal.returns-clause-writes
returns-clause-writes c =
    let after : Inside = record c.self.inside { steps = c.put_back.new.steps; kept = c.take.new.self; accesses = c.remove_members.new.accesses; cells = c.put_back.new.cells } in
    (c.put_back.ensures c.self.inside after (record { accepted = refl; steps = refl; cells = refl }) c.self.invariant.sound
    (ap (λ (h : HistoryValue). undo_refusal h.timeline c.args.number) c.self.view_is ∙ c.requires)
    (record { graph = refl; opening = refl; last = refl }) (record { accepted = refl; steps = refl; cells = refl }) c.take.ensures).writes
    ∙ ap (λ (h : HistoryValue). raised_by (cells_written c.args.number h.timeline) h.writes) c.self.view_is
