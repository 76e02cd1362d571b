use Rattle.std.proofs.Common.{List, length, refl, sym, ap, ◌∙◌}
use Rattle.rev_causal.specs.History.{event_at}
use Rattle.rev_history.specs.declared.history.History.TheInside.{Inside}
use Rattle.rev_history.specs.Steps.{Placed, place_prints}
use Rattle.rev_history.specs.Removal.{IsWithoutCone}
use Rattle.rev_history.specs.Timeline.{cone_numbers, coned}
use Rattle.rev_history.specs.Value.{HistoryValue}
use Rattle.rev_history.proofs.Fields.{as_many}
use Rattle.rev_history.proofs.NamedLemmas.{length_named}
use Rattle.rev_history.proofs.RemovalLemmas.{listed_without}
use Rattle.rev_history.proofs.history.History.take_down.Goals as goal

pub remove_members-requires-clause-many : goal.remove_members-requires-clause-many
remove_members-requires-clause-many c = ap length c.deref.ensures.value ∙ sym (length_named c.self.inside.cells.places c.self.inside.steps.items) ∙ as_many c.self.inside c.self.invariant.sound

pub put_all_back-requires : goal.put_all_back-requires
put_all_back-requires c = record {
  inside = c.self.inside;
  has = record { accepted = refl; steps = refl; cells = refl };
  sound = c.self.invariant.sound;
  placed = c.self.invariant.placed;
  number = c.args.number;
  members_are = c.requires.members ∙ ap (λ (h : HistoryValue). cone_numbers c.args.number h.timeline) (sym c.self.view_is);
}

pub invariant_of-self : goal.invariant_of-self
invariant_of-self c =
    let after : Inside = record c.self.inside { steps = c.put_all_back.new.steps; kept = c.take_all.new.self; accesses = c.remove_members.new.accesses; cells = c.put_all_back.new.cells } in
    let w : IsWithoutCone c.self.inside after c.args.number c.args.members.now =
    c.put_all_back.ensures c.self.inside after c.args.number (record { accepted = refl; steps = refl; cells = refl }) c.self.invariant.sound
    (c.requires.members ∙ ap (λ (h : HistoryValue). cone_numbers c.args.number h.timeline) (sym c.self.view_is))
    (record { graph = refl; opening = refl; last = refl }) (record { accepted = refl; steps = refl; cells = refl }) c.take_all.ensures in
    listed_without c.self.inside after c.args.members.now c.self.invariant w.sound w.places w.placed w.prints c.remove_members.ensures.thinned
    (λ n f among at. c.remove_members.ensures.gone n f among (ap (λ (xs : List Placed). event_at n (place_prints c.self.inside.accepted.entries xs)) c.deref.ensures.value ∙ at))

pub returns : goal.returns
returns c =
    let after : Inside = record c.self.inside { steps = c.put_all_back.new.steps; kept = c.take_all.new.self; accesses = c.remove_members.new.accesses; cells = c.put_all_back.new.cells } in
    let w : IsWithoutCone c.self.inside after c.args.number c.args.members.now =
    c.put_all_back.ensures c.self.inside after c.args.number (record { accepted = refl; steps = refl; cells = refl }) c.self.invariant.sound
    (c.requires.members ∙ ap (λ (h : HistoryValue). cone_numbers c.args.number h.timeline) (sym c.self.view_is))
    (record { graph = refl; opening = refl; last = refl }) (record { accepted = refl; steps = refl; cells = refl }) c.take_all.ensures in
    w.timeline ∙ ap (λ (h : HistoryValue). coned c.args.number h.timeline) c.self.view_is
