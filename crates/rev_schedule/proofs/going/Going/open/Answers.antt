use Rattle.std.proofs.Common.{◌≡◌, ℕ, ◌<◌, Bool, true, List, length, set, sym, subst, ◌∙◌, arith}
use Rattle.std.specs.List.{Contains}
use Rattle.std.proofs.lemmas.List.{length-set}
use Rattle.rev_ranks.specs.Graph.{graph_of, successors_of}
use Rattle.rev_schedule.specs.Builds.{makers_of}
use Rattle.rev_schedule.specs.Inputs.{IsLooked}
use Rattle.rev_schedule.proofs.OpenLemmas.{list-of, known-opened, become}
use Rattle.rev_schedule.proofs.going.Going.open.Goals as goal

pub returns-clause-inputs : goal.returns-clause-inputs
returns-clause-inputs c =
    let users : List ℕ = c.deref.result.now in
    let in_users : c.args.edge < length c.args.users.now = omega (arith, c.requires.users.each, c.requires.edge) in
    let in_through : c.args.edge < length c.args.self.now.through.items = omega (arith, c.requires.inputs.each, c.requires.edge) in
    let list : successors_of (graph_of c.args.users.now) c.args.edge ≡ users = list-of c.args.users.now c.args.edge c.index-users-edge.result in_users c.index-users-edge.is ∙ sym c.deref.ensures.value in
    let back : (u : ℕ) → Contains (makers_of c.args.build.now u) c.args.edge → Contains users u =
    λ u h. subst (λ (l : List ℕ). Contains l u) list (c.requires.users.reversed.back u c.args.edge h) in
    let looked : IsLooked c.args.build.now (set c.args.self.now.through.items c.args.edge true) users c.args.self.now.missing.items c.look_at_all.new.missing.items c.in_ok-turns.turns.items =
    subst (λ (t : List Bool). IsLooked c.args.build.now t users c.args.self.now.missing.items c.look_at_all.new.missing.items c.in_ok-turns.turns.items) c.deref-2.ensures.value c.in_ok-turns.ensures.looked in
    record {
      each = length-set c.args.self.now.through.items c.args.edge true ∙ c.requires.inputs.each;
      known = known-opened c.args.build.now c.args.self.now.through.items c.args.self.now.missing.items c.requires.inputs.known c.args.edge in_through users back c.look_at_all.new.missing.items c.in_ok-turns.turns.items looked;
    }

pub returns-clause-come : goal.returns-clause-come
returns-clause-come c =
    let users : List ℕ = c.deref.result.now in
    let in_users : c.args.edge < length c.args.users.now = omega (arith, c.requires.users.each, c.requires.edge) in
    let in_through : c.args.edge < length c.args.self.now.through.items = omega (arith, c.requires.inputs.each, c.requires.edge) in
    let list : successors_of (graph_of c.args.users.now) c.args.edge ≡ users = list-of c.args.users.now c.args.edge c.index-users-edge.result in_users c.index-users-edge.is ∙ sym c.deref.ensures.value in
    let back : (u : ℕ) → Contains (makers_of c.args.build.now u) c.args.edge → Contains users u =
    λ u h. subst (λ (l : List ℕ). Contains l u) list (c.requires.users.reversed.back u c.args.edge h) in
    let looked : IsLooked c.args.build.now (set c.args.self.now.through.items c.args.edge true) users c.args.self.now.missing.items c.look_at_all.new.missing.items c.in_ok-turns.turns.items =
    subst (λ (t : List Bool). IsLooked c.args.build.now t users c.args.self.now.missing.items c.look_at_all.new.missing.items c.in_ok-turns.turns.items) c.deref-2.ensures.value c.in_ok-turns.ensures.looked in
    become c.args.build.now c.args.self.now.through.items c.args.self.now.missing.items c.requires.inputs.known c.args.edge in_through users back c.look_at_all.new.missing.items c.in_ok-turns.turns.items looked
    c.sort_unstable.new.self.items c.sort_unstable.ensures.permutation c.sort_unstable.ensures.sorted
