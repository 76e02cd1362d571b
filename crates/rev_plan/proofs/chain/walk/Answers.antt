use Rattle.std.proofs.Common.{◌≡◌, ℕ, List, Bool, Option, true, IfSome, set, length, ◌<◌, sym, ap, subst, ◌∙◌, arith}
use Rattle.rev_dirty.specs.ScanValue.{ScanValue}
use Rattle.rev_ranks.specs.Sets.{is_marked, unmarked}
use Rattle.rev_ranks.proofs.Marks.{unmarked_less}
use Rattle.rev_plan.proofs.ChainLemmas.{IsUnderWay, begins, follows, goes-on}
use Rattle.rev_plan.proofs.TurnLemmas.{ends-turned, none-told, turned}
use Rattle.rev_plan.proofs.chain.walk.Goals as goal

pub turns-init : goal.turns-init
turns-init c = record {
  graph = c.requires.graph;
  state = c.requires.state;
  none = c.requires.no_reasons;
  way =
      subst (λ (steps : List (ℕ × ℕ)). IsUnderWay c.args.graph.now.manifest.builds c.args.cells.now.state c.args.edge c.args.in_chain.now.items steps c.args.edge) (sym c.requires.no_steps)
      (begins c.args.graph.now.manifest.builds c.args.cells.now.state c.args.edge c.args.in_chain.now.items c.requires.edge c.requires.in_chain);
}

pub turns-smaller : goal.turns-smaller
turns-smaller c =
    let marks : c.turn_at.new.in_chain.items ≡ set c.turns.in_chain.items c.turns.last true =
    subst (λ (turn : Option (ℕ × ℕ)). IfSome turn (λ _. c.turn_at.new.in_chain.items ≡ set c.turns.in_chain.items c.turns.last true)) c.in-Some.is c.in_ok-position.ensures.marks in
    let within : c.turns.last < length c.turns.in_chain.items = omega (arith, c.turns.invariant.way.is_edge, c.turns.invariant.way.length_is) in
    let less = unmarked_less c.turns.in_chain.items c.turns.last within c.turns.invariant.way.fresh in
    omega (arith, less, ap unmarked marks)

pub turns-preserved : goal.turns-preserved
turns-preserved c =
    let builds = c.args.graph.now.manifest.builds in
    let state = c.args.cells.now.state in
    let marks : c.turn_at.new.in_chain.items ≡ set c.turns.in_chain.items c.turns.last true =
    subst (λ (turn : Option (ℕ × ℕ)). IfSome turn (λ _. c.turn_at.new.in_chain.items ≡ set c.turns.in_chain.items c.turns.last true)) c.in-Some.is c.in_ok-position.ensures.marks in
    let went = turned builds state (is_marked (set c.turns.in_chain.items c.turns.last true)) c.turns.last c.in-Some.position c.in-Some.next (sym c.in-Some.is ∙ c.in_ok-position.ensures.turn) in
    let leads = follows builds state (is_marked (set c.turns.in_chain.items c.turns.last true)) c.turns.last c.in-Some.position c.in-Some.next went.is in
    record {
      graph = ap (λ (s : ScanValue). s.graph) c.in_ok-position.ensures.same ∙ c.turns.invariant.graph;
      state = ap (λ (s : ScanValue). s.state) c.in_ok-position.ensures.same ∙ c.turns.invariant.state;
      none = c.in_ok-position.ensures.reasons ∙ none-told builds state c.turns.last went.bare;
      way =
          subst (λ (chain : List Bool). IsUnderWay c.args.graph.now.manifest.builds c.args.cells.now.state c.args.edge chain c.push.new.self.items c.in-Some.next) (sym marks)
          (subst (λ (steps : List (ℕ × ℕ)). IsUnderWay c.args.graph.now.manifest.builds c.args.cells.now.state c.args.edge (set c.turns.in_chain.items c.turns.last true) steps c.in-Some.next) (sym c.in_ok-push.ensures.items)
          (goes-on builds state c.args.edge c.turns.in_chain.items c.turns.steps.items c.turns.last c.turns.invariant.way went.is_wanted went.bare c.in-Some.position c.in-Some.next went.is leads.is_edge leads.fresh));
    }

pub returns : goal.returns
returns c =
    ends-turned c.args.graph.now.manifest.builds c.args.cells.now.state c.args.edge c.turns.in_chain.items c.turns.steps.items c.turns.last c.turns.invariant.way (sym c.in_default.is ∙ c.in_ok-position.ensures.turn)
    ∙ (λ i. record { steps = c.turns.steps.items; last = c.turns.last; reasons = sym c.in_ok-position.ensures.reasons i })
