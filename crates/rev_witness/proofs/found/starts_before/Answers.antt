use Rattle.std.proofs.Common.{◌≡◌, None, ap, arith, refl, subst, sym, true, true≢false, ◌∙◌}
use Rattle.rev_cells.specs.State.{State, mark_of}
use Rattle.rev_events.specs.Refusal.{is_wanted_mark}
use Rattle.rev_history.specs.Timeline.{accept_refusal}
use Rattle.rev_races.specs.Races.{starts}
use Rattle.rev_witness.specs.Witness.{BeganWith, opening_with}
use Rattle.rev_witness.proofs.ProgressLemmas.{numbers-left, start-next, starts-it, waited-not-wanted, wanted-still}
use Rattle.rev_witness.proofs.WitnessLemmas.{is_witness}
use Rattle.rev_witness.proofs.found.starts_before.Goals as goal

-- what is waited for ends
pub returns-then-not-branch-clause-exact : goal.returns-then-not-branch-clause-exact
returns-then-not-branch-clause-exact c = λ opening planned command.
    absurd (true≢false (sym (c.in_ok-waited_end.ensures.goes opening planned.under_way).0 ∙ c.if-not-branch.true))

-- what is not waited for is still to run
pub returns-then-not-is_wanted-clause-exact : goal.returns-then-not-is_wanted-clause-exact
returns-then-not-is_wanted-clause-exact c = λ opening planned command. (
  λ did. absurd (true≢false (sym did)),
  λ free.
      let t = c.args.history.now.timeline in
      let u = c.waited_end.new.history.timeline in
      let went = c.in_ok-waited_end.ensures.goes opening planned.under_way in
      let off = ap (λ (s : State). is_wanted_mark (mark_of s c.args.maker)) (sym c.cells.ensures.state) ∙ sym c.is_wanted.ensures ∙ c.if-not-is_wanted.true in
      absurd (true≢false (sym (wanted-still c.args.graph.now c.edges-edges.ensures.graph opening c.args.user c.args.maker t u went.1 planned.made free) ∙ off)),
)

-- and then the start happens
pub returns-then-not-branch-2-clause-exact : goal.returns-then-not-branch-2-clause-exact
returns-then-not-branch-2-clause-exact c = λ opening planned command.
    let graph = c.args.graph.now in
    let is = c.edges-edges.ensures.graph in
    let t = c.args.history.now.timeline in
    let u = c.waited_end.new.history.timeline in
    let went = c.in_ok-waited_end.ensures.goes opening planned.under_way in
    let way = went.1.under_way in
    let left = numbers-left graph is opening u way in
    let ok : accept_refusal c.waited_end.new.history.timeline c.in_ok-start.start ≡ None =
    subst (λ e. accept_refusal u e ≡ None) (sym c.in_ok-start.ensures) (start-next graph is opening c.args.user t u c.requires.user command.plain planned.used went.1) in
    absurd (true≢false (sym (c.in_ok-happens.ensures.accepted ok (omega (arith, left))) ∙ c.if-not-branch-2.true))

pub returns-clause-exact : goal.returns-clause-exact
returns-clause-exact c = λ opening planned command. (
  λ did.
      let t = c.args.history.now.timeline in
      let u = c.waited_end.new.history.timeline in
      let went = c.in_ok-waited_end.ensures.goes opening planned.under_way in
      let wants = ap (λ (s : State). is_wanted_mark (mark_of s c.args.maker)) (sym c.cells.ensures.state) ∙ sym c.is_wanted.ensures ∙ c.if-not-is_wanted.false in
      waited-not-wanted c.args.graph.now c.edges-edges.ensures.graph opening c.args.user c.args.maker t u went.1 wants,
  λ free. refl,
)

pub returns-clause-witness : goal.returns-clause-witness
returns-clause-witness c = λ sources made began did.
    let manifest = c.args.graph.now.manifest in
    let opening = (opening_with sources).state in
    let t = c.waited_end.new.history.timeline in
    let before : BeganWith manifest opening t = c.in_ok-waited_end.ensures.began manifest opening began in
    let begins : starts manifest c.args.user c.in_ok-start.start ≡ true =
    subst (λ e. starts manifest c.args.user e ≡ true) (sym c.in_ok-start.ensures) (starts-it c.args.graph.now c.edges-edges.ensures.graph opening c.args.user c.requires.user) in
    let wanted = ap (λ (s : State). is_wanted_mark (mark_of s c.args.maker)) (sym c.cells.ensures.state) ∙ sym c.is_wanted.ensures ∙ c.if-not-is_wanted.false in
    is_witness manifest c.args.user c.args.maker sources t c.happens.new.history.timeline c.in_ok-start.start made before
    (c.in_ok-happens.ensures.began manifest opening before) c.kept-kept.ensures.legal
    (c.in_ok-happens.ensures.happened c.if-not-branch-2.false) begins wanted
