use Rattle.std.proofs.Common.{rules, ◌≡◌, ◌↔◌, ℕ, Bool, IsTrue, List, length, subst, arith}
use Rattle.std.proofs.lemmas.Grind.{common_steps}
use Rattle.rev_workers.specs.Locked.{Locked}
use Rattle.rev_workers.specs.declared.standing.Standing.{Standing}
use Rattle.rev_workers.specs.Waiting.{OthersAreStill, OthersRest}
use Rattle.rev_workers.proofs.Stands.{still-rest}
use Rattle.rev_workers.proofs.held.Held.step_when_able.Goals as goal

-- what was found of the same lanes
found : (b : Bool) (n n' e e' : ℕ) (ss ss' : List Standing) → (IsTrue b ↔ OthersAreStill n e ss) → n' ≡ n → e' ≡ e → ss' ≡ ss
    → OthersAreStill n' e' ss' → IsTrue b
found b n n' e e' ss ss' is same_n same_e same_ss o =
    is.1 (subst (λ k. OthersAreStill k e ss) same_n (subst (λ k. OthersAreStill n' k ss) same_e (subst (λ xs. OthersAreStill n' e' xs) same_ss o)))

pub returns-then-may_pass-clause-waits : goal.returns-then-may_pass-clause-waits
returns-then-may_pass-clause-waits g c = λ k is. (
  cc,
  search rules,
  (λ o.
      let yes = found _ _ _ _ _ _ _ c.others_are_still.ensures (search rules) (search rules) (search rules) o in
      search (rules, yes)),
  (c.of.result, search rules, search rules),
)

pub returns-in-Ok-step-clause-able : goal.returns-in-Ok-step-clause-able
returns-in-Ok-step-clause-able g c = λ may.
    let n = c.args.lane.now.number in
    subst (λ (h : Locked). OthersAreStill n (length h.desk.journal) h.standings → OthersRest n h.desk h.standings) c.self.view_is
    (still-rest c.self.inside.desk c.self.inside.standings.items n c.self.invariant.4)
    (first_of (search (rules, may), grind (arith, common_steps, may)))
