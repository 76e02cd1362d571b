use Rattle.std.proofs.Common.{◌+◌, List, ℕ, length, sym, subst, arith}
use Rattle.std.specs.Global.{Vec}
use Rattle.rev_unlisted.specs.Found.{IsFollow, names_of}
use Rattle.rev_unlisted.proofs.FollowLemmas.{follow-is, follow-within}
use Rattle.rev_unlisted.proofs.AnswerLemmas.{led-is}
use Rattle.rev_unlisted.proofs.answer.find_ways.Goals as goal

pub led_to-requires-clause-edges : goal.led_to-requires-clause-edges
led_to-requires-clause-edges c =
    let is : IsFollow (length c.args.graph.now.manifest.builds + length c.args.paths.now) c.deref.result.now = subst (λ (ls : List (Vec ℕ)). IsFollow (length c.args.graph.now.manifest.builds + length c.args.paths.now) ls) (sym c.deref.ensures.value) (follow-is c.args.graph.now.manifest.builds (names_of c.args.lists.now) c.args.paths.now c.args.sure c.in_ok-steps.steps.items c.in_ok-steps.ensures) in
    omega (arith, is.each, c.edges.ensures.edges)

pub led_to-requires-clause-inside : goal.led_to-requires-clause-inside
led_to-requires-clause-inside c =
    let is : IsFollow (length c.args.graph.now.manifest.builds + length c.args.paths.now) c.deref.result.now = subst (λ (ls : List (Vec ℕ)). IsFollow (length c.args.graph.now.manifest.builds + length c.args.paths.now) ls) (sym c.deref.ensures.value) (follow-is c.args.graph.now.manifest.builds (names_of c.args.lists.now) c.args.paths.now c.args.sure c.in_ok-steps.steps.items c.in_ok-steps.ensures) in
    follow-within (length c.args.graph.now.manifest.builds + length c.args.paths.now) c.deref.result.now is

pub returns-clause-nodes : goal.returns-clause-nodes
returns-clause-nodes c = follow-is c.args.graph.now.manifest.builds (names_of c.args.lists.now) c.args.paths.now c.args.sure c.in_ok-steps.steps.items c.in_ok-steps.ensures

pub returns-clause-led : goal.returns-clause-led
returns-clause-led c =
    led-is c.deref.result.now c.in_ok-steps.steps.items c.edges.result (length c.args.graph.now.manifest.builds) c.in_ok-led.led.items c.in_ok-led.led.items c.deref.ensures.value c.edges.ensures.edges (λ i. c.in_ok-led.led.items) c.in_ok-led.ensures
