use Rattle.std.proofs.Common.{List, ℕ, Bool, length, Contains, ◌⊎◌, sym, subst}
use Rattle.std.specs.Prelude.{◌↔◌}
use Rattle.rev_ranks.specs.Graph.{graph_of}
use Rattle.rev_conflicts.proofs.Some.{either-more, ok-then}
use Rattle.rev_unlisted.specs.Found.{AreNeither, AreReached, IsKeyAmong, IsKeyIn}
use Rattle.rev_unlisted.proofs.AnswerLemmas.{keys-in, led-keys}
use Rattle.rev_unlisted.proofs.answer.add_of.Goals as goal

pub returns-then-are_neither : goal.returns-then-are_neither
returns-then-are_neither c =
    let all : AreNeither (length c.args.graph.now.manifest.builds) (graph_of c.args.makers.now) c.args.sure_led.now c.args.met_led.now c.args.files.now =
    subst (λ n. AreNeither n (graph_of c.args.makers.now) c.args.sure_led.now c.args.met_led.now c.args.files.now) c.edges.ensures.edges (c.are_neither.ensures c.if-are_neither.true) in
    ok-then ((k : List ℕ) → Contains c.add_each.new.found k ↔ (Contains c.args.found.now k
    ⊎ IsKeyAmong (length c.args.graph.now.manifest.builds) (graph_of c.args.makers.now) c.args.sure_led.now c.args.met_led.now c.args.user c.args.used_by c.args.files.now k))
    ((k : List ℕ) → Contains c.add_each.new.found k ↔ (Contains c.args.found.now k
    ⊎ IsKeyIn (length c.args.graph.now.manifest.builds) (graph_of c.args.steps.now) (graph_of c.args.sure_steps.now) (graph_of c.args.makers.now) c.args.user c.args.used_by c.args.files.now k))
    (λ h k. either-more (h k)
    (led-keys (length c.args.graph.now.manifest.builds) (graph_of c.args.steps.now) (graph_of c.args.sure_steps.now) (graph_of c.args.makers.now) c.args.user c.args.used_by c.args.files.now k c.args.met_led.now c.args.sure_led.now c.requires.met_led c.requires.sure_led
    c.requires.user all))
    c.add_each.result c.add_each.ensures

pub returns : goal.returns
returns c =
    let met : AreReached (graph_of c.args.steps.now) c.args.user c.deref-2.result.now = subst (λ (l : List Bool). AreReached (graph_of c.args.steps.now) c.args.user l) (sym c.deref-2.ensures.value) c.in_ok-met.ensures in
    let sure : AreReached (graph_of c.args.sure_steps.now) c.args.user c.deref.result.now = subst (λ (l : List Bool). AreReached (graph_of c.args.sure_steps.now) c.args.user l) (sym c.deref.ensures.value) c.in_ok-sure.ensures in
    ok-then ((k : List ℕ) → Contains c.add_each-2.new.found k ↔ (Contains c.args.found.now k
    ⊎ IsKeyAmong (length c.args.graph.now.manifest.builds) (graph_of c.args.makers.now) c.deref.result.now c.deref-2.result.now c.args.user c.args.used_by c.args.files.now k))
    ((k : List ℕ) → Contains c.add_each-2.new.found k ↔ (Contains c.args.found.now k
    ⊎ IsKeyIn (length c.args.graph.now.manifest.builds) (graph_of c.args.steps.now) (graph_of c.args.sure_steps.now) (graph_of c.args.makers.now) c.args.user c.args.used_by c.args.files.now k))
    (λ h k. either-more (h k)
    (keys-in (length c.args.graph.now.manifest.builds) (graph_of c.args.steps.now) (graph_of c.args.sure_steps.now) (graph_of c.args.makers.now) c.args.user c.args.used_by c.args.files.now k c.deref-2.result.now c.deref.result.now met sure))
    c.add_each-2.result c.add_each-2.ensures
