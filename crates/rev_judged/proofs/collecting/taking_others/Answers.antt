use Rattle.std.proofs.Common.{◌≡◌, ◌∙◌, ◌<◌, List, ℕ, length, ap, subst, sym, arith}
use Rattle.std.specs.Global.{Vec}
use Rattle.std.specs.List.{All}
use Rattle.rev_judged.proofs.MarkLemmas.{steps-length, steps-within}
use Rattle.rev_manifest.specs.Manifest.{ManifestValue}
use Rattle.rev_judged.proofs.collecting.taking_others.Goals as goal

pub leading_to-requires-clause-inside : goal.leading_to-requires-clause-inside
leading_to-requires-clause-inside c =
    subst (λ (vs : List (Vec ℕ)). All (λ (v : Vec ℕ). All (λ s. s < length vs) v.items) vs) (sym c.deref.ensures.value)
    (steps-within c.args.history.now.timeline c.in_ok-steps.steps.items c.in_ok-steps.ensures)

pub leading_to-requires-clause-small : goal.leading_to-requires-clause-small
leading_to-requires-clause-small c =
    let all : c.edges-edges.result ≡ length c.args.history.now.timeline.manifest.builds =
    c.edges-edges.ensures.edges ∙ ap (λ (m : ManifestValue). length m.builds) c.graph.ensures in
    let same : length c.deref.result.now ≡ length c.in_ok-steps.steps.items = ap length c.deref.ensures.value in
    omega (arith, all, same, steps-length c.args.history.now.timeline c.in_ok-steps.steps.items c.in_ok-steps.ensures, c.edges-edges.type_inv)
