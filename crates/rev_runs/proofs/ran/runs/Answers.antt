use Rattle.std.proofs.Common.{◌≡◌, ◌+◌, ℕ, None, length, replicate, rules, sym, ap, subst, ◌∙◌, arith}
use Rattle.rev_manifest.specs.Manifest.{ManifestValue}
use Rattle.rev_history.specs.Timeline.{last_of}
use Rattle.rev_runs.specs.Runs.{IsPartial}
use Rattle.rev_runs.proofs.RunLemmas.{all-found, first-partial, next-partial}
use Rattle.rev_runs.proofs.ran.runs.Goals as goal

pub loop-passed-init : goal.loop-passed-init
loop-passed-init c =
    let kept : c.in_ok-vec.field-0.items ≡ replicate c.edges-edges.result None = search rules in
    let undone : c.in_ok-vec-2.field-0.items ≡ replicate c.edges-edges.result None = search rules in
    first-partial c.args.history.now.timeline (last_of c.args.history.now.timeline.accepted) c.edges-edges.result (record { kept = c.in_ok-vec.field-0; undone = c.in_ok-vec-2.field-0 }) c.new-runs.result.items kept undone
    (c.edges-edges.ensures.edges ∙ ap (λ (m : ManifestValue). length m.builds) c.graph.ensures) c.new-runs.ensures.items

pub add_number-requires : goal.add_number-requires
add_number-requires c = record { sized = c.loop-passed.invariant.sized }

pub loop-passed-preserved : goal.loop-passed-preserved
loop-passed-preserved c =
    let t = c.args.history.now.timeline in
    let before = subst (λ (k : ℕ). IsPartial t k c.loop-passed.passed c.loop-passed.ends c.loop-passed.runs.items) (sym c.last-last.ensures) c.loop-passed.invariant in
    subst (λ (k : ℕ). IsPartial t k (c.loop-passed.passed + 1) c.add_number.new.ends c.add_number.new.runs.items) c.last-last.ensures
    (next-partial t c.last-last.result c.loop-passed.passed c.loop-passed.ends c.add_number.new.ends c.loop-passed.runs.items c.add_number.new.runs.items
    c.loop-passed-test.true c.in_ok-add_number.ensures.sized c.in_ok-add_number.ensures.found before)

pub returns : goal.returns
returns c =
    let all : c.loop-passed.passed ≡ last_of c.args.history.now.timeline.accepted = omega (arith, c.loop-passed-test.false, c.loop-passed.auto.passed-end, c.last-last.ensures) in
    all-found c.args.history.now.timeline c.loop-passed.passed c.loop-passed.ends c.loop-passed.runs.items c.reverse.new.self.items all c.reverse.ensures.items c.loop-passed.invariant
