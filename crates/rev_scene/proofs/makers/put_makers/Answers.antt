use Rattle.std.proofs.Common.{◌≡◌, ◌<◌, List, length, get_or, slice_get, Some, None, ap, subst, ◌∙◌, arith, ℕ}
use Rattle.rev_scene.proofs.SceneLemmas.{named-more}
use Rattle.rev_scene.proofs.makers.put_makers.Goals as goal

pub loop-number-preserved : goal.loop-number-preserved
loop-number-preserved c = λ n within none.
    let i = c.loop-number.number in
    let o = c.args.observation.now in
    let entries : c.entries-entries.result.now ≡ o.names.entries = c.entries-entries.ensures.same ∙ ap (λ v. v.entries) c.names-2.ensures in
    let names : c.names-names.result.now ≡ o.names.names = c.names-names.ensures.same ∙ ap (λ v. v.names) c.names.ensures in
    let each : length o.names.entries ≡ length o.names.names = subst (λ v. length v.entries ≡ length v.names) c.names-2.ensures c.entries-entries.ensures.each in
    let inside : i < length o.names.names = omega (arith, c.loop-number-test.true, c.loop-number.auto.number-end, ap length entries, each) in
    named-more c.args.graph.now.manifest.builds o i n (get_or c.entries-entries.result.now i 0) c.path.result.now c.producer-maker.result (get_or c.loop-number.makers n None) (get_or c.put_maker.new.makers n None) inside
    (ap (λ es. get_or es i 0) entries) (subst (λ (ns : List (List ℕ)). slice_get ns i ≡ Some c.path.result.now) names c.path.ensures.name) c.producer-maker.ensures.value (c.loop-number.invariant n within none)
    (c.put_maker.ensures n (omega (arith, within, c.loop-number.auto.makers)))
