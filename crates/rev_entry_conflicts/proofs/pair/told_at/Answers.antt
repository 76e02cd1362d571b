use Rattle.std.proofs.Common.{◌≡◌, ℕ, sym, ap, ◌∙◌, arith, get_or, take, length}
use Rattle.std.specs.List.{filter}
use Rattle.std.proofs.Math.Seq.{take-length}
use Rattle.std.proofs.lemmas.List.{get_or_default}
use Rattle.rev_entry_conflicts.specs.Conflicts.{is_kind, kind_at, told}
use Rattle.rev_entry_conflicts.specs.Deeds.{Scene}
use Rattle.rev_entry_conflicts.specs.Orders.{scene}
use Rattle.rev_entry_conflicts.proofs.PairLemmas.{filter-passes, filter-skips}
use Rattle.rev_entry_conflicts.proofs.pair.told_at.Goals.{then-here, else-here}
use Rattle.rev_entry_conflicts.proofs.pair.told_at.Goals as goal

pub loop-entry-preserved : goal.loop-entry-preserved
loop-entry-preserved c =
    let s : Scene = scene c.args.steps.now c.args.entries.now c.args.commands.now in
    let kind = c.args.kind in
    let i = c.loop-entry.entry-index in
    let ns = c.args.numbers.now in
    let x : ℕ = get_or ns i 0 in
    let is : x ≡ get_or ns i x = get_or_default ns i 0 x c.loop-entry-test.true in
    let here : c.is_kind-here.result ≡ is_kind kind (kind_at s c.args.made.now c.args.used.now x) = c.is_kind-here.ensures ∙ ap (is_kind kind) c.kind_at-found.ensures in
    record {
      told = elim c.if-here.branch [
        | then-here w ↦
            w.answer-is ∙ w.with_place-answer.ensures.told (filter (λ n. is_kind kind (kind_at s c.args.made.now c.args.used.now n)) (take i ns)) c.loop-entry.invariant.told
            ∙ ap (told c.args.made_by c.args.used_by kind) (filter-passes (λ n. is_kind kind (kind_at s c.args.made.now c.args.used.now n)) ns i x c.loop-entry-test.true is (sym here ∙ w.if-here.true))
        | else-here w ↦
            w.answer-is ∙ c.loop-entry.invariant.told
            ∙ ap (told c.args.made_by c.args.used_by kind) (filter-skips (λ n. is_kind kind (kind_at s c.args.made.now c.args.used.now n)) ns i x c.loop-entry-test.true is (sym here ∙ w.if-here.false))
      ];
      bound = elim c.if-here.branch [
        | then-here w ↦ λ found e. w.with_place-answer.ensures.bound i c.loop-entry.invariant.bound found (sym w.answer-is ∙ e)
        | else-here w ↦ λ found e. let b = c.loop-entry.invariant.bound found (sym w.answer-is ∙ e) in omega (arith, b)
      ];
    }

pub returns : goal.returns
returns c =
    let s : Scene = scene c.args.steps.now c.args.entries.now c.args.commands.now in
    let all : c.loop-entry.entry-index ≡ length c.args.numbers.now = omega (arith, c.loop-entry-test.false, c.loop-entry.auto.entry-index-end) in
    c.loop-entry.invariant.told
    ∙ ap (λ ns. told c.args.made_by c.args.used_by c.args.kind (filter (λ n. is_kind c.args.kind (kind_at s c.args.made.now c.args.used.now n)) ns)) (ap (λ n. take n c.args.numbers.now) all ∙ take-length c.args.numbers.now)
