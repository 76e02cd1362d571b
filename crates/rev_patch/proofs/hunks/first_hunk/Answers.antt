use Rattle.std.proofs.Common.{◌≡◌, ℕ, ◌+◌, suc, if◌then◌else◌, true, false, drop, length, zero-add, ap, sym, ◌∙◌, arith}
use Rattle.std.proofs.lemmas.List.{drop_all}
use Rattle.rev_patch.specs.Lines.{edits, edit_of}
use Rattle.rev_patch.specs.Patch.{are_near}
use Rattle.rev_patch.specs.Runs.{run_behind, first_run}
use Rattle.rev_patch.proofs.RunLemmas.{run-step}
use Rattle.rev_patch.proofs.hunks.first_hunk.Goals as goal

pub loop-number-init : goal.loop-number-init
loop-number-init c =
    let whole = c.in-Some.ensures.cases.0 in
    let behind = run_behind are_near (edit_of c.in-Some.first.now) (edits c.in-Some.rest.now) in
    (ap (λ cs. first_run are_near (edits cs)) whole ∙ ap (λ (n : ℕ). suc n) (sym (zero-add behind)), ap length whole)

pub returns-then-not-are_near-clause-run : goal.returns-then-not-are_near-clause-run
returns-then-not-are_near-clause-run c =
    let l = c.loop-number in
    let rest = c.in-Some.rest.now in
    let next = c.index-rest-number.result in
    let far : are_near (edit_of l.last.now) (edit_of next) ≡ false = sym c.are_near.ensures ∙ c.if-not-are_near.true in
    let none : run_behind are_near (edit_of l.last.now) (edits (drop l.number rest)) ≡ 0 =
    run-step edit_of are_near (edit_of l.last.now) rest l.number next c.loop-number-test.true c.index-rest-number.is
    ∙ ap (λ b. if b then suc (run_behind are_near (edit_of next) (edits (drop (l.number + 1) rest))) else 0) far in
    let count : suc (l.number + 0) ≡ l.number + 1 = omega arith in
    sym (l.invariant.0 ∙ ap (λ n. suc (l.number + n)) none ∙ count)

pub loop-number-preserved : goal.loop-number-preserved
loop-number-preserved c =
    let l = c.loop-number in
    let rest = c.in-Some.rest.now in
    let next = c.index-rest-number.result in
    let left = run_behind are_near (edit_of next) (edits (drop (l.number + 1) rest)) in
    let near : are_near (edit_of l.last.now) (edit_of next) ≡ true = sym c.are_near.ensures ∙ c.if-not-are_near.false in
    let some : run_behind are_near (edit_of l.last.now) (edits (drop l.number rest)) ≡ suc left =
    run-step edit_of are_near (edit_of l.last.now) rest l.number next c.loop-number-test.true c.index-rest-number.is
    ∙ ap (λ b. if b then suc left else 0) near in
    let count : suc (l.number + suc left) ≡ suc (l.number + 1 + left) = omega arith in
    (l.invariant.0 ∙ ap (λ n. suc (l.number + n)) some ∙ count, l.invariant.1)

pub returns-clause-run : goal.returns-clause-run
returns-clause-run c =
    let l = c.loop-number in
    let rest = c.in-Some.rest.now in
    let none = drop_all l.number rest c.loop-number-test.false in
    let count : suc (l.number + 0) ≡ suc (length rest) = omega arith in
    l.invariant.1
    ∙ sym (l.invariant.0 ∙ ap (λ cs. suc (l.number + run_behind are_near (edit_of l.last.now) (edits cs))) none ∙ count)
