use Rattle.std.proofs.Common.{◌≡◌, ◌-◌, List, ℕ, drop, length, sym, ap, ◌∙◌, true≢false}
use Rattle.rev_paths.proofs.BytesLemmas.{agree, differ, same-ends}
use Rattle.rev_paths.proofs.bytes.same_bytes.Goals as goal

pub returns-then-a-b : goal.returns-then-a-b
returns-then-a-b c = sym (differ c.args.a.now c.args.b.now (λ e. c.if-a-b.true (ap length e)))

pub returns-then-not-same_word : goal.returns-then-not-same_word
returns-then-not-same_word c = sym (differ c.args.a.now c.args.b.now (λ e.
    let ends : c.in-Some.end.now ≡ c.in-Some-last_chunk.other_end.now =
    c.in-Some.ensures.cases.1.same ∙ ap (λ (t : List ℕ). drop (length t - 8) t) e ∙ sym c.in-Some-last_chunk.ensures.cases.1.same in
    true≢false (sym (agree c.in-Some.end.now c.in-Some-last_chunk.other_end.now ends) ∙ sym c.same_word.ensures ∙ c.if-not-same_word.true)))

pub same_before_end-requires-clause-ends : goal.same_before_end-requires-clause-ends
same_before_end-requires-clause-ends c = same-ends c.args.a.now c.args.b.now c.in-Some.end.now c.in-Some-last_chunk.other_end.now c.same_word.result c.if-a-b.false c.in-Some.ensures.cases.1.same
    c.in-Some-last_chunk.ensures.cases.1.same c.same_word.ensures c.if-not-same_word.false
