use Rattle.std.proofs.Common.{◌≡◌, ◌+◌, ◌-◌, ℕ, Bool, false, List, get_or, take, drop, length, sym, ap, ◌∙◌, arith}
use Rattle.std.proofs.lemmas.Bool.{eq-eqb}
use Rattle.rev_filters.specs.Patterns.{matches}
use Rattle.rev_filters.proofs.RowLemmas.{match-end, match-more, match-other, match-short, ne-eqb, ok-more, tail-is}
use Rattle.rev_filters.proofs.matching.matches.Goals.{then-place-bytes-via-then-place-bytes, then-place-bytes-via-else-place-bytes+then-bytes-place}
use Rattle.rev_filters.proofs.matching.matches.Goals as goal

pub returns-then-byte-eq42 : goal.returns-then-byte-eq42
returns-then-byte-eq42 c =
    let part = c.args.part.now in
    let bytes = c.args.bytes.now in
    let n = c.loop-place.place in
    ok-more (λ (found : Bool). found ≡ matches (take (length part - n) (drop n part)) (take (length bytes - n) (drop n bytes))) (λ (found : Bool). found ≡ matches part bytes)
    (λ found is. is ∙ ap (λ (p : List ℕ). matches p (take (length bytes - n) (drop n bytes))) (tail-is part n) ∙ ap (matches (drop n part)) (tail-is bytes n) ∙ sym c.loop-place.invariant.same)
    c.matches_by_rows.result c.matches_by_rows.ensures

pub loop-place-preserved : goal.loop-place-preserved
loop-place-preserved c =
    let part = c.args.part.now in
    let bytes = c.args.bytes.now in
    let n = c.loop-place.place in
    record {
      inside = omega (arith, c.if-place-bytes.false);
      same = c.loop-place.invariant.same ∙ match-more part bytes n c.loop-place-test.true (ne-eqb (get_or part n 0) 42 c.if-byte-eq42.false) c.if-place-bytes.false (eq-eqb (get_or bytes n 0) (get_or part n 0) c.if-bytes-place.false);
    }

pub returns-then-place-bytes : goal.returns-then-place-bytes
returns-then-place-bytes c =
    let part = c.args.part.now in
    let bytes = c.args.bytes.now in
    let n = c.loop-place.place in
    let byte = ne-eqb (get_or part n 0) 42 c.if-byte-eq42.false in
    let none : matches (drop c.loop-place.place c.args.part.now) (drop c.loop-place.place c.args.bytes.now) ≡ false = elim c.then-place-bytes.branch [
      | then-place-bytes-via-then-place-bytes w ↦ let past = w.if-place-bytes.true in let in_ = c.loop-place.invariant.inside in match-short part bytes n c.loop-place-test.true byte (omega (arith, past, in_))
      | then-place-bytes-via-else-place-bytes+then-bytes-place w ↦ match-other part bytes n c.loop-place-test.true byte w.if-place-bytes.false (ne-eqb (get_or bytes n 0) (get_or part n 0) w.if-bytes-place.true)
    ] in
    sym (c.loop-place.invariant.same ∙ none)

pub returns : goal.returns
returns c = sym (c.loop-place.invariant.same ∙ match-end c.args.part.now c.args.bytes.now c.loop-place.place (omega (arith, c.loop-place-test.false, c.loop-place.auto.place-end)) c.loop-place.invariant.inside)
