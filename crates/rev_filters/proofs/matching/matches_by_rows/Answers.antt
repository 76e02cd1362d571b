use Rattle.std.proofs.Common.{◌≡◌, ◌+◌, ◌-◌, ℕ, List, false, drop, get_or, sym, ap, subst, ◌∙◌, arith}
use Rattle.std.proofs.Math.Seq.{drop-length}
use Rattle.std.proofs.lemmas.Bool.{eq-eqb}
use Rattle.std.proofs.lemmas.List.{get_or_default}
use Rattle.rev_fields.specs.Lines.{is_blank}
use Rattle.rev_filters.specs.Patterns.{matches}
use Rattle.rev_filters.specs.Rows.{IsRow}
use Rattle.rev_filters.proofs.RowLemmas.{ne-eqb, row-by, row-byte, row-star}
use Rattle.rev_filters.proofs.matching.matches_by_rows.Goals as goal

pub loop-place-init : goal.loop-place-init
loop-place-init c = record {
  within = omega arith;
  row = row-by is_blank _ c.args.bytes.now c.in_ok-row.row.items (λ x. sym (ap (λ (p : List ℕ). matches p x) (drop-length c.args.part.now))) c.in_ok-row.ensures;
}

pub loop-place-preserved-then-byte-eq42 : goal.loop-place-preserved-then-byte-eq42
loop-place-preserved-then-byte-eq42 c =
    let part = c.args.part.now in
    let bytes = c.args.bytes.now in
    let back : c.loop-place.place ≡ (c.loop-place.place - 1) + 1 = omega (arith, c.loop-place-test.true) in
    let w = c.loop-place.invariant.within in
    let before = subst (λ n. IsRow (matches (drop n c.args.part.now)) c.args.bytes.now c.loop-place.row.items) back c.loop-place.invariant.row in
    record {
      within = omega (arith, w);
      row = row-star part bytes c.spread.new.row.items (c.loop-place.place - 1) (omega (arith, w, c.loop-place-test.true)) (eq-eqb (get_or part (c.loop-place.place - 1) 0) 42 c.if-byte-eq42.true) (c.spread.ensures (matches (drop ((c.loop-place.place - 1) + 1) part)) bytes before);
    }

pub loop-place-preserved : goal.loop-place-preserved
loop-place-preserved c =
    let part = c.args.part.now in
    let bytes = c.args.bytes.now in
    let back : c.loop-place.place ≡ (c.loop-place.place - 1) + 1 = omega (arith, c.loop-place-test.true) in
    let w = c.loop-place.invariant.within in
    let before = subst (λ n. IsRow (matches (drop n c.args.part.now)) c.args.bytes.now c.loop-place.row.items) back c.loop-place.invariant.row in
    record {
      within = omega (arith, w);
      row = row-byte part bytes c.step.new.row.items (c.loop-place.place - 1) (omega (arith, w, c.loop-place-test.true)) (ne-eqb (get_or part (c.loop-place.place - 1) 0) 42 c.if-byte-eq42.false) (c.step.ensures (matches (drop ((c.loop-place.place - 1) + 1) part)) before);
    }

pub returns : goal.returns
returns c =
    let none : c.loop-place.place ≡ 0 = omega (arith, c.loop-place-test.false) in
    let row = subst (λ n. IsRow (matches (drop n c.args.part.now)) c.args.bytes.now c.loop-place.row.items) none c.loop-place.invariant.row in
    let each = row.each in
    c.index.ensures ∙ get_or_default c.loop-place.row.items 0 c.index.result.now false (omega (arith, each)) ∙ row.at 0 (omega arith)
