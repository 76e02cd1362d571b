use Rattle.std.proofs.Common.{◌≡◌, ◌+◌, suc, drop, map, ap, sym, ◌∙◌, arith}
use Rattle.std.proofs.lemmas.Bool.{not-true, not-false}
use Rattle.std.proofs.lemmas.List.{drop_all}
use Rattle.rev_patch.specs.Lines.{line_of}
use Rattle.rev_patch.specs.Additions.{texts_of}
use Rattle.rev_patch.specs.Statement.{place_in, statement}
use Rattle.rev_patch.specs.Read.{seen_after}
use Rattle.rev_patch.proofs.ReadLemmas.{place-last, place-more, place-read, texts-drop}
use Rattle.rev_patch.proofs.statement.place_of.Goals as goal

pub returns-then-not-seen : goal.returns-then-not-seen
returns-then-not-seen c =
    let l = c.loop-number in
    let first = c.args.first in
    let rest = c.split_at.result.1.now in
    let seen = c.seen_with-seen.result in
    let last = place-last l.seen (first + l.number) rest l.number _ seen c.loop-number-test.true c.seen_with-seen.ensures (not-true seen.goes_on c.if-not-seen.true) in
    let texts : texts_of (map line_of rest) ≡ drop first (texts_of (map line_of c.args.rows.now)) =
    ap (λ rs. texts_of (map line_of rs)) c.split_at.ensures.back ∙ texts-drop first c.args.rows.now in
    c.put_at.ensures ∙ place-read first (statement (texts_of (map line_of rest))) seen (sym last ∙ l.invariant)
    ∙ ap (λ ts. place_in first (statement ts)) texts

pub loop-number-preserved : goal.loop-number-preserved
loop-number-preserved c =
    let l = c.loop-number in
    let first = c.args.first in
    let rest = c.split_at.result.1.now in
    let seen = c.seen_with-seen.result in
    let more = place-more l.seen (first + l.number) rest l.number _ seen c.loop-number-test.true c.seen_with-seen.ensures (not-false seen.goes_on c.if-not-seen.false) in
    let next : first + (l.number + 1) ≡ suc (first + l.number) = omega arith in
    ap (λ k. seen_after seen k (statement (texts_of (map line_of (drop (l.number + 1) rest))))) next ∙ sym more ∙ l.invariant

pub returns : goal.returns
returns c =
    let l = c.loop-number in
    let first = c.args.first in
    let rest = c.split_at.result.1.now in
    let none = drop_all l.number rest c.loop-number-test.false in
    let texts : texts_of (map line_of rest) ≡ drop first (texts_of (map line_of c.args.rows.now)) =
    ap (λ rs. texts_of (map line_of rs)) c.split_at.ensures.back ∙ texts-drop first c.args.rows.now in
    c.put_at-2.ensures
    ∙ place-read first (statement (texts_of (map line_of rest))) l.seen
    (sym (ap (λ rs. seen_after l.seen (first + l.number) (statement (texts_of (map line_of rs)))) none) ∙ l.invariant)
    ∙ ap (λ ts. place_in first (statement ts)) texts
