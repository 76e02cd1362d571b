use Rattle.std.proofs.Common.{[], arith}
use Rattle.std.proofs.lemmas.Option.{get_or_from_slice_get}
use Rattle.rev_paths.specs.Canonical.{IsCanonical}
use Rattle.rev_observed.specs.Texts.{ended, line_text, path_texts}
use Rattle.rev_observed_text.proofs.TextLemmas.{all-known, all-put, each-known, each-more, lines-each}
use Rattle.rev_observed_text.proofs.lines.push_paths.Goals as goal

pub loop-place-preserved : goal.loop-place-preserved
loop-place-preserved c =
    let xs = c.args.paths.now in
    let i = c.loop-place.place in
    let many = c.len-place-end.ensures.len in
    let inside = c.loop-place-test.true in (
      each-more (λ path. ended (line_text (path_texts path))) c.args.text.now.items c.loop-place.text.items c.push_path.new.text.items xs i [] c.path.result.now (omega (arith, many, inside))
          (get_or_from_slice_get xs i c.path.result.now [] c.path.ensures.name) c.loop-place.invariant.0 c.in_ok-push_path.ensures.text,
      each-known IsCanonical xs i c.path.result.now (λ d. get_or_from_slice_get xs i c.path.result.now d c.path.ensures.name) c.in_ok-push_path.ensures.canonical c.loop-place.invariant.1,
    )

pub returns-clause-text : goal.returns-clause-text
returns-clause-text c =
    let many = c.len-place-end.ensures.len in
    let past = c.loop-place-test.false in
    all-put (λ path. ended (line_text (path_texts path))) c.args.text.now.items c.loop-place.text.items _ c.args.paths.now c.loop-place.place (omega (arith, many, past)) (lines-each path_texts c.args.paths.now) c.loop-place.invariant.0

pub returns-clause-canonical : goal.returns-clause-canonical
returns-clause-canonical c =
    let many = c.len-place-end.ensures.len in
    let past = c.loop-place-test.false in
    all-known IsCanonical c.args.paths.now c.loop-place.place (omega (arith, many, past)) c.loop-place.invariant.1
