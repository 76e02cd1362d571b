use Rattle.std.proofs.Common.{ℕ, List, bytes_eq, ap, ◌∙◌, arith}
use Rattle.std.specs.List.{filter_map, list_any}
use Rattle.rev_paths.specs.Kept.{texts}
use Rattle.rev_named.specs.Words.{word_in}
use Rattle.rev_named.proofs.WordLemmas.{all-taken, more-at}
use Rattle.rev_named.proofs.words.words.Goals as goal

pub loop-piece-preserved : goal.loop-piece-preserved
loop-piece-preserved c = λ word.
    more-at c.deref-piece-items.result.now c.loop-piece.piece-index _ word _ _ _ c.loop-piece-test.true (c.in_ok-add_piece.ensures word) (c.loop-piece.invariant word)

pub returns : goal.returns
returns c = λ word.
    all-taken c.deref-piece-items.result.now c.loop-piece.piece-index word _ _ (omega (arith, c.loop-piece-test.false)) (c.loop-piece.invariant word)
    ∙ ap (λ (ps : List (List ℕ)). list_any (bytes_eq word) (filter_map word_in ps)) (ap texts c.deref-piece-items.ensures.value ∙ c.in_ok-pieces.ensures)
