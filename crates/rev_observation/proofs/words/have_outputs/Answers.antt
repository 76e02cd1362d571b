use Rattle.std.proofs.Common.{◌<◌, length, sym, ◌∙◌, arith}
use Rattle.rev_observed.specs.CommandValues.{CommandValue as WordsValue}
use Rattle.rev_observation.specs.Blocks.{CommandValue}
use Rattle.rev_observation.proofs.WordLemmas.{same_more, same_names}
use Rattle.rev_observation.proofs.words.have_outputs.Goals as goal

pub loop-place-preserved : goal.loop-place-preserved
loop-place-preserved c =
    let word = c.index-words-place.result in
    let command = c.index-commands-place.result in
    let i = c.loop-place.place in
    let within : i < length c.args.words.now = omega (arith, c.loop-place-test.true, c.if-words-commands.false) in
    let same = same_names c.output.result.now c.output-in-loop-place.result.now c.ne.result c.ne.ensures c.if-ne.false in
    same_more (λ (w : WordsValue). w.output) (λ (v : CommandValue). v.output) c.args.words.now c.args.commands.now i word command within c.loop-place-test.true c.index-words-place.is c.index-commands-place.is (sym c.output.ensures ∙ same ∙ c.output-in-loop-place.ensures) c.loop-place.invariant
