use Rattle.std.proofs.Common.{◌||◌, ◌++◌, ap, ◌∙◌}
use Rattle.rev_manifest.specs.Builds.{BuildValue, inputs_of}
use Rattle.rev_manifest.specs.Names.{has_path}
use Rattle.rev_manifest.proofs.NameLemmas.{three_more}
use Rattle.rev_manifest.proofs.ends.add_inputs.Goals as goal

pub returns : goal.returns
returns c = λ path there.
    let used = has_path c.args.used.now.keys path in
    let first = c.deref.result.now in
    let second = c.deref-2.result.now in
    let third = c.deref-3.result.now in
    c.in_ok-add_outputs_among-3.ensures path there
    ∙ ap (λ b. b || has_path third path)
    (c.in_ok-add_outputs_among-2.ensures path there ∙ ap (λ b. b || has_path second path) (c.in_ok-add_outputs_among.ensures path there))
    ∙ three_more used first second third path
    ∙ (λ i. used || has_path (c.deref.ensures.value i ++ c.deref-2.ensures.value i ++ c.deref-3.ensures.value i) path)
    ∙ ap (λ (b : BuildValue). used || has_path (inputs_of b) path) c.build.view_is
