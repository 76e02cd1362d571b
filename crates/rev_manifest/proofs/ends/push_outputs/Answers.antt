use Rattle.std.proofs.Common.{ℕ, ◌++◌, List, Bool, not, filter, sym, ap, ◌∙◌, append_assoc}
use Rattle.std.proofs.lemmas.List.Elements.{filter-append}
use Rattle.rev_manifest.specs.Builds.{BuildValue, outputs_of}
use Rattle.rev_manifest.specs.Names.{has_path}
use Rattle.rev_manifest.proofs.ends.push_outputs.Goals as goal

pub returns : goal.returns
returns c =
    let left = c.args.left.now.items in
    let first = c.deref.result.now in
    let second = c.deref-2.result.now in
    let p : List ℕ → Bool = λ path. not (has_path c.args.set.now.keys path) in
    c.in_ok-push_others-2.ensures ∙ ap (λ names. names ++ filter p second) c.in_ok-push_others.ensures ∙ append_assoc left (filter p first) (filter p second)
    ∙ ap (λ names. left ++ names) (sym (filter-append p first second)) ∙ (λ i. left ++ filter p (c.deref.ensures.value i ++ c.deref-2.ensures.value i))
    ∙ ap (λ (b : BuildValue). left ++ filter p (outputs_of b)) c.build.view_is
