use Rattle.std.proofs.Common.{◌≡◌, get_or, ap, ◌∙◌}
use Rattle.std.specs.Option.{option_copied}
use Rattle.std.proofs.lemmas.List.{get_or_default}
use Rattle.rev_graph.specs.Graph.{build_at, no_build}
use Rattle.rev_patch.specs.Additions.{is_written}
use Rattle.rev_patched.proofs.PatchedLemmas.{output-of}
use Rattle.rev_patched.proofs.provoking.output_of.Goals as goal

pub returns : goal.returns
returns c =
    let builds = c.args.manifest.now.builds in
    let edge = c.args.edge in
    let b = c.index-builds-edge.result in
    let is : b ≡ build_at builds edge =
    c.index-builds-edge.is ∙ ap (λ bs. get_or bs edge b) c.builds.ensures.builds ∙ get_or_default builds edge b no_build c.requires in
    output-of is_written (option_copied c.writable_output.result) b (build_at builds edge) c.writable_output.ensures is
