use Rattle.std.proofs.Common.{List, Result, Ok, map, option_map, sym, ap, ◌∙◌}
use Rattle.rev_manifest.specs.declared.fault.ManifestFault.{ManifestFault}
use Rattle.rev_manifest.specs.Answers.{and_then}
use Rattle.rev_manifest.specs.Manifest.{BuildValue, ManifestValue, defaults_of}
use Rattle.rev_manifest.specs.Held.{seen_edge}
use Rattle.rev_manifest.proofs.KeptLemmas.{builds-kept}
use Rattle.rev_manifest.proofs.ParallelLemmas.{all-ended}
use Rattle.rev_manifest.proofs.ends.ended_by_threads.Goals as goal

pub manifest_of_builds-requires : goal.manifest_of_builds-requires
manifest_of_builds-requires g c =
    let above = c.args.above in
    let ended = c.in-Some.ended in
    builds-kept above.scopes above.pools above.value_room above.edges.items ended.builds.items
    (all-ended above.scopes above.pools above.value_room ended.left (map seen_edge above.edges.items) ended.builds.items (rw c.in-Some.is at c.in_ok-builds_by_threads.ensures))

pub returns-clause-meant : goal.returns-clause-meant
returns-clause-meant g c =
    let above = c.args.above in
    let ended = c.in-Some.ended in
    let whole : List BuildValue → Result ManifestValue ManifestFault =
    λ builds. Ok (record { builds = builds; pools = above.pools; defaults = defaults_of (option_map (λ names. names.items) above.defaults) builds }) in
    ap (λ (r : Result (List BuildValue) ManifestFault). and_then r whole)
    (all-ended above.scopes above.pools above.value_room ended.left (map seen_edge above.edges.items) ended.builds.items (rw c.in-Some.is at c.in_ok-builds_by_threads.ensures))
    ∙ ap Ok (sym c.in_ok-manifest-in-Some.ensures.value)
