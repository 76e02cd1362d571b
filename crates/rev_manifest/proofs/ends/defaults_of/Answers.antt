use Rattle.std.proofs.Common.{not, option_map, ap, sym, ◌∙◌}
use Rattle.std.specs.List.{flat_map}
use Rattle.rev_manifest.specs.Manifest.{defaults_of, inputs_of, outputs_of}
use Rattle.rev_manifest.specs.Names.{has_path}
use Rattle.rev_manifest.proofs.NameLemmas.{filter-agreed}
use Rattle.rev_manifest.proofs.ends.defaults_of.Goals as goal

pub returns : goal.returns
returns c =
    let builds = c.args.builds.now in
    let used = c.in_ok-used.used.keys in
    c.in_ok-left.ensures
    ∙ filter-agreed (λ path. not (has_path used path)) (λ path. not (has_path (flat_map inputs_of builds) path)) (flat_map outputs_of builds)
    (λ path there. ap not (c.in_ok-used.ensures path (c.in_ok-outputs.ensures path ∙ there)))
    ∙ ap (λ names. defaults_of (option_map (λ ns. ns.items) names) builds) (sym c.in_default.is)
