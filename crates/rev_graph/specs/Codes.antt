-- Edges, manifests and graphs as data.
use Rattle.std.specs.Prelude.{ℕ, Bool, List, Option, refl}
use Rattle.std.specs.Coded.{Coded, code_by, coded×, coded_list, coded_option, coded_bool, coded_ℕ}
use Rattle.rev_manifest.specs.Manifest.{BuildValue, ManifestValue}
use Rattle.rev_graph.specs.Graph.{GraphValue}

abbrev pub coded_paths : Coded (List (List ℕ))
coded_paths = coded_list (coded_list coded_ℕ)

-- the paths of a depfile and a response file
abbrev pub coded_files : Coded (List ℕ × List ℕ)
coded_files = coded× (coded_list coded_ℕ) (coded_list coded_ℕ)

abbrev pub files_of : BuildValue → List ℕ × List ℕ
files_of build = (build.depfile, build.rspfile)

-- the paths on a build line
abbrev pub Lines : Type 0
Lines = List (List ℕ) × (List (List ℕ) × (List (List ℕ) × (List (List ℕ) × (List (List ℕ) × List (List ℕ)))))

-- what else is said of an edge
abbrev pub Rest : Type 0
Rest = Bool × (List ℕ × ((List ℕ × List ℕ) × (Bool × (Bool × (Bool × (Option ℕ × (ℕ × ℕ)))))))

abbrev pub coded_build : Coded BuildValue
coded_build =
    code_by (Lines × Rest)
    (coded× (coded× coded_paths
    (coded× coded_paths (coded× coded_paths (coded× coded_paths (coded× coded_paths coded_paths)))))
    (coded× coded_bool (coded× (coded_list coded_ℕ) (coded× coded_files
    (coded× coded_bool (coded× coded_bool
    (coded× coded_bool (coded× (coded_option coded_ℕ) (coded× coded_ℕ coded_ℕ)))))))))
    (λ b. (
      (b.explicit_outs, (b.implicit_outs, (b.explicit, (b.implicit, (b.order_only, b.validations))))),
      (b.phony, (b.command, (files_of b, (b.keeps_deps, (b.restat, (b.generator, (b.pool, (b.file, b.line)))))))),
    ))
    (λ p. record {
      phony = p.1.0;
      explicit_outs = p.0.0;
      implicit_outs = p.0.1.0;
      explicit = p.0.1.1.0;
      implicit = p.0.1.1.1.0;
      order_only = p.0.1.1.1.1.0;
      validations = p.0.1.1.1.1.1;
      command = p.1.1.0;
      depfile = p.1.1.1.0.0;
      rspfile = p.1.1.1.0.1;
      keeps_deps = p.1.1.1.1.0;
      restat = p.1.1.1.1.1.0;
      generator = p.1.1.1.1.1.1.0;
      pool = p.1.1.1.1.1.1.1.0;
      file = p.1.1.1.1.1.1.1.1.0;
      line = p.1.1.1.1.1.1.1.1.1;
    })
    (λ _. refl)

abbrev pub coded_manifest : Coded ManifestValue
coded_manifest =
    code_by (List BuildValue × (List (List ℕ × ℕ) × List (List ℕ)))
    (coded× (coded_list coded_build) (coded× (coded_list (coded× (coded_list coded_ℕ) coded_ℕ)) coded_paths))
    (λ m. (m.builds, (m.pools, m.defaults))) (λ p. record { builds = p.0; pools = p.1.0; defaults = p.1.1 }) (λ _. refl)

abbrev pub coded_graph : Coded GraphValue
coded_graph =
    code_by (ManifestValue × List ℕ) (coded× coded_manifest (coded_list coded_ℕ)) (λ g. (g.manifest, g.ranks))
    (λ p. record { manifest = p.0; ranks = p.1 }) (λ _. refl)
