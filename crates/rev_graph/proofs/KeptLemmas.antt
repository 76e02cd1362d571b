-- What each edge of a graph keeps, by its manifest. Past the last number there is an edge with nothing on its build line.
use Rattle.std.proofs.Common.{◌≡◌, ℕ, Bool, true, false, [], length, nat_lt, bytes_eq, refl, sym, subst}
use Rattle.std.specs.List.{IsDistinct}
use Rattle.std.proofs.lemmas.Bool.{ltb-true, ltb-false}
use Rattle.std.proofs.lemmas.List.{get_or_past}
use Rattle.rev_manifest.specs.Builds.{BuildValue, ManifestValue, IsBuild, IsManifest}
use Rattle.rev_graph.specs.Graph.{build_at, no_build, outputs_of}

none-once : IsDistinct bytes_eq []
unfolding IsDistinct
none-once = tt

module _ (manifest : ManifestValue) (kept : IsManifest manifest) where
  by-number : (P : BuildValue → Type 0) → ((build : BuildValue) → IsBuild (length manifest.pools) build → P build) → P no_build → (edge : ℕ) → P (build_at manifest.builds edge)
  by-number P inside past edge = by (nat_lt edge (length manifest.builds)) refl
    where
      by : (t : Bool) → nat_lt edge (length manifest.builds) ≡ t → P (build_at manifest.builds edge)
      by true e = inside (build_at manifest.builds edge) (kept.builds edge no_build (ltb-true edge (length manifest.builds) e))
      by false e = subst P (sym (get_or_past manifest.builds edge no_build (ltb-false edge (length manifest.builds) e))) past

  -- no edge has an output twice
  pub outputs-once : (edge : ℕ) → IsDistinct bytes_eq (outputs_of (build_at manifest.builds edge))
  outputs-once edge = by-number (λ build. IsDistinct bytes_eq (outputs_of build)) (λ build is. is.outputs.once) none-once edge

  -- a phony edge keeps no deps
  pub phony-keeps-no-deps : (edge : ℕ) → (build_at manifest.builds edge).phony ≡ true → (build_at manifest.builds edge).keeps_deps ≡ false
  phony-keeps-no-deps edge = by-number (λ build. build.phony ≡ true → build.keeps_deps ≡ false) (λ build is h. (is.phony h).no_deps) (λ h. refl) edge
