-- The values that a caller sees.
use Rattle.std.specs.Prelude.{ℕ, List, map}
use Rattle.std.specs.Global.{Vec}
use Rattle.std.specs.Arc.{arc_value}
use Rattle.rev_manifest.specs.declared.manifest.Parts.{Parts}
use Rattle.rev_manifest.specs.declared.manifest.Manifest.TheInside.{Inside}
use Rattle.rev_manifest.specs.Builds.{ManifestValue, IsManifest}

-- what files hold: the name and the content of each
abbrev pub seen_files : List (Vec ℕ × Vec ℕ) → List (List ℕ × List ℕ)
seen_files files = map (λ file. (file.0.items, file.1.items)) files

-- pools, each with its name and its depth
abbrev pub seen_pools : List (Vec ℕ × ℕ) → List (List ℕ × ℕ)
seen_pools pools = map (λ (pool : Vec ℕ × ℕ). (pool.0.items, pool.1)) pools

-- what the parts of a manifest say
abbrev pub seen_parts : Parts → ManifestValue
seen_parts parts = record { builds = parts.builds.items; pools = seen_pools parts.pools.items; defaults = parts.defaults.items }

-- what a manifest says
abbrev pub value_of : Inside → ManifestValue
value_of a = seen_parts (arc_value a.parts)

abbrev pub KeepsManifest : Inside → Type 0
KeepsManifest a = IsManifest (value_of a)

-- a manifest is seen as what it says
abbrev pub contents : ManifestValue → ManifestValue
contents manifest = manifest
