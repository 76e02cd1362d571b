-- Outputs, inputs and order-only inputs that are added to the edges of a manifest, and nothing else.
use Rattle.std.specs.Prelude.{◌≡◌, ◌⊎◌, ℕ, suc, Bool, true, false, ◌&&◌, ◌||◌, List, [], ◌∷◌, ◌++◌, Ok}
use Rattle.rev_manifest.specs.Manifest.{BuildValue, ManifestValue, manifest_of}
use Rattle.rev_manifest.specs.Names.{without}
use Rattle.rev_graph.specs.Alike.{same_paths, same_rule}
use Rattle.rev_graph.specs.Fault.{IsFaultless}
use Rattle.rev_patched.specs.declared.orders.Order.{Order}
use Rattle.rev_patched.specs.Orders.{ordered_paths, paths_for}
use Rattle.rev_patched.specs.Same.{same_place, same_pools}

-- an edge with these implicit outputs, implicit inputs and order-only inputs behind its own
abbrev pub with_paths : BuildValue → List (List ℕ) → List (List ℕ) → List (List ℕ) → BuildValue
with_paths build outputs inputs orders =
    record build {
      implicit_outs = build.implicit_outs ++ outputs;
      implicit = build.implicit ++ inputs;
      order_only = build.order_only ++ orders;
    }

-- edges that are numbered from some number on, each with what is added to it
abbrev pub amended_from : ℕ → List Order → List Order → List Order → List BuildValue → List BuildValue
amended_from n outs ins ords [] = []
amended_from n outs ins ords (b ∷ bs) =
    with_paths b (paths_for outs n) (paths_for ins n) (paths_for ords n) ∷ amended_from (suc n) outs ins ords bs

-- What is built where nothing is named: the same, or, where no `default` statement says it, the same but for what is
-- added as an input or as an output.
abbrev pub Stay : List (List ℕ) → List (List ℕ) → List (List ℕ) → List (List ℕ) → List (List ℕ) → Type 0
Stay outs ins ords old new = (new ≡ old) ⊎ (without outs new ≡ without ords (without ins old))

-- A manifest is another one with these paths as implicit outputs, implicit inputs and order-only inputs, and nothing
-- else: its edges with these paths, its pools, and its defaults.
pub record IsAmended (old new : ManifestValue) (outs ins ords : List Order) : Type 0 where
  pub builds : new.builds ≡ amended_from 0 outs ins ords old.builds
  pub pools : new.pools ≡ old.pools
  pub defaults : Stay (ordered_paths outs) (ordered_paths ins) (ordered_paths ords) old.defaults new.defaults

-- Files say a manifest with these additions and nothing else, each output has one producer, and no edge of it waits for
-- itself.
pub record IsAmendedBy (old : ManifestValue) (outs ins ords : List Order) (files : List (List ℕ × List ℕ)) : Type 0 where
  pub new : ManifestValue
  pub read : manifest_of files ≡ Ok new
  pub amended : IsAmended old new outs ins ords
  pub faultless : IsFaultless new.builds

-- AS THEY ARE COMPARED
abbrev pub amends_outputs : BuildValue → List (List ℕ) → BuildValue → Bool
amends_outputs a outputs b = same_paths a.explicit_outs b.explicit_outs && same_paths (a.implicit_outs ++ outputs) b.implicit_outs

abbrev pub amends_inputs : BuildValue → List (List ℕ) → List (List ℕ) → BuildValue → Bool
amends_inputs a inputs orders b =
    same_paths a.explicit b.explicit && same_paths (a.implicit ++ inputs) b.implicit
    && same_paths (a.order_only ++ orders) b.order_only && same_paths a.validations b.validations

abbrev pub amends_edge : BuildValue → List (List ℕ) → List (List ℕ) → List (List ℕ) → BuildValue → Bool
amends_edge a outputs inputs orders b =
    amends_outputs a outputs b && amends_inputs a inputs orders b && same_rule a b && same_place a b

-- edges that are numbered from some number on are others with what is added to them
abbrev pub amends_from : ℕ → List Order → List Order → List Order → List BuildValue → List BuildValue → Bool
amends_from n outs ins ords [] [] = true
amends_from n outs ins ords [] (b ∷ bs) = false
amends_from n outs ins ords (a ∷ rest) [] = false
amends_from n outs ins ords (a ∷ rest) (b ∷ bs) =
    amends_edge a (paths_for outs n) (paths_for ins n) (paths_for ords n) b && amends_from (suc n) outs ins ords rest bs

abbrev pub stays : List (List ℕ) → List (List ℕ) → List (List ℕ) → List (List ℕ) → List (List ℕ) → Bool
stays outs ins ords old new = same_paths new old || same_paths (without outs new) (without ords (without ins old))

abbrev pub amends_manifest : List Order → List Order → List Order → ManifestValue → ManifestValue → Bool
amends_manifest outs ins ords old new =
    same_pools old.pools new.pools && amends_from 0 outs ins ords old.builds new.builds
    && stays (ordered_paths outs) (ordered_paths ins) (ordered_paths ords) old.defaults new.defaults
