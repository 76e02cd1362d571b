-- Order-only inputs that are added to the edges of a manifest, and nothing else.
use Rattle.std.specs.Prelude.{◌≡◌, ℕ, suc, ◌==◌, ◌⊎◌, List, [], ◌∷◌, ◌++◌, map, filter, Ok, Option, Some, None}
use Rattle.std.specs.List.{flat_map}
use Rattle.rev_manifest.specs.Manifest.{BuildValue, ManifestValue, manifest_of}
use Rattle.rev_manifest.specs.Names.{without}
use Rattle.rev_graph.specs.Fault.{IsFaultless}
use Rattle.rev_patch.specs.declared.changes.Change.{Change}
use Rattle.rev_patch.specs.Lines.{edited, edits, new_text}
use Rattle.std.specs.Global.{Vec}
use Rattle.rev_patched.specs.declared.orders.Order.{Order}

-- the paths that are ordered before an edge
abbrev pub paths_for : List Order → ℕ → List (List ℕ)
paths_for orders edge = map (λ (o : Order). o.path.now) (filter (λ (o : Order). o.edge == edge) orders)

-- an edge with these order-only inputs behind its own
abbrev pub with_inputs : BuildValue → List (List ℕ) → BuildValue
with_inputs build paths = record build { order_only = build.order_only ++ paths }

-- edges that are numbered from some number on, each with the paths that are ordered before it
abbrev pub ordered_from : ℕ → List Order → List BuildValue → List BuildValue
ordered_from n orders [] = []
ordered_from n orders (b ∷ bs) = with_inputs b (paths_for orders n) ∷ ordered_from (suc n) orders bs

abbrev pub with_orders : List BuildValue → List Order → List BuildValue
with_orders builds orders = ordered_from 0 orders builds

abbrev pub ordered_paths : List Order → List (List ℕ)
ordered_paths orders = map (λ (o : Order). o.path.now) orders

-- What is built where nothing is named: the same, as a `default` statement has it, or, where there is none, the same
-- less what is an input by an order.
abbrev pub DefaultsStay : List Order → List (List ℕ) → List (List ℕ) → Type 0
DefaultsStay orders old new = (new ≡ old) ⊎ (new ≡ without (ordered_paths orders) old)

-- A manifest is another one with the ordered paths as order-only inputs, and nothing else: its edges with these inputs,
-- its pools, and its defaults.
pub record IsOrdered (old new : ManifestValue) (orders : List Order) : Type 0 where
  pub builds : new.builds ≡ with_orders old.builds orders
  pub pools : new.pools ≡ old.pools
  pub defaults : DefaultsStay orders old.defaults new.defaults

-- Files say a manifest with these orders and nothing else, and no edge of it waits for itself.
pub record IsPatched (old : ManifestValue) (orders : List Order) (files : List (List ℕ × List ℕ)) : Type 0 where
  pub new : ManifestValue
  pub read : manifest_of files ≡ Ok new
  pub ordered : IsOrdered old new orders
  pub faultless : IsFaultless new.builds

abbrev pub seen_file : Vec ℕ × Vec ℕ → List ℕ × List ℕ
seen_file file = (file.0.items, file.1.items)

-- a file with its lines changed; where there are no changes of it, as it is
abbrev pub patched_file : List ℕ × List ℕ → Option (Vec Change) → List ℕ × List ℕ
patched_file file None = file
patched_file file (Some changes) = (file.0, flat_map new_text (edited file.1 (edits changes.items)))

-- files, each with its lines changed
abbrev pub patched : List (List ℕ × List ℕ) → List (Vec Change) → List (List ℕ × List ℕ)
patched [] changes = []
patched (f ∷ fs) [] = f ∷ fs
patched (f ∷ fs) (c ∷ cs) = patched_file f (Some c) ∷ patched fs cs
