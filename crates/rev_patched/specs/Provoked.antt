-- A manifest in which the maker of a path comes behind its user.
use Rattle.std.specs.Prelude.{◌≡◌, ◌⊎◌, ℕ, List, [], ◌∷◌, Ok}
use Rattle.std.specs.Global.{Vec}
use Rattle.std.specs.List.{Contains}
use Rattle.rev_manifest.specs.Manifest.{ManifestValue, manifest_of}
use Rattle.rev_graph.specs.Fault.{IsFaultless}
use Rattle.rev_graph.specs.Graph.{build_at, outputs_of}
use Rattle.rev_waits.specs.Mending.{with_order}
use Rattle.rev_waits.specs.Waits.{Waits}
use Rattle.rev_manifest.specs.Names.{without}
use Rattle.rev_patch.specs.declared.changes.Change.{Change}
use Rattle.rev_patched.specs.declared.provoking.Provoked.{Provoked}
use Rattle.rev_patched.specs.declared.provoking.Provoked.TheVariants.{Patch, Ordered, Unwritable, Unsound}

-- One manifest is another with one order-only input more, an output of the user on the maker's line: there the maker
-- waits for the user, and no edge waits for itself.
pub record IsProvoked (old new : ManifestValue) (user maker : ℕ) : Type 0 where
  pub path : List ℕ
  pub is_output : Contains (outputs_of (build_at old.builds user)) path
  pub builds : new.builds ≡ with_order old.builds maker path
  pub pools : new.pools ≡ old.pools
  pub defaults : (new.defaults ≡ old.defaults) ⊎ (new.defaults ≡ without (path ∷ []) old.defaults)
  pub waits : Waits new.builds maker user
  pub faultless : IsFaultless new.builds

-- files say such a manifest
pub record SayProvoked (old : ManifestValue) (user maker : ℕ) (files : List (List ℕ × List ℕ)) : Type 0 where
  pub new : ManifestValue
  pub read : manifest_of files ≡ Ok new
  pub provoked : IsProvoked old new user maker

-- of the changed lines, where there are some
abbrev pub OfPatch : (List (Vec Change) → Type 0) → Provoked → Type 0
OfPatch P (Patch changes) = P changes.items
OfPatch P Ordered = Unit {0}
OfPatch P Unwritable = Unit {0}
OfPatch P Unsound = Unit {0}

abbrev pub IsRefusedAsOrdered : Provoked → Type 0
IsRefusedAsOrdered Ordered = Unit {0}
IsRefusedAsOrdered (Patch changes) = ⊥
IsRefusedAsOrdered Unwritable = ⊥
IsRefusedAsOrdered Unsound = ⊥
