-- The file that `include PATH` or `subninja PATH` names.
use Rattle.std.specs.Prelude.{◌≡◌, ℕ, List, None}
use Rattle.rev_paths.specs.Canonical.{canonical}
use Rattle.rev_syntax.specs.Texts.{PieceValue}
use Rattle.rev_scopes.specs.Expansion.{expanded}
use Rattle.rev_manifest.specs.Names.{path_fault}

-- The name is the one that the manifest's reader takes from a path whose variables have the values of a look-up: the
-- path has no fault, and the name is its canonical form.
abbrev pub IsNamed : (List ℕ → List ℕ) → List PieceValue → List ℕ → Type 0
IsNamed look_up path name =
    (path_fault (expanded look_up path) ≡ None) × (name ≡ canonical (expanded look_up path))
