-- Which outputs a text names.
use Rattle.std.specs.Prelude.{◌≡◌, ℕ, ◌==◌, Bool, false, not, ◌&&◌, ◌||◌, List, [], ◌∷◌, ◌++◌, find, filter, length, Option, Some, None, bytes_eq, if◌then◌else◌}
use Rattle.std.specs.List.{flat_map, list_all, list_any}
use Rattle.std.specs.Map.{lookup}
use Rattle.rev_paths.specs.Canonical.{canonical}
use Rattle.rev_manifest.specs.Manifest.{BuildValue}
use Rattle.rev_graph.specs.Graph.{build_at, inputs_of, outputs_of, producer_of}
use Rattle.rev_named.specs.Words.{path_in, words}

-- COMPONENTS
-- what stands behind each slash of a path
abbrev pub ends_of : List ℕ → List (List ℕ)
ends_of [] = []
ends_of (b ∷ bs) = if b == 47 then bs ∷ ends_of bs else ends_of bs

abbrev pub last_or : List ℕ → List (List ℕ) → List ℕ
last_or other [] = other
last_or other (p ∷ ps) = last_or p ps

-- what stands behind the last slash of a path, of those behind which something stands; else all of it
abbrev pub last_part : List ℕ → List ℕ
last_part path = last_or path (filter (λ end. not (length end == 0)) (ends_of path))

-- the last component of a path, as a canonical path
abbrev pub component : List ℕ → List ℕ
component path = canonical (last_part path)

-- THE PATHS OF A BUILD
-- all paths on a build line
abbrev pub paths_on : BuildValue → List (List ℕ)
paths_on build = outputs_of build ++ inputs_of build ++ build.validations

abbrev pub paths_of : List BuildValue → List (List ℕ)
paths_of builds = flat_map paths_on builds

abbrev pub is_made_by : ℕ → Option ℕ → Bool
is_made_by edge None = false
is_made_by edge (Some maker) = maker == edge

-- each path of the build with this last component is an output of this edge
abbrev pub is_alone : List BuildValue → ℕ → List ℕ → Bool
is_alone builds edge last =
    list_all (λ path. not (bytes_eq (component path) last) || is_made_by edge (producer_of builds path)) (paths_of builds)

-- WHAT IS NAMED
abbrev pub is_one : (List ℕ → Bool) → Option (List ℕ) → Bool
is_one test None = false
is_one test (Some path) = test path

-- An output is named by some words: it is one of them; or an end of it is one, by whole components, and no other edge,
-- and no source, has its last component.
abbrev pub is_named_by : List BuildValue → (List ℕ → Bool) → ℕ → List ℕ → Bool
is_named_by builds is_word edge out =
    is_word out
    || (list_any (λ end. is_one is_word (path_in end)) (ends_of out)
    && is_alone builds edge (component out))

abbrev pub is_word_of : List ℕ → List ℕ → Bool
is_word_of text word = list_any (bytes_eq word) (words text)

-- the first output of an edge that a text names
abbrev pub named_output : List BuildValue → List ℕ → ℕ → Option (List ℕ)
named_output builds text edge = find (is_named_by builds (is_word_of text) edge) (outputs_of (build_at builds edge))

-- AS IT IS FOUND
-- of two makers the one that they are, if they are one
abbrev pub agreed : Option ℕ → Option ℕ → Option ℕ
agreed (Some a) (Some b) = if a == b then Some b else None
agreed _ _ = None

-- what a path adds to what is known of the makers of paths with a last component
abbrev pub met : Option (Option ℕ) → Option ℕ → Option ℕ
met None maker = maker
met (Some known) maker = agreed known maker

abbrev pub note : List BuildValue → List ℕ → Option (Option ℕ) → List ℕ → Option (Option ℕ)
note builds last known path =
    if bytes_eq (component path) last then Some (met known (producer_of builds path)) else known

abbrev pub noted : List BuildValue → List ℕ → Option (Option ℕ) → List (List ℕ) → Option (Option ℕ)
noted builds last known [] = known
noted builds last known (path ∷ paths) = noted builds last (note builds last known path) paths

-- what a table has of a last component
abbrev pub known_in : List (List ℕ × Option ℕ) → List ℕ → Option (Option ℕ)
known_in table last = lookup (bytes_eq last) table

-- a table has of each last component what the paths of the build add up to
pub record AreLastComponents (builds : List BuildValue) (table : List (List ℕ × Option ℕ)) : Type 0 where
  pub each : (last : List ℕ) → known_in table last ≡ noted builds last None (paths_of builds)

-- the one edge that makes all paths with a last component is this one
abbrev pub is_known : ℕ → Option (Option ℕ) → Bool
is_known edge None = false
is_known edge (Some maker) = is_made_by edge maker
