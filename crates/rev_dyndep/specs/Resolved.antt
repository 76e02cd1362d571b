-- Whether a manifest is another one with what dyndep files say.
use Rattle.std.specs.Prelude.{ℕ, Bool, true, false, ◌&&◌, ◌||◌, ◌==◌, List, [], ◌∷◌, ◌++◌, Option, Some, None, bytes_eq, if◌then◌else◌}
use Rattle.std.specs.List.{list_any}
use Rattle.std.specs.Cmp.Lexicographic.{pointwise}
use Rattle.rev_manifest.specs.Builds.{BuildValue, ManifestValue, outputs_of}
use Rattle.rev_dyndep.specs.Told.{ToldValue}

-- a statement of a dyndep file speaks of an edge where it begins with an output of that edge
abbrev pub speaks_of : ToldValue → BuildValue → Bool
speaks_of told build = list_any (bytes_eq told.output) build.explicit_outs || list_any (bytes_eq told.output) build.implicit_outs

-- an edge with what a statement says of it: its paths stand last, and `restat` holds where either says it
abbrev pub with_told : ToldValue → BuildValue → BuildValue
with_told told build =
    record build { implicit_outs = build.implicit_outs ++ told.outputs; implicit = build.implicit ++ told.inputs; restat = build.restat || told.restat }

-- the same paths, one by one
abbrev pub same_paths : List (List ℕ) → List (List ℕ) → Bool
same_paths one other = pointwise bytes_eq one other

-- the same paths on the build line
abbrev pub same_line : BuildValue → BuildValue → Bool
same_line one other =
    same_paths one.explicit_outs other.explicit_outs && same_paths one.implicit_outs other.implicit_outs && same_paths one.explicit other.explicit
    && same_paths one.implicit other.implicit && same_paths one.order_only other.order_only && same_paths one.validations other.validations

abbrev pub same_bool : Bool → Bool → Bool
same_bool true other = other
same_bool false true = false
same_bool false false = true

abbrev pub same_pool : Option ℕ → Option ℕ → Bool
same_pool None None = true
same_pool None (Some other) = false
same_pool (Some one) None = false
same_pool (Some one) (Some other) = one == other

-- the same command, with what belongs to it
abbrev pub same_texts : BuildValue → BuildValue → Bool
same_texts one other =
    bytes_eq one.command other.command && bytes_eq one.depfile other.depfile && bytes_eq one.rspfile other.rspfile

abbrev pub same_flags : BuildValue → BuildValue → Bool
same_flags one other =
    same_bool one.phony other.phony && same_bool one.keeps_deps other.keeps_deps && same_bool one.restat other.restat && same_bool one.generator other.generator

-- the same file and line, and the same pool
abbrev pub same_place : BuildValue → BuildValue → Bool
same_place one other = one.file == other.file && one.line == other.line && same_pool one.pool other.pool

-- the same edge
abbrev pub same_edge : BuildValue → BuildValue → Bool
same_edge one other = same_line one other && same_texts one other && same_flags one other && same_place one other

-- Edges are resolved where each is the plain one with what the statement says that speaks of it, and the plain one itself
-- where none does. The statements stand in the order of the edges, and each is that of one edge.
abbrev pub are_resolved : List ToldValue → List BuildValue → List BuildValue → Bool
are_resolved [] [] [] = true
are_resolved (told ∷ more) [] [] = false
are_resolved told [] (found ∷ others) = false
are_resolved told (plain ∷ edges) [] = false
are_resolved [] (plain ∷ edges) (found ∷ others) = same_edge plain found && are_resolved [] edges others
are_resolved (told ∷ more) (plain ∷ edges) (found ∷ others) =
    if speaks_of told plain then same_edge (with_told told plain) found && are_resolved more edges others
    else same_edge plain found && are_resolved (told ∷ more) edges others

-- a manifest is resolved where its edges are, and its defaults are the same
abbrev pub is_resolved : ManifestValue → List ToldValue → ManifestValue → Bool
is_resolved plain told found = same_paths plain.defaults found.defaults && are_resolved told plain.builds found.builds
