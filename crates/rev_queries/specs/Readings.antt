-- Which edges have a file, and how. The file has one name or several.
use Rattle.std.specs.Prelude.{ℕ, Bool, ◌||◌, List, length, Option, Some, None, is_some, if◌then◌else◌}
use Rattle.std.specs.List.{filter_map, list_any, range_with_len}
use Rattle.rev_cells.specs.State.{State}
use Rattle.rev_manifest.specs.Builds.{BuildValue}
use Rattle.rev_graph.specs.Graph.{build_at, has_path}
use Rattle.rev_dirty.specs.Inputs.{deps_record, paths_in}
use Rattle.rev_queries.specs.declared.reading.Place.{Place}
use Rattle.rev_queries.specs.declared.reading.Place.TheVariants.{Explicit, Implicit, OrderOnly, Validation}
use Rattle.rev_queries.specs.declared.reading.Reading.{Reading}

-- one of the names of a file is one of these paths
abbrev pub has_any : List (List ℕ) → List (List ℕ) → Bool
has_any paths names = list_any (has_path paths) names

-- where a file stands behind the rule of a build line; of several places the first is told
abbrev pub place_in : BuildValue → List (List ℕ) → Option Place
place_in build names =
    if has_any build.explicit names then Some Explicit
    else if has_any build.implicit names then Some Implicit
    else if has_any build.order_only names then Some OrderOnly
    else if has_any build.validations names then Some Validation
    else None

-- the list of what an edge's command read, as the deps log has it in a state, has the file
abbrev pub is_listed : State → BuildValue → List (List ℕ) → Bool
is_listed state build names = has_any (paths_in (deps_record state build)) names

-- what an edge has to do with a file, where it has something to do with it
abbrev pub reading_of : ℕ → Option Place → Bool → Option Reading
reading_of edge place listed =
    if is_some place || listed then Some (record { edge = edge; place = place; listed = listed }) else None

abbrev pub reading_at : List BuildValue → State → List (List ℕ) → ℕ → Option Reading
reading_at builds state names edge =
    reading_of edge (place_in (build_at builds edge) names) (is_listed state (build_at builds edge) names)

-- WHO READS A FILE, by what is written: each edge that has it behind the rule of its build line, or in the list of what
-- its command read, in the order of the edges
abbrev pub readings_of : List BuildValue → State → List (List ℕ) → List Reading
readings_of builds state names = filter_map (reading_at builds state names) (range_with_len 0 (length builds))
