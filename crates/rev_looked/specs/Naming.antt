-- Who names a path, where nothing was observed: on build lines, and in lists of what commands read.
use Rattle.std.specs.Prelude.{ℕ, length, Option, Some, None, if◌then◌else◌}
use Rattle.std.specs.Prelude as prelude
use Rattle.std.specs.List.{filter_map, range_with_len}
use Rattle.std.specs.Option.{option_map}
use Rattle.rev_cells.specs.State.{State}
use Rattle.rev_manifest.specs.Builds.{BuildValue}
use Rattle.rev_graph.specs.Graph.{build_at, has_path, inputs_of}
use Rattle.rev_dirty.specs.Inputs.{deps_record, paths_in}
use Rattle.rev_looked.specs.declared.naming.Naming.{Naming}
use Rattle.rev_looked.specs.declared.naming.Site.{Site}
use Rattle.rev_looked.specs.declared.naming.Site.TheVariants.{Line, Listed}

-- where an edge names a path: as an input on its build line, or else in the list of what its command read
abbrev pub site_of : prelude.List BuildValue → State → ℕ → prelude.List ℕ → Option Site
site_of builds state edge path =
    if has_path (inputs_of (build_at builds edge)) path then Some Line
    else if has_path (paths_in (deps_record state (build_at builds edge))) path then Some Listed
    else None

abbrev pub naming_of : ℕ → Site → Naming
naming_of edge site = record { edge = edge; site = site }

abbrev pub naming_at : prelude.List BuildValue → State → prelude.List ℕ → ℕ → Option Naming
naming_at builds state path edge = option_map (naming_of edge) (site_of builds state edge path)

-- WHO NAMES A PATH AS WHAT IT READS: each edge that does, in the order of the edges, and where
abbrev pub namings_of : prelude.List BuildValue → State → prelude.List ℕ → prelude.List Naming
namings_of builds state path = filter_map (naming_at builds state path) (range_with_len 0 (length builds))
