-- What files say as a manifest: its value, or its first fault.
use Rattle.std.specs.Prelude.{◌≡◌, ℕ, ◌+◌, ◌-◌, ◌≤◌, true, false, not, ◌||◌, List, [], ◌∷◌, ◌++◌, length, Option, Some, None, Result, Ok, Err, if◌then◌else◌}
use Rattle.std.specs.List.{flat_map}
use Rattle.rev_scopes.specs.Edges.{compared}
use Rattle.rev_scopes.specs.Scopes.{ScopeValue, RuleValue}
use Rattle.rev_manifest.specs.declared.fault.FaultKind.TheVariants.{NoFile, TooLarge, UnknownPool}
use Rattle.rev_manifest.specs.declared.fault.ManifestFault.{ManifestFault}
use Rattle.rev_manifest.specs.declared.fault.Place.{Place}
use Rattle.rev_manifest.specs.Answers.{and_then, refused, unless, onto_list}
use Rattle.rev_manifest.specs.Names.{is_empty, without}
use Rattle.rev_manifest.specs.Files.{FileValue, bytes_left, content_at}
use Rattle.rev_manifest.specs.Pools.{PoolValue, pool_of}
use Rattle.rev_manifest.specs.Declarations.{DeclaredEdgeValue, DeclarationsValue, nothing}
use Rattle.rev_manifest.specs.Ends.{EndValues, at_end, fault_at_end, values_at_end}
use Rattle.rev_manifest.specs.Made.{left_of, with_left}
use Rattle.rev_manifest.specs.Reading.{reading}
pub use Rattle.rev_manifest.specs.Builds.{BuildValue, ManifestValue, outputs_of, inputs_of}
use Rattle.rev_manifest.specs.declared.manifest.TheConstants.{MOST_DEEP}

-- an edge without a rule's variables: a phony edge has no command, flags or pool, and its own outputs are none of its
-- inputs
abbrev pub phony_build : DeclaredEdgeValue → BuildValue
phony_build edge =
    let own = edge.paths.outs ++ edge.paths.implicit_outs in
    record {
      phony = true;
      explicit_outs = edge.paths.outs;
      implicit_outs = edge.paths.implicit_outs;
      explicit = without own edge.paths.ins;
      implicit = without own edge.paths.implicit;
      order_only = without own edge.paths.order_only;
      validations = edge.paths.validations;
      command = [];
      depfile = [];
      rspfile = [];
      keeps_deps = false;
      restat = false;
      generator = false;
      pool = None;
      file = edge.place.file;
      line = edge.place.line;
    }

-- an edge with the values of its rule's variables and the number of its pool
abbrev pub command_build : DeclaredEdgeValue → EndValues → Option ℕ → BuildValue
command_build edge values pool =
    record {
      phony = false;
      explicit_outs = edge.paths.outs;
      implicit_outs = edge.paths.implicit_outs;
      explicit = edge.paths.ins;
      implicit = edge.paths.implicit;
      order_only = edge.paths.order_only;
      validations = edge.paths.validations;
      command = compared values.command values.rspfile_content;
      depfile = values.depfile;
      rspfile = values.rspfile;
      keeps_deps = not (is_empty values.depfile) || not (is_empty values.deps);
      restat = not (is_empty values.restat);
      generator = not (is_empty values.generator);
      pool = pool;
      file = edge.place.file;
      line = edge.place.line;
    }

abbrev pub pool_found : Place → Option ℕ → Result (Option ℕ) ManifestFault
pool_found place None = refused place UnknownPool
pool_found place (Some number) = Ok (Some number)

-- the number of an edge's pool. The pool with the empty name is none.
abbrev pub pool_number : Place → List PoolValue → List ℕ → Result (Option ℕ) ManifestFault
pool_number place pools name = if is_empty name then Ok None else pool_found place (pool_of name pools)

-- the values of the variables that an edge needs, or why they are none
abbrev pub variables_of : List ScopeValue → DeclaredEdgeValue → RuleValue → Result EndValues ManifestFault
variables_of scopes edge rule =
    unless edge.place (fault_at_end (at_end scopes edge rule)) (values_at_end (at_end scopes edge rule))

-- an edge when all files are read, and how many bytes of values may be made after it
pub record EndedEdge : Type 0 where
  pub build : BuildValue
  pub left : ℕ

-- an edge where so many bytes of values may be made, or its first fault
abbrev pub built_with : List ScopeValue → List PoolValue → ℕ → DeclaredEdgeValue → Option RuleValue
    → Result EndedEdge ManifestFault
built_with scopes pools room edge None = Ok (record { build = phony_build edge; left = room })
built_with scopes pools room edge (Some rule) =
    and_then (variables_of scopes edge rule)
    (λ values. with_left edge.place (left_of room values.made) (λ left. and_then (pool_number edge.place pools values.pool)
    (λ pool. Ok (record { build = command_build edge values pool; left = left }))))

abbrev pub built : List ScopeValue → List PoolValue → ℕ → DeclaredEdgeValue → Result EndedEdge ManifestFault
built scopes pools room edge = built_with scopes pools room edge edge.rule

-- the edges in reading order, where so many bytes of values may be made, or the fault of the first that has one
abbrev pub builds_of : List ScopeValue → List PoolValue → ℕ → List DeclaredEdgeValue
    → Result (List BuildValue) ManifestFault
builds_of scopes pools room [] = Ok []
builds_of scopes pools room (edge ∷ edges) =
    and_then (built scopes pools room edge)
    (λ ended. and_then (builds_of scopes pools ended.left edges) (λ builds. Ok (ended.build ∷ builds)))

-- What is known of edges that were ended where so many bytes of values might be made, and of which so many are left: each
-- further edge goes on with what is left, whatever room there was above what they made.
pub record AreEnded (scopes : List ScopeValue) (pools : List PoolValue) (room left : ℕ) (edges : List DeclaredEdgeValue)
    (builds : List BuildValue) : Type 0 where
  pub within : left ≤ room
  pub ended : (more : ℕ) (others : List DeclaredEdgeValue)
      → builds_of scopes pools (room - left + more) (edges ++ others)
      ≡ onto_list builds (builds_of scopes pools more others)

-- what is built where nothing is named: what `default` statements name, else the outputs that are nowhere an input
abbrev pub defaults_of : Option (List (List ℕ)) → List BuildValue → List (List ℕ)
defaults_of (Some names) builds = names
defaults_of None builds = without (flat_map inputs_of builds) (flat_map outputs_of builds)

-- the manifest when all files are read
abbrev pub ended : DeclarationsValue → Result ManifestValue ManifestFault
ended above =
    and_then (builds_of above.scopes above.pools above.value_room above.edges)
    (λ builds. Ok (record { builds = builds; pools = above.pools; defaults = defaults_of above.defaults builds }))

-- a place that is no line
abbrev pub nowhere : Place
nowhere = record { file = 0; line = 0 }

-- what all files declare: the first is the manifest itself, and others are read where statements name them, at most 16
-- files deep below it, and of so many bytes more than are given. (Each file is counted as it is given, and again each
-- time that a statement names it; that the first one is read is no such time.)
abbrev pub declared_by : List FileValue → ℕ → Result DeclarationsValue ManifestFault
declared_by files left =
    reading files MOST_DEEP (nothing (left + length (content_at files 0)))
    (record { file = 0; scope = 0; place = nowhere })

-- what files say of which so many bytes may still be read; none where they are too large
abbrev pub manifest_with : List FileValue → Option ℕ → Result ManifestValue ManifestFault
manifest_with files None = refused nowhere TooLarge
manifest_with files (Some left) =
    if is_empty files then refused nowhere NoFile else and_then (declared_by files left) ended

-- The value of files, each a name and its content, or their first fault.
unfoldable pub manifest_of : List (List ℕ × List ℕ) → Result ManifestValue ManifestFault
manifest_of files = manifest_with files (bytes_left files)

abbrev pub fault_of : Result ManifestValue ManifestFault → Option ManifestFault
fault_of (Ok value) = None
fault_of (Err fault) = Some fault

-- the first fault of files
abbrev pub first_fault : List (List ℕ × List ℕ) → Option ManifestFault
first_fault files = fault_of (manifest_of files)
