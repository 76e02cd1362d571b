-- What the types of declarations hold.
use Rattle.std.specs.Prelude.{ℕ, List, [], ◌∷◌, length, sum, map, Option, Some, None, option_map}
use Rattle.rev_manifest.specs.declared.edge_paths.EdgePaths.{EdgePaths}
use Rattle.rev_manifest.specs.declared.declarations.DeclaredEdge.{DeclaredEdge}
use Rattle.rev_manifest.specs.declared.declarations.Declarations.{Declarations}
use Rattle.rev_scopes.specs.declared.edge.EdgeVariables.{EdgeVariables}
use Rattle.rev_manifest.specs.Declarations.{PathsValue, DeclaredEdgeValue, DeclarationsValue}
use Rattle.rev_scopes.specs.Edges.{response_given}
use Rattle.rev_scopes.specs.declared.growth.TheConstants.{MAX_VALUE_BYTES}
use Rattle.rev_manifest.specs.Ends.{EndValues, or_empty}

abbrev pub seen_paths : EdgePaths → PathsValue
seen_paths paths =
    record {
      outs = paths.outs.items;
      implicit_outs = paths.implicit_outs.items;
      ins = paths.ins.items;
      implicit = paths.implicit.items;
      order_only = paths.order_only.items;
      validations = paths.validations.items;
    }

abbrev pub seen_edge : DeclaredEdge → DeclaredEdgeValue
seen_edge edge = record { rule = edge.rule; block = edge.block; scope = edge.scope; paths = seen_paths edge.paths; place = edge.place }

abbrev pub seen_declarations : Declarations → DeclarationsValue
seen_declarations above =
    record {
      scopes = above.scopes;
      pools = above.pools;
      edges = map seen_edge above.edges.items;
      defaults = option_map (λ names. names.items) above.defaults;
      room = above.room;
      value_room = above.value_room;
    }

-- the bytes of the path of a response file; no more are made of one that is too large than a value may have
abbrev pub path_made : Option (List ℕ) → ℕ
path_made None = MAX_VALUE_BYTES
path_made (Some path) = length path

-- the bytes of the values of an edge
abbrev pub values_made : EdgeVariables → ℕ
values_made values =
    sum
    (length values.command.items ∷ length values.depfile.items ∷ length values.deps.items
    ∷ length values.generator.items ∷ length values.restat.items ∷ length values.rspfile_content.items
    ∷ length values.pool.items ∷ path_made (response_given values) ∷ [])

abbrev pub seen_values : EdgeVariables → EndValues
seen_values values =
    record {
      command = values.command.items;
      depfile = values.depfile.items;
      deps = values.deps.items;
      generator = values.generator.items;
      restat = values.restat.items;
      rspfile = or_empty (response_given values);
      rspfile_content = values.rspfile_content.items;
      pool = values.pool.items;
      made = values_made values;
    }
