use Rattle.std.proofs.Common.{List, Result, Ok, map, sym, ap, ◌∙◌}
use Rattle.std.proofs.lemmas.List.{map-append}
use Rattle.std.proofs.lemmas.Result.{err_from_is_err_and}
use Rattle.rev_syntax.specs.Seen.{seen_binding, seen_build_line}
use Rattle.rev_manifest.specs.Declarations.{DeclaredEdgeValue, DeclarationsValue}
use Rattle.rev_manifest.specs.declared.fault.ManifestFault.{ManifestFault}
use Rattle.rev_manifest.specs.Held.{seen_paths, seen_edge, seen_declarations}
use Rattle.rev_manifest.proofs.EdgeLemmas.{edge_fault, edge_large, edge_ok}
use Rattle.rev_manifest.proofs.statements.add_edge.Goals as goal

abbrev with_edges : DeclarationsValue → List DeclaredEdgeValue → Result DeclarationsValue ManifestFault
with_edges above edges = Ok (record above { edges = edges })

pub returns-in_err-paths-clause-meant : goal.returns-in_err-paths-clause-meant
returns-in_err-paths-clause-meant c =
    let p = err_from_is_err_and c.from_residual-in_err-paths.result c.from_residual-in_err-paths.ensures.1 in
    rw (p.1, p.2) (edge_fault c.args.place (seen_declarations c.args.above.now) c.args.scope (seen_build_line c.args.build.now) (map seen_binding c.args.bindings.now) c.in_ok-rule.rule
    c.in_ok-block.block.values c.in_err-paths.field-0.0 c.if-binds.ensures c.in_ok-rule.ensures c.in_ok-block.ensures.values c.in_err-paths.ensures)

pub returns-then-block-clause-meant : goal.returns-then-block-clause-meant
returns-then-block-clause-meant c =
    rw c.fault-then-block.ensures
    (edge_large c.args.place (seen_declarations c.args.above.now) c.args.scope (seen_build_line c.args.build.now) (map seen_binding c.args.bindings.now) c.in_ok-rule.rule
    c.in_ok-block.block.values _ c.if-binds.ensures c.in_ok-rule.ensures c.in_ok-block.ensures.values c.in_ok-paths.ensures (sym c.in_ok-block.ensures.large ∙ c.if-block.true))

pub returns-clause-meant : goal.returns-clause-meant
returns-clause-meant c =
    let above = seen_declarations c.args.above.now in
    edge_ok c.args.place above c.args.scope (seen_build_line c.args.build.now) (map seen_binding c.args.bindings.now) c.in_ok-rule.rule c.in_ok-block.block.values (seen_paths c.in_ok-paths.paths)
    c.if-binds.ensures c.in_ok-rule.ensures c.in_ok-block.ensures.values c.in_ok-paths.ensures (sym c.in_ok-block.ensures.large ∙ c.if-block.false)
    ∙ ap (with_edges above) (sym (ap (map seen_edge) c.in_ok-push.ensures.items ∙ map-append seen_edge c.args.above.now.edges.items _))
