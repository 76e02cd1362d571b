use Rattle.std.proofs.Common.{◌≡◌, ℕ, ◌+◌, ◌-◌, ◌++◌, ◌∷◌, List, [], length, map, sym, refl, ap, ◌∙◌, arith}
use Rattle.std.proofs.lemmas.Result.{err_from_is_err_and}
use Rattle.std.specs.Vec.Iter.{into_iter_items}
use Rattle.rev_manifest.specs.Answers.{onto_list}
use Rattle.rev_manifest.specs.Declarations.{DeclaredEdgeValue}
use Rattle.rev_manifest.specs.declared.declarations.DeclaredEdge.{DeclaredEdge}
use Rattle.rev_manifest.specs.Manifest.{BuildValue, EndedEdge, builds_of}
use Rattle.rev_manifest.specs.Held.{seen_edge}
use Rattle.rev_manifest.proofs.ParallelLemmas.{none-ended, fault-next, next-within, next-ended, all-ended}
use Rattle.rev_manifest.proofs.ends.builds_of.Goals as goal

pub loop-edge-init : goal.loop-edge-init
loop-edge-init c =
    record {
      within = omega arith;
      ended = λ more others.
          (none-ended c.args.scopes.now c.args.pools.now c.args.room (map seen_edge c.args.edges.items) more others
          ∙ ap (λ (bs : List BuildValue). onto_list bs (builds_of c.args.scopes.now c.args.pools.now more (map seen_edge c.args.edges.items ++ others))) (sym c.in_ok-builds.ensures.items)
          ∙ ap (λ (es : List DeclaredEdge). onto_list c.in_ok-builds.builds.items (builds_of c.args.scopes.now c.args.pools.now more (map seen_edge es ++ others)))
          (sym c.into_iter-rest.ensures.rest));
    }

empty : (xs : List DeclaredEdge) → length xs ≡ 0 → xs ≡ []
empty [] e = refl
empty (x ∷ xs) e = absurd (omega arith)

pub returns-in_err-ended-clause-meant : goal.returns-in_err-ended-clause-meant
returns-in_err-ended-clause-meant c =
    let scopes = c.args.scopes.now in
    let pools = c.args.pools.now in
    let builds = c.loop-edge.builds.items in
    let edges = map seen_edge c.args.edges.items in
    let p = err_from_is_err_and c.from_residual-in_err-ended.result c.from_residual-in_err-ended.ensures.1 in
    rw (p.1, p.2)
    (fault-next scopes pools c.args.room c.loop-edge.left edges (seen_edge c.in-Some.edge) (map seen_edge (into_iter_items c.next.new.self)) builds c.loop-edge.invariant.within
    (λ more others. c.loop-edge.invariant.ended more others ∙ ap (λ (es : List DeclaredEdge). onto_list builds (builds_of scopes pools more (map seen_edge es ++ others))) c.in-Some.ensures.items)
    c.in_err-ended.field-0.0 c.in_err-ended.ensures)

pub loop-edge-preserved : goal.loop-edge-preserved
loop-edge-preserved c =
    let scopes = c.args.scopes.now in
    let pools = c.args.pools.now in
    let builds = c.loop-edge.builds.items in
    let edges = map seen_edge c.args.edges.items in
    let edge = seen_edge c.in-Some.edge in
    let rest = map seen_edge (into_iter_items c.next.new.self) in
    let left = c.loop-edge.left in
    let within = c.loop-edge.invariant.within in
    let ended : EndedEdge = record { build = c.in_ok-ended.ended.build; left = c.in_ok-ended.ended.left } in
    let so_far : (more : ℕ) (others : List DeclaredEdgeValue) → builds_of scopes pools (c.args.room - left + more) (edges ++ others) ≡ onto_list builds (builds_of scopes pools more (edge ∷ rest ++ others)) =
    λ more others. c.loop-edge.invariant.ended more others ∙ ap (λ (es : List DeclaredEdge). onto_list builds (builds_of scopes pools more (map seen_edge es ++ others))) c.in-Some.ensures.items in
    record {
      within = next-within scopes pools c.args.room left edges edge rest builds within so_far ended c.in_ok-ended.ensures;
      ended = λ more others.
          (next-ended scopes pools c.args.room left edges edge rest builds within so_far ended c.in_ok-ended.ensures more others
          ∙ ap (λ (bs : List BuildValue). onto_list bs (builds_of scopes pools more (rest ++ others))) (sym c.in_ok-push.ensures.items));
    }

pub returns-clause-meant : goal.returns-clause-meant
returns-clause-meant c =
    let scopes = c.args.scopes.now in
    let pools = c.args.pools.now in
    let builds = c.loop-edge.builds.items in
    let none = rw c.in_default.is at c.next.ensures.cases in
    let done : into_iter_items c.loop-edge.rest ≡ [] = empty (into_iter_items c.loop-edge.rest) (sym c.loop-edge.rest.rest.ok.0 ∙ none.0) in
    all-ended scopes pools c.args.room c.loop-edge.left (map seen_edge c.args.edges.items) builds
    (record {
      within = c.loop-edge.invariant.within;
      ended = λ more others. (c.loop-edge.invariant.ended more others ∙ ap (λ (es : List DeclaredEdge). onto_list builds (builds_of scopes pools more (map seen_edge es ++ others))) done);
    })

pub returns-clause-ended : goal.returns-clause-ended
returns-clause-ended c =
    let scopes = c.args.scopes.now in
    let pools = c.args.pools.now in
    let builds = c.loop-edge.builds.items in
    let none = rw c.in_default.is at c.next.ensures.cases in
    let done : into_iter_items c.loop-edge.rest ≡ [] = empty (into_iter_items c.loop-edge.rest) (sym c.loop-edge.rest.rest.ok.0 ∙ none.0) in
    record {
      within = c.loop-edge.invariant.within;
      ended = λ more others. (c.loop-edge.invariant.ended more others ∙ ap (λ (es : List DeclaredEdge). onto_list builds (builds_of scopes pools more (map seen_edge es ++ others))) done);
    }
