use Rattle.std.proofs.Common.{◌≡◌, ◌<◌, length, Some, sym, ap, ◌∙◌, arith, refl}
use Rattle.std.specs.Option.{option_copied}
use Rattle.std.specs.Prelude.{slice_get}
use Rattle.rev_graph.specs.Graph.{build_at, outputs_of, producer_of}
use Rattle.rev_waits.proofs.MendLemmas.{first-contained, mends}
use Rattle.rev_waits.proofs.mending.mend.Goals as goal

pub returns-clause-mends : goal.returns-clause-mends
returns-clause-mends c =
    let builds = c.args.graph.now.manifest.builds in
    let inside : c.args.user < length c.args.graph.now.manifest.builds = omega (arith, c.if-user-edges.false, c.edges-edges.ensures.edges) in
    let first : slice_get (outputs_of (build_at c.args.graph.now.manifest.builds c.args.maker)) 0 ≡ Some c.in-Some.out.now =
    sym c.first_output.ensures ∙ ap option_copied c.in-Some.is in
    let made : producer_of c.args.graph.now.manifest.builds c.in-Some.out.now ≡ Some c.args.maker =
    sym c.producer-producer.ensures.value ∙ c.producer-producer.ensures.only c.args.maker (first-contained (outputs_of (build_at builds c.args.maker)) c.in-Some.out.now first) in
    mends builds c.args.user c.args.maker c.in-Some.out.now inside made c.args.graph.now c.edges-edges.ensures.graph refl (c.in_ok-are_apart.ensures.0 c.if-not-branch.false)
