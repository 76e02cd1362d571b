use Rattle.std.proofs.Common.{◌≡◌, Contains, Option, None, Some, IfSome, sym, ap, subst, ◌∙◌, refl}
use Rattle.rev_manifest.specs.Manifest.{ManifestValue}
use Rattle.rev_graph.specs.Graph.{build_at, outputs_of, producer_of}
use Rattle.rev_patched.proofs.PatchedLemmas.{provoked}
use Rattle.rev_patched.proofs.provoking.patch_with.Goals as goal

some-weaker : {T : Type 0} (o : Option T) (P Q : T → Type 0) → ((x : T) → P x → Q x) → IfSome o P → IfSome o Q
some-weaker None P Q f h = h
some-weaker (Some x) P Q f h = f x h

pub returns : goal.returns
returns c =
    let g = c.args.graph.now in
    let path = c.args.path.now in
    let user = c.args.user in
    let same = c.requires.same in
    let has = subst (λ (m : ManifestValue). Contains (outputs_of (build_at m.builds user)) path) (sym same) c.requires.output in
    let made : producer_of c.args.old.now.builds path ≡ Some user =
    ap (λ (m : ManifestValue). producer_of m.builds path) (sym same) ∙ sym c.producer-producer.ensures.value ∙ c.producer-producer.ensures.only user has in
    some-weaker c.in_ok-found.found _ _
    (λ changes p. provoked g c.args.old.now _ _ user c.args.maker c.edges-edges.ensures.graph same refl c.requires.maker c.requires.apart c.requires.output made p) c.in_ok-found.ensures
