use Rattle.std.proofs.Common.{◌≡◌, ◌+◌, ◌++◌, ◌∷◌, [], get_or, bytes_eq, sym, ap, subst, ◌∙◌}
use Rattle.std.proofs.lemmas.List.{get_or_default}
use Rattle.indexmap.specs.IndexSet.{contains}
use Rattle.rev_races.proofs.FirstLemmas.{AreSifted, sifted-new, sifted-old}
use Rattle.rev_races.proofs.direct.suspects.Goals as goal
use Rattle.rev_races.proofs.direct.suspects.Goals.{then-new+in_ok-push, else-new}

pub loop-place-preserved : goal.loop-place-preserved
loop-place-preserved c =
    let builds = c.args.graph.now.manifest.builds in
    let user = c.args.user in
    let paths = c.args.paths.now in
    let i = c.loop-place.place in
    let path = c.index-paths-place.result in
    let places = c.loop-place.places.items in
    let has = contains bytes_eq c.loop-place.seen in
    let also = contains bytes_eq c.is_new_suspect.new.seen in
    let e = c.in_ok-new.ensures in
    let is : get_or paths i [] ≡ path = get_or_default paths i [] path c.loop-place-test.true ∙ sym c.index-paths-place.is in
    elim c.if-new.branch [
      | then-new+in_ok-push w ↦
          let pushed : c.if-new.places.items ≡ places ++ i ∷ [] = ap (λ v. v.items) w.places-is ∙ w.in_ok-push.ensures.items in
          subst (AreSifted builds user paths (i + 1) also) (sym pushed)
          (sifted-new builds user paths i has also path places c.loop-place-test.true is e.noted e.kept e.only c.loop-place.invariant (e.new w.if-new.true))
      | else-new w ↦
          let stay : c.if-new.places.items ≡ places = ap (λ v. v.items) w.places-is in
          subst (AreSifted builds user paths (i + 1) also) (sym stay)
          (sifted-old builds user paths i has also path places c.loop-place-test.true is e.noted e.kept e.only c.loop-place.invariant (e.passed w.if-new.false))
    ]
