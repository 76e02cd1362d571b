use Rattle.std.proofs.Common.{◌≡◌, ℕ, ◌≤◌, ◌∙◌, List, Some, length, map, ap, subst, refl, arith, bytes_eq}
use Rattle.std.proofs.Common.{true, ◌&&◌, if◌then◌else◌}
use Rattle.std.specs.Prelude.{is_some, slice_get}
use Rattle.std.proofs.lemmas.Option.{slice_get_read}
use Rattle.indexmap.specs.IndexSet.{contains}
use Rattle.rev_hints.specs.Changes.{change_in}
use Rattle.rev_hints.specs.Hints.{hint_value, recorded_paths}
use Rattle.rev_hints.proofs.HintLemmas.{next-user, path-more, place-within, seen-more}
use Rattle.rev_hints.proofs.hints.add_hints.Goals as goal

pub loop-place-preserved : goal.loop-place-preserved
loop-place-preserved c =
    let builds = c.args.graph.now.manifest.builds in
    let state = c.args.cells.now.state in
    let changes = change_in c.args.changes.now.entries in
    let place = c.loop-place.place in
    let path = c.index-paths-place.result in
    let stands : slice_get (recorded_paths c.args.graph.now.manifest.builds c.args.cells.now.state c.args.user) c.loop-place.place ≡ Some c.index-paths-place.result =
    subst (λ (paths : List (List ℕ)). slice_get paths c.loop-place.place ≡ Some c.index-paths-place.result) c.listed_inputs-paths.ensures
    (slice_get_read c.listed_inputs-paths.result.now (length c.listed_inputs-paths.result.now) place path refl c.loop-place-test.true c.index-paths-place.is) in
    record {
      hints =
          path-more builds state changes c.args.user place path stands c.args.waited.now c.requires.waited (contains bytes_eq c.loop-place.seen path) (c.loop-place.invariant.seen path)
          (map hint_value c.loop-place.hints.items) (map hint_value c.add_at.new.hints.items) c.loop-place.invariant.hints c.in_ok-add_at.ensures.hints;
      seen = λ other.
          c.in_ok-add_at.ensures.seen other
          ∙ ap (λ b. if is_some (changes path) && bytes_eq path other then true else b) (c.loop-place.invariant.seen other)
          ∙ seen-more changes (recorded_paths builds state c.args.user) place path stands other;
    }

pub returns : goal.returns
returns c =
    let builds = c.args.graph.now.manifest.builds in
    let state = c.args.cells.now.state in
    let past : length (recorded_paths c.args.graph.now.manifest.builds c.args.cells.now.state c.args.user) ≤ c.loop-place.place =
    subst (λ (paths : List (List ℕ)). length paths ≤ c.loop-place.place) c.listed_inputs-paths.ensures c.loop-place-test.false in
    next-user builds state (change_in c.args.changes.now.entries) c.args.user c.loop-place.place (map hint_value c.loop-place.hints.items) c.loop-place.invariant.hints
    (λ h same is. let within = place-within builds state (change_in c.args.changes.now.entries) c.args.user h same is in omega (arith, within, past))
