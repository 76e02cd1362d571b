use Rattle.std.proofs.Common.{◌≡◌, ◌<◌, ◌≤◌, ◌^◌, ℕ, List, [], length, get_or, map, Contains, ◌⊎◌, refl, ap, subst, ◌∙◌, arith}
use Rattle.std.specs.Global.{Vec}
use Rattle.std.specs.Prelude.{◌↔◌, All}
use Rattle.std.specs.List.Sorted.{IsStrictlySortedBy}
use Rattle.std.specs.Ordering.{nat_cmp}
use Rattle.std.specs.Cmp.Lexicographic.{slice_cmp}
use Rattle.std.proofs.lemmas.List.Elements.{Contains-get_or}
use Rattle.rev_manifest.specs.Manifest.{ManifestValue}
use Rattle.rev_graph.proofs.StepLemmas.{length-successors}
use Rattle.rev_races.specs.declared.told.Told.{Told}
use Rattle.rev_races.specs.Keys.{AreTold, IsKeyBelow, IsKeyOf, SomeBelow, told_key}
use Rattle.rev_races.specs.Kinds.{IsBetween}
use Rattle.rev_races.proofs.ExactLemmas.{all-between, are-told, keys-fit}
use Rattle.rev_races.proofs.GroupLemmas.{found-all}
use Rattle.rev_races.proofs.KeyLemmas.{some-more, ok-both}
use Rattle.rev_races.proofs.answer.found_in.Goals as goal

pub grouped-requires : goal.grouped-requires
grouped-requires c =
    let few = c.edges.ensures.graph.few in
    let same : length c.graph-graph.result.now.manifest.builds ≡ length c.args.history.now.timeline.manifest.builds = ap (λ (m : ManifestValue). length m.builds) c.graph-graph.ensures in
    let each = length-successors c.args.history.now.timeline.manifest.builds c.args.steps.now c.requires in
    omega (arith, few, same, each)

pub add_of-requires-clause-user : goal.add_of-requires-clause-user
add_of-requires-clause-user c =
    let each = length-successors c.args.history.now.timeline.manifest.builds c.args.steps.now c.requires in
    let there : Contains c.in_ok-users.users.items (get_or c.deref-user-items.result.now c.loop-user.user-index 0) =
    subst (λ (xs : List ℕ). Contains xs (get_or c.deref-user-items.result.now c.loop-user.user-index 0)) c.deref-user-items.ensures.value
    (Contains-get_or c.deref-user-items.result.now c.loop-user.user-index 0 c.loop-user-test.true) in
    let below = (c.in_ok-users.ensures (get_or c.deref-user-items.result.now c.loop-user.user-index 0)).0 there in
    omega (arith, each, below)

pub loop-user-preserved : goal.loop-user-preserved
loop-user-preserved c = record {
  found = λ k.
      some-more (λ i. IsKeyOf c.args.history.now.timeline c.args.files.now (get_or c.deref-user-items.result.now i 0) k) c.loop-user.user-index (c.loop-user.invariant.found k) (c.in_ok-add_of.ensures.found k);
  direct = c.in_ok-add_of.ensures.direct;
  kept = c.in_ok-add_of.ensures.kept;
  behind = c.in_ok-add_of.ensures.behind;
}

pub into_told-requires : goal.into_told-requires
into_told-requires c =
    let t = c.args.history.now.timeline in
    let same : length c.graph-graph.result.now.manifest.builds ≡ length c.args.history.now.timeline.manifest.builds = ap (λ (m : ManifestValue). length m.builds) c.graph-graph.ensures in
    let few = c.edges.ensures.graph.few in
    let small : length c.args.history.now.timeline.manifest.builds < 2 ^ 32 = omega (arith, same, few) in
    let all : c.loop-user.user-index ≡ length c.deref-user-items.result.now = omega (arith, c.loop-user-test.false, c.loop-user.auto.user-index-end) in
    keys-fit t c.args.files.now (length c.args.history.now.timeline.manifest.builds) c.loop-user.found (omega arith) small
    (found-all t c.args.files.now c.args.steps.now c.deref-user-items.result.now c.in_ok-users.users.items c.loop-user.user-index c.loop-user.found c.requires c.deref-user-items.ensures.value all
    c.in_ok-users.ensures c.loop-user.invariant.found)

pub returns-clause-told : goal.returns-clause-told
returns-clause-told c =
    let t = c.args.history.now.timeline in
    let all : c.loop-user.user-index ≡ length c.deref-user-items.result.now = omega (arith, c.loop-user-test.false, c.loop-user.auto.user-index-end) in
    ok-both (λ (told : Vec Told). map told_key told.items ≡ c.loop-user.found) (λ (told : Vec Told). IsStrictlySortedBy (slice_cmp nat_cmp) (map told_key told.items))
    (λ (told : Vec Told). AreTold t c.args.files.now told.items)
    (λ told keys rising. are-told t c.args.files.now (length t.manifest.builds) c.loop-user.found told.items refl
    (found-all t c.args.files.now c.args.steps.now c.deref-user-items.result.now c.in_ok-users.users.items c.loop-user.user-index c.loop-user.found c.requires c.deref-user-items.ensures.value all
    c.in_ok-users.ensures c.loop-user.invariant.found) keys rising)
    c.into_told.result c.into_told.ensures.keys c.into_told.ensures.rising

pub returns-clause-between : goal.returns-clause-between
returns-clause-between c =
    let t = c.args.history.now.timeline in
    let all : c.loop-user.user-index ≡ length c.deref-user-items.result.now = omega (arith, c.loop-user-test.false, c.loop-user.auto.user-index-end) in
    ok-both (λ (told : Vec Told). map told_key told.items ≡ c.loop-user.found) (λ (told : Vec Told). IsStrictlySortedBy (slice_cmp nat_cmp) (map told_key told.items))
    (λ (told : Vec Told). All (IsBetween t.manifest.builds) told.items)
    (λ told keys rising. all-between t c.args.files.now told.items (are-told t c.args.files.now (length t.manifest.builds) c.loop-user.found told.items refl
    (found-all t c.args.files.now c.args.steps.now c.deref-user-items.result.now c.in_ok-users.users.items c.loop-user.user-index c.loop-user.found c.requires c.deref-user-items.ensures.value all
    c.in_ok-users.ensures c.loop-user.invariant.found) keys rising))
    c.into_told.result c.into_told.ensures.keys c.into_told.ensures.rising
