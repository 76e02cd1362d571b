use Rattle.std.proofs.Common.{◌≡◌, ℕ, length, Contains, ◌⊎◌, inl, inr, ap, subst, ◌∙◌, arith}
use Rattle.std.specs.Prelude.{◌↔◌}
use Rattle.rev_manifest.specs.Manifest.{ManifestValue}
use Rattle.rev_races.specs.Keys.{SomeBelow}
use Rattle.rev_races.proofs.KeyLemmas.{some-more}
use Rattle.rev_hints.specs.Names.{IsHintOfUser}
use Rattle.rev_hints.proofs.NameLemmas.{all-hints, no-hints, none-among}
use Rattle.rev_hints.proofs.named.name_hints.Goals as goal

pub loop-user-preserved : goal.loop-user-preserved
loop-user-preserved c = record {
  hints = λ h.
      some-more (λ user. IsHintOfUser c.args.history.now.timeline c.args.files.now c.args.names.now.entries c.args.whole.now user h) c.loop-user.user (c.loop-user.invariant.hints h) (c.in_ok-add_of.ensures.hints h);
  search = c.in_ok-add_of.ensures.search;
  kept = c.in_ok-add_of.ensures.kept;
}

pub returns : goal.returns
returns c = λ h.
    let t = c.args.history.now.timeline in
    let all : c.loop-user.user ≡ length c.args.history.now.timeline.manifest.builds = omega (arith, c.loop-user-test.false, c.loop-user.auto.user-end, c.edges-user-end.ensures.edges, ap (λ (m : ManifestValue). length m.builds) c.graph-graph.ensures) in
    let found = subst (λ n. Contains c.loop-user.hints.items h ↔ (Contains no-hints h ⊎ SomeBelow (λ user. IsHintOfUser t c.args.files.now c.args.names.now.entries c.args.whole.now user h) n)) all (c.loop-user.invariant.hints h) in
    let by = all-hints t c.args.files.now c.args.names.now.entries c.args.whole.now h in (
      λ there. elim (found.0 there) [ inl none ↦ absurd (none-among h none) | inr s ↦ by.0 s ],
      λ is. found.1 (inr (by.1 is)),
    )
