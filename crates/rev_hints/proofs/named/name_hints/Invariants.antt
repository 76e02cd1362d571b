use Rattle.std.proofs.Common.{Contains, ◌⊎◌}
use Rattle.std.specs.Prelude.{◌↔◌}
use Rattle.rev_races.specs.Keys.{SomeBelow}
use Rattle.rev_races.specs.Searches.{AreKeptMakers, IsKept}
use Rattle.rev_hints.specs.declared.named.NameHint.{NameHint}
use Rattle.rev_hints.specs.Names.{IsHintOfUser}
use Rattle.rev_hints.proofs.NameLemmas.{no-hints}
use Rattle.rev_hints.proofs.named.name_hints.Given as goal

abbrev pub invariant-loop-user : goal.invariant-loop-user
invariant-loop-user l = record {
  hints : (h : NameHint) → Contains l.hints.items h
      ↔ (Contains no-hints h ⊎ SomeBelow (λ user. IsHintOfUser l.history.timeline l.files l.names.entries l.whole user h) l.user);
  search : IsKept l.history.timeline.manifest.builds l.search.edge l.search.waited.items;
  kept : AreKeptMakers l.history.timeline.manifest.builds l.kept.phony l.kept.makers.items;
}
