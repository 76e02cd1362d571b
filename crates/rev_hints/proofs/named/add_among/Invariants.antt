use Rattle.std.proofs.Common.{◌≡◌, ℕ, List, bytes_eq, take, Contains, ◌⊎◌}
use Rattle.std.specs.Prelude.{◌↔◌}
use Rattle.std.specs.List.{list_any}
use Rattle.indexmap.specs.IndexSet.{contains}
use Rattle.rev_races.specs.Keys.{SomeBelow}
use Rattle.rev_races.specs.Searches.{AreKeptMakers}
use Rattle.rev_hints.specs.declared.named.NameHint.{NameHint}
use Rattle.rev_hints.specs.Names.{IsHintHere}
use Rattle.rev_hints.proofs.named.add_among.Given as goal

abbrev pub invariant-loop-place : goal.invariant-loop-place
invariant-loop-place l = record {
  hints : (h : NameHint) → Contains l.hints.items h
      ↔ (Contains l.initial.hints.items h ⊎ SomeBelow (λ place. IsHintHere l.graph.manifest.builds l.files l.names.entries l.whole l.user l.paths place h) l.place);
  seen : (path : List ℕ) → contains bytes_eq l.seen path ≡ list_any (bytes_eq path) (take l.place l.paths);
  kept : AreKeptMakers l.graph.manifest.builds l.kept.phony l.kept.makers.items;
}
