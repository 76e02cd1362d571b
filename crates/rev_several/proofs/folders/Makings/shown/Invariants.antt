use Rattle.std.proofs.Common.{◌≡◌, ℕ, None}
use Rattle.std.specs.Prelude.{nat_eq}
use Rattle.indexmap.specs.IndexMap.{get}
use Rattle.rev_several.proofs.ShownLemmas.{walk}
use Rattle.rev_several.proofs.folders.Makings.shown.Given as goal

abbrev pub invariant-loop-key : goal.invariant-loop-key
invariant-loop-key l = (folder : ℕ) → walk folder (get nat_eq l.folders folder) l.key-iterator ≡ walk folder None l.self.seen.entries
