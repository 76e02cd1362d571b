use Rattle.std.proofs.Common.{◌≡◌, ℕ, ◌<◌, true, List, Contains, ◌⊎◌, subst}
use Rattle.std.specs.Prelude.{◌↔◌, eqb}
use Rattle.std.proofs.lemmas.List.Filters.{dedup_is}
use Rattle.rev_entry_conflicts.specs.declared.deed.Deed.{Deed}
use Rattle.rev_entry_conflicts.specs.Touches.{touched_by, touches}
use Rattle.rev_entry_conflicts.proofs.TouchLemmas.{touched-are}
use Rattle.rev_entry_conflicts.proofs.touch.touched.Goals as goal

pub returns : goal.returns
returns c =
    touched-are (touches c.args.command.now) c.args.count c.new-numbers.result.items c.add_deeds.new.numbers.items c.sort_unstable.new.self.items c.dedup.new.self.items c.new-numbers.ensures.items
    (subst (λ (ds : List Deed). (n : ℕ) → Contains c.add_deeds.new.numbers.items n ↔ (Contains c.new-numbers.result.items n ⊎ ((n < c.args.count) × (touched_by ds n ≡ true)))) c.deref.ensures.value c.in_ok-add_deeds.ensures)
    c.sort_unstable.ensures.permutation c.sort_unstable.ensures.sorted (dedup_is eqb c.sort_unstable.new.self.items c.dedup.new.self.items c.dedup.ensures.filtered)
