use Rattle.std.proofs.Common.{◌≡◌, List, length, take, sym, ap, subst, ◌∙◌}
use Rattle.rev_accesses.specs.Places.{PlacesValue}
use Rattle.rev_cells.specs.declared.cell.Cell.{Cell}
use Rattle.rev_history.specs.Steps.{IsPrintAt}
use Rattle.rev_history.proofs.NamedLemmas.{print_at}
use Rattle.rev_history.proofs.access_updates.places_of.Goals as goal

pub returns-in-Ok-clause-places : goal.returns-in-Ok-clause-places
returns-in-Ok-clause-places c =
    let front : take (length c.writes-writes.result.now) c.reads.result.now ≡ c.args.footprint.now.writes = ap (λ (w : List Cell). take (length w) c.reads.result.now) c.writes-writes.ensures.same ∙ c.reads.ensures.first in
    subst (IsPrintAt c.places_of.new.self.places c.args.footprint.now)
    (sym (c.of.ensures ∙ (λ i. record { read = c.in-Ok.read.items; written = take (length c.writes-writes.result.now) c.in-Ok.read.items; whole = c.whole.ensures i })))
    (print_at c.places_of.new.self.places c.reads.result.now (length c.writes-writes.result.now) c.in-Ok.read.items c.args.footprint.now c.in-Ok.ensures.places c.in-Ok.ensures.within c.reads.ensures.same front c.reads.ensures.distinct c.reads.ensures.first)
