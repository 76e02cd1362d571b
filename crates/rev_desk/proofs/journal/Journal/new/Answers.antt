use Rattle.std.proofs.Common.{◌≡◌, ◌<◌, length, sym, ap, ◌∙◌, subst, Some, List, []}
use Rattle.std.specs.List.{AllByRecursion}
use Rattle.rev_desk.specs.declared.reply.Entry.{Entry}
use Rattle.rev_desk.specs.Names.{lane_numbers}
use Rattle.rev_desk.proofs.JournalLemmas.{empty_at}
use Rattle.rev_desk.proofs.journal.Journal.new.Goals as goal

pub returns-clause-indexed : goal.returns-clause-indexed
returns-clause-indexed c = record {
  numbers = λ lane lt. empty_at c.loop.numbers.items c.loop.invariant.empty lane lt ∙ ap (λ (es : List Entry). Some (lane_numbers es lane)) (sym c.in_ok-entries.ensures.items);
  lanes = subst (λ (es : List Entry). AllByRecursion (λ (e : Entry). e.lane < length c.loop.numbers.items) es) (sym c.in_ok-entries.ensures.items) tt;
}
