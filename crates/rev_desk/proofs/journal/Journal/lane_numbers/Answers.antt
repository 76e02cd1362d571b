use Rattle.std.proofs.Common.{◌≡◌, ◌≤◌, ℕ, length, sym, arith, None, slice_get, ◌∙◌}
use Rattle.std.proofs.lemmas.Option.{slice_get_cases}
use Rattle.std.proofs.lemmas.Grind.{common_steps}
use Rattle.rev_desk.proofs.JournalLemmas.{numbers_from-none}
use Rattle.rev_desk.proofs.journal.Journal.lane_numbers.Goals as goal

pub returns-in-None : goal.returns-in-None
returns-in-None c =
    let past : length c.args.self.now.numbers.items ≤ c.args.lane = grind (arith, common_steps, c.in-None.ensures.lookup, c.deref.ensures.value) in
    sym (numbers_from-none c.args.lane 1 (length c.args.self.now.numbers.items) c.args.self.now.entries.items c.requires.lanes past)
