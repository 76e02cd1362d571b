use Rattle.std.proofs.Common.{sym, ◌∙◌}
use Rattle.std.specs.Map.{lookup}
use Rattle.rev_cells.specs.Same.{cell_eq}
use Rattle.rev_held.proofs.FirstLemmas.{put-new, put-there}
use Rattle.rev_held.proofs.firsts.put.Goals as goal

pub returns-then-contains_key : goal.returns-then-contains_key
returns-then-contains_key c q = put-there c.args.firsts.now.entries c.args.cell.now q c.args.number (sym c.contains_key.ensures ∙ c.if-contains_key.true)

pub returns : goal.returns
returns c q =
    put-new c.args.firsts.now.entries c.args.cell.now c.in_ok-copy.field-0 q c.args.number (lookup (cell_eq q) c.insert.new.self.entries) (sym c.contains_key.ensures ∙ c.if-contains_key.false)
    c.in_ok-copy.ensures (c.in_ok-insert.ensures.updates.0 q)
