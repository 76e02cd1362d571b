use Rattle.rev_cells.proofs.EntryLemmas.{value_at-set-other, other_cell}
use Rattle.rev_cells.proofs.laws.others_stay.Goals as goal

pub returns : goal.returns
returns c = λ s k q v other. value_at-set-other s k v q (other_cell q k other)
