use Rattle.std.proofs.Common.{nat_eq, refl}
use Rattle.std.specs.Map.{lookup}
use Rattle.rev_held.proofs.NotedLemmas.{noted-more, noted-one}
use Rattle.rev_held.proofs.linked.cell_of.Goals as goal

pub returns-clause-noted : goal.returns-clause-noted
returns-clause-noted c = λ n.
    let t = c.args.history.now.timeline in
    noted-more t c.args.other n c.in_ok-named.named (nat_eq c.args.other n)
    (lookup (nat_eq n) c.args.noted.now.cells.entries) (lookup (nat_eq n) c.insert.new.self.entries) refl
    (c.in_ok-insert.ensures.updates.0 n)
    (noted-one t c.args.other c.in-Some.second c.in_ok-named.named.keys c.in-Some.ensures c.in_ok-named.ensures)
    (c.requires n)
