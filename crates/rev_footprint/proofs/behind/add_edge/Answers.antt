use Rattle.std.proofs.Common.{[], Option, sym, subst}
use Rattle.std.specs.List.{cons_option}
use Rattle.std.proofs.Common.{ℕ}
use Rattle.rev_footprint.specs.Behind.{Grows}
use Rattle.rev_footprint.proofs.BehindLemmas.{grows-one}
use Rattle.rev_footprint.proofs.behind.add_edge.Goals as goal

pub returns-in_ok-insert-in-Some : goal.returns-in_ok-insert-in-Some
returns-in_ok-insert-in-Some c =
    subst (λ (o : Option ℕ). Grows c.args.edges.now.keys c.insert.new.self.keys (cons_option o [])) (sym c.in-Some.is)
    (grows-one c.args.edges.now.keys c.insert.new.self.keys c.in-Some.edge c.in_ok-insert-in-Some.ensures.keys)
