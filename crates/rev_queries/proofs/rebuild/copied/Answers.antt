use Rattle.std.proofs.Common.{ap, subst, ◌∙◌}
use Rattle.std.specs.List.{AllByRecursion}
use Rattle.rev_cells.specs.Effects.{set_all}
use Rattle.rev_cells.specs.State.{State, value_at}
use Rattle.rev_queries.specs.Rebuilds.{EntryFits}
use Rattle.rev_queries.proofs.CopyLemmas.{copy-alike}
use Rattle.rev_queries.proofs.rebuild.copied.Goals as goal

pub returns : goal.returns
returns c = λ q.
    ap (λ (state : State). value_at state q)
    (c.in_ok-write_all.ensures.state ∙ (λ j. set_all (c.in_ok-copy.ensures j) (c.in_ok-entries.ensures.entries j)))
    ∙ copy-alike c.args.cells.now.state c.args.cells.now.places
    (subst (AllByRecursion EntryFits) c.in_ok-entries.ensures.entries c.in_ok-entries.ensures.fits)
    c.in_ok-entries.ensures.all q
