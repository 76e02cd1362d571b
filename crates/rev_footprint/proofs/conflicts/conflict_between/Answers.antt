use Rattle.std.proofs.Common.{sym, ◌∙◌}
use Rattle.rev_footprint.proofs.ConflictLemmas.{first_whole, first_writes, second_whole, second_writes}
use Rattle.rev_footprint.proofs.conflicts.conflict_between.Goals as goal

pub returns-then-reads_all : goal.returns-then-reads_all
returns-then-reads_all g c =
    first_whole (g.F.HasCells.footprint c.args.first.now) (g.G.HasCells.footprint c.args.second.now) (sym c.reads_all.ensures ∙ c.if-reads_all.true)

pub returns-then-reads_all-2 : goal.returns-then-reads_all-2
returns-then-reads_all-2 g c =
    second_whole (g.F.HasCells.footprint c.args.first.now) (g.G.HasCells.footprint c.args.second.now) (sym c.reads_all-2.ensures ∙ c.if-reads_all-2.true)

pub returns-then-writes_to : goal.returns-then-writes_to
returns-then-writes_to g c =
    first_writes (g.F.HasCells.footprint c.args.first.now) (g.G.HasCells.footprint c.args.second.now) c.writes_to.result (sym c.reads_all.ensures ∙ c.if-reads_all.false)
    (sym c.reads_all-2.ensures ∙ c.if-reads_all-2.false) c.writes_to.ensures c.if-writes_to.true

pub returns : goal.returns
returns g c =
    second_writes (g.F.HasCells.footprint c.args.first.now) (g.G.HasCells.footprint c.args.second.now) c.writes_to.result (sym c.reads_all.ensures ∙ c.if-reads_all.false)
    (sym c.reads_all-2.ensures ∙ c.if-reads_all-2.false) c.writes_to.ensures c.writes_to-2.result c.if-writes_to.false c.writes_to-2.ensures
