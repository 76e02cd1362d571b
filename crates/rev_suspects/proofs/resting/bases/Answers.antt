use Rattle.rev_races.proofs.JudgedLemmas.{mapped-more}
use Rattle.rev_suspects.specs.Bases.{basis_of}
use Rattle.rev_suspects.proofs.resting.bases.Goals as goal

pub loop-edge-preserved : goal.loop-edge-preserved
loop-edge-preserved c =
    mapped-more (basis_of c.args.history.now.timeline) c.loop-edge.edge c.loop-edge.bases.items c.push.new.self.items _ c.loop-edge.invariant
    c.in_ok-push.ensures.items c.basis_at.ensures
