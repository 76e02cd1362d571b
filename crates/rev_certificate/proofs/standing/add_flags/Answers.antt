use Rattle.rev_certificate.specs.declared.obstacle.Obstacle.TheVariants as obstacle
use Rattle.rev_certificate.proofs.CertificateLemmas.{mapped-more}
use Rattle.rev_certificate.proofs.standing.add_flags.Goals as goal

pub loop-flag-preserved : goal.loop-flag-preserved
loop-flag-preserved c =
    mapped-more (obstacle.Flagged c.args.command) c.loop-flag.flag c.args.obstacles.now.items c.loop-flag.obstacles.items c.push.new.self.items c.loop-flag.invariant c.in_ok-push.ensures.items
