use Rattle.std.proofs.Common.{arith}
use Rattle.rev_named.specs.Named.{known_in, noted}
use Rattle.rev_named.proofs.NamedLemmas.{noted-last, noted-more}
use Rattle.rev_named.proofs.components.LastComponents.add_all.Goals as goal

pub loop-path-preserved : goal.loop-path-preserved
loop-path-preserved c = λ last.
    let builds = c.args.graph.now.manifest.builds in
    noted-more builds last c.args.paths.now c.loop-path.path-index c.path-item.result (known_in c.loop-path.self last) (known_in c.add.new.self last)
    (noted builds last (known_in c.args.self.now last) c.args.paths.now) c.loop-path-test.true c.path-item.is (c.in_ok-add.ensures last) (c.loop-path.invariant last)

pub returns : goal.returns
returns c = λ last.
    let builds = c.args.graph.now.manifest.builds in
    noted-last builds last c.args.paths.now c.loop-path.path-index (known_in c.loop-path.self last) (noted builds last (known_in c.args.self.now last) c.args.paths.now)
    (omega (arith, c.loop-path-test.false)) (c.loop-path.invariant last)
