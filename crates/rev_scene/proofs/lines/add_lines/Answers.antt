use Rattle.std.proofs.Common.{length, take, ◌++◌, ap, ◌∙◌, arith, ◌≡◌}
use Rattle.std.proofs.Math.Seq.{take-length}
use Rattle.rev_scene.specs.Lines.{acts_of, acts_of_line}
use Rattle.rev_scene.proofs.SceneLemmas.{added-more}
use Rattle.rev_scene.proofs.lines.add_lines.Goals as goal

pub loop-line-preserved : goal.loop-line-preserved
loop-line-preserved c =
    added-more acts_of_line c.args.lines.now c.loop-line.line-index c.line-item.result c.args.deeds.now.items c.loop-line.deeds.items c.add_line.new.deeds.items c.loop-line-test.true c.line-item.is c.loop-line.invariant
    c.in_ok-add_line.ensures

pub returns : goal.returns
returns c =
    let all : c.loop-line.line-index ≡ length c.args.lines.now = omega (arith, c.loop-line-test.false, c.loop-line.auto.line-index-end) in
    c.loop-line.invariant ∙ ap (λ ls. c.args.deeds.now.items ++ acts_of ls) (ap (λ n. take n c.args.lines.now) all ∙ take-length c.args.lines.now)
