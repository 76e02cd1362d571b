use Rattle.std.proofs.Common.{◌≡◌, List, ℕ, length, take, subst, ap, ◌∙◌, arith}
use Rattle.std.proofs.Math.Seq.{take-length}
use Rattle.rev_unlisted.specs.Found.{IsMarked}
use Rattle.rev_unlisted.proofs.MarkLemmas.{marked-next, marked-none}
use Rattle.rev_unlisted.proofs.marking.mark_names.Goals as goal

pub loop-name-init : goal.loop-name-init
loop-name-init c = record { last = omega arith; nexts = c.requires.nexts; marks = marked-none c.args.paths.now c.args.user c.args.marks.now.items }

pub mark_name-last-requires-clause-marks : goal.mark_name-last-requires-clause-marks
mark_name-last-requires-clause-marks c = c.loop-name.invariant.marks.each ∙ c.requires.marks

pub loop-name-preserved : goal.loop-name-preserved
loop-name-preserved c = record {
  last = c.mark_name-last.ensures.last;
  nexts = c.mark_name-last.ensures.nexts;
  marks =
      marked-next c.args.paths.now c.args.user c.args.names.now c.loop-name.name-index c.name-item.result c.args.marks.now.items c.loop-name.marks.items c.mark_name-last.new.marks.items c.loop-name-test.true c.name-item.is
      c.loop-name.invariant.marks c.mark_name-last.ensures.marks;
}

pub returns-clause-marks : goal.returns-clause-marks
returns-clause-marks c =
    let all : c.loop-name.name-index ≡ length c.args.names.now = omega (arith, c.loop-name-test.false, c.loop-name.auto.name-index-end) in
    subst (λ (l : List (List ℕ)). IsMarked c.args.paths.now c.args.user l c.args.marks.now.items c.loop-name.marks.items) (ap (λ n. take n c.args.names.now) all ∙ take-length c.args.names.now) c.loop-name.invariant.marks
