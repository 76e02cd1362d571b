use Rattle.rev_marks.proofs.MaskLemmas.{mark-one}
use Rattle.rev_marks.proofs.masks.with_mark.Goals as goal

pub returns : goal.returns
returns c = λ i. mark-one c.args.marks c.args.place i c.requires
