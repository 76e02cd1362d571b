use Rattle.std.proofs.Common.{sym}
use Rattle.rev_unlisted.proofs.MarkLemmas.{marked-one}
use Rattle.rev_unlisted.proofs.marking.mark_name.Goals as goal

pub returns-clause-marks : goal.returns-clause-marks
returns-clause-marks c =
    marked-one c.args.paths.now c.args.user c.args.name.now c.in-Some.path c.args.marks.now.items c.requires.marks c.in-Some.ensures.within (sym c.in-Some.ensures.place)
