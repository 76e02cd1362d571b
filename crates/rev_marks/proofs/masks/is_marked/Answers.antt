use Rattle.std.proofs.Common.{nat_eq, sym, ap, ◌∙◌}
use Rattle.std.proofs.lemmas.Nat.Bits.{shr_and_one}
use Rattle.rev_marks.specs.Masks.{has_mark, or_none}
use Rattle.rev_marks.proofs.MaskLemmas.{mark-none}
use Rattle.rev_marks.proofs.masks.is_marked.Goals as goal

pub returns-in-Some : goal.returns-in-Some
returns-in-Some c =
    ap (λ n. nat_eq n 1) (shr_and_one c.in-Some.mask.now c.args.place) ∙ ap (λ o. has_mark c.args.place (or_none o)) c.in-Some.ensures.value

pub returns-in-None : goal.returns-in-None
returns-in-None c = sym (mark-none c.args.place) ∙ ap (λ o. has_mark c.args.place (or_none o)) c.in-None.ensures.value
