use Rattle.std.proofs.Common.{◌≡◌, ◌<◌, List, length, true, Ok, arith, ap, ◌∙◌, sym, subst}
use Rattle.rev_observed.specs.declared.path_set.PathRange.{PathRange}
use Rattle.rev_observed.specs.Within.{RangesAreWithin, are_within}
use Rattle.rev_observed.proofs.SetLemmas.{set_made, within}
use Rattle.rev_observation.proofs.statements.set.Goals as goal

pub returns-in-Some-clause-set : goal.returns-in-Some-clause-set
returns-in-Some-clause-set c =
    let ranges = c.args.ranges.items in
    let inside : are_within c.args.count ranges ≡ true = ap (are_within c.args.count) (sym c.deref.ensures.value) ∙ sym c.are_within.ensures ∙ c.if-not-are_within.false in
    let some : 0 < length ranges = grind (arith, c.is_empty.ensures, c.if-is_empty.false, c.args.ranges.ok.0) in
    set_made c.args.count ranges some (sym c.in-Some.ensures.rising) inside ∙ ap Ok (sym c.in-Some.ensures.set)

pub returns-in-Some-clause-within : goal.returns-in-Some-clause-within
returns-in-Some-clause-within c =
    let ranges = c.args.ranges.items in
    let inside : are_within c.args.count ranges ≡ true = ap (are_within c.args.count) (sym c.deref.ensures.value) ∙ sym c.are_within.ensures ∙ c.if-not-are_within.false in
    let P : List PathRange → Type 0 = λ rs. RangesAreWithin c.args.count rs in
    subst P (sym c.in-Some.ensures.set) (within c.args.count ranges inside)
