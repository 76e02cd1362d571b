use Rattle.std.proofs.Common.{◌≡◌, ◌-◌, ◌≤◌, Some, Ok, ap, ◌∙◌, arith}
use Rattle.rev_manifest.proofs.ParallelLemmas.{both-ended}
use Rattle.rev_manifest.proofs.parallel.joined.Goals as goal

pub returns : goal.returns
returns c = λ scopes pools front back one two.
    (let first = c.in-Some.first in
    let second = c.in-Some-2.second in
    let is-one : c.args.earlier ≡ Ok (Some first) = c.in_ok-first.was ∙ ap Ok c.in-Some.is in
    let is-two : c.args.later ≡ Ok (Some second) = c.in_ok-second.was ∙ ap Ok c.in-Some-2.is in
    let made = c.in-Some-checked_sub.ensures in
    let left = c.in-Some-checked_sub-2.ensures in
    let fits : c.args.room - second.left ≤ first.left = omega (arith, made.0, made.1, left.0) in
    rw (left.1, made.1, c.in_ok-append.ensures.items)
    (both-ended scopes pools c.args.room first.left second.left front back first.builds.items second.builds.items (rw is-one at one) (rw is-two at two) fits))
