use Rattle.std.proofs.Common.{◌≡◌, ℕ, ◌-◌, length, drop, ap, ◌∙◌, arith}
use Rattle.rev_looked.specs.Commands.{number_from}
use Rattle.rev_looked.proofs.commands.numbers_of.Goals as goal

pub returns-clause-each : goal.returns-clause-each
returns-clause-each c = λ edge within.
    let all : length c.args.edges.now - c.loop-passed.passed ≡ 0 = omega arith in
    c.loop-passed.invariant.1 edge within
    ∙ ap (λ (n : ℕ). number_from n (drop n c.args.edges.now) edge) all
