use Rattle.std.proofs.Common.{[], List, ◌++◌, length, get_or, ap, ◌∙◌}
use Rattle.std.proofs.lemmas.List.{get_or_default}
use Rattle.rev_observation.specs.Blocks.{CommandValue, new_command}
use Rattle.rev_certificate.specs.Obstacles.{of_command, of_flags}
use Rattle.rev_certificate.proofs.CertificateLemmas.{flat-more}
use Rattle.rev_certificate.proofs.standing.add_of_commands.Goals as goal

pub loop-number-preserved : goal.loop-number-preserved
loop-number-preserved c =
    let n = c.loop-number.number in
    flat-more (of_command c.args.observation.now) n c.args.obstacles.now.items c.loop-number.obstacles.items c.add_flags.new.obstacles.items c.loop-number.invariant
    (c.in_ok-add_flags.ensures
    ∙ ap (λ ys. c.loop-number.obstacles.items ++ of_flags n (length ys))
    (c.flags-flags.ensures
    ∙ ap (λ (v : CommandValue). v.flags)
    (c.index-commands-number.is ∙ get_or_default c.commands-commands.result.now n c.index-commands-number.result (new_command []) c.loop-number-test.true
    ∙ ap (λ (cs : List CommandValue). get_or cs n (new_command [])) c.commands-commands.ensures.same)))
