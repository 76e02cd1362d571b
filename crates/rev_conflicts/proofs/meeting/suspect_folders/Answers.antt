use Rattle.std.proofs.Common.{ap, ◌∙◌}
use Rattle.rev_conflicts.specs.Ranges.{has_path}
use Rattle.rev_conflicts.proofs.meeting.suspect_folders.Goals as goal

pub returns : goal.returns
returns c = λ n h. c.in_ok-add_all_suspects.ensures.rest n (ap (λ rs. has_path rs n) c.paths.ensures ∙ h)
