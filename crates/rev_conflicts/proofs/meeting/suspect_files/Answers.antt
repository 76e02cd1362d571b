use Rattle.std.proofs.Common.{Contains, ◌⊎◌, ap, ◌∙◌}
use Rattle.rev_conflicts.specs.Ranges.{has_path}
use Rattle.rev_ranks.specs.Graph.{graph_of, successors_of}
use Rattle.rev_conflicts.specs.Tables.{AreQuiet}
use Rattle.rev_conflicts.proofs.MeetLemmas.{through, uses-file}
use Rattle.rev_conflicts.proofs.meeting.suspect_files.Goals as goal

pub returns : goal.returns
returns c = λ n h.
    let k2 = c.in_ok-add_all_suspects-2.ensures.kept n in
    let k3 = c.in_ok-add_all_suspects-3.ensures.kept n in
    let k4 = c.in_ok-add_all_suspects-4.ensures.kept n in
    let k5 = c.in_ok-add_all_suspects-5.ensures.kept n in
    let k6 = c.in_ok-add_all_suspects-6.ensures.kept n in
    uses-file c.args.command.now n
    (Contains c.add_all_suspects-6.new.suspects.items n ⊎ AreQuiet c.args.graph.now.manifest.builds c.args.edges.now c.args.user (successors_of (graph_of c.args.files.now.lists.items) n))
    (λ r. through (λ x. k6 (k5 (k4 (k3 (k2 x))))) (c.in_ok-add_all_suspects.ensures.rest n (ap (λ rs. has_path rs n) c.paths.ensures ∙ r)))
    (λ r. through (λ x. k6 (k5 (k4 (k3 x)))) (c.in_ok-add_all_suspects-2.ensures.rest n (ap (λ rs. has_path rs n) c.paths-2.ensures ∙ r)))
    (λ r. through (λ x. k6 (k5 (k4 x))) (c.in_ok-add_all_suspects-3.ensures.rest n (ap (λ rs. has_path rs n) c.paths-3.ensures ∙ r)))
    (λ r. through (λ x. k6 (k5 x)) (c.in_ok-add_all_suspects-4.ensures.rest n (ap (λ rs. has_path rs n) c.paths-4.ensures ∙ r)))
    (λ r. through (λ x. k6 x) (c.in_ok-add_all_suspects-5.ensures.rest n (ap (λ rs. has_path rs n) c.paths-5.ensures ∙ r)))
    (λ r. c.in_ok-add_all_suspects-6.ensures.rest n (ap (λ rs. has_path rs n) c.paths-6.ensures ∙ r)) h
