use Rattle.rev_witness.proofs.RaceLemmas.{race_has_one}
use Rattle.rev_witness.proofs.found.find_witness.Goals as goal

pub returns-clause-race : goal.returns-clause-race
returns-clause-race c = λ files opening events path race.
    race_has_one c.args.graph.now c.edges-edges.ensures.graph files opening events c.args.user c.args.maker path c.found_between.result c.found_between.ensures.found race
