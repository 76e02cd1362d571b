use Rattle.rev_footprint.proofs.AddsLemmas.{adds-one}
use Rattle.rev_footprint.proofs.reads.add.Goals as goal

pub returns : goal.returns
returns c = adds-one c.args.reads.now.keys c.insert.new.self.keys c.args.cell c.in_ok-insert.ensures.updates.0
