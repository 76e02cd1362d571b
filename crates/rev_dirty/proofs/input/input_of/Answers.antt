use Rattle.rev_dirty.proofs.InputLemmas.{is-edge}
use Rattle.rev_dirty.proofs.input.input_of.Goals as goal

pub phony_producer-through-requires : goal.phony_producer-through-requires
phony_producer-through-requires c = is-edge c.args.graph.now.manifest.builds c.args.path.now c.args.producer c.requires
