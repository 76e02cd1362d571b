use Rattle.std.proofs.Common.{ap, ◌∙◌}
use Rattle.rev_named.specs.Named.{known_in, met}
use Rattle.rev_named.proofs.NamedLemmas.{note-is}
use Rattle.rev_named.proofs.components.LastComponents.add.Goals as goal

pub returns : goal.returns
returns c = λ last.
    note-is c.args.graph.now.manifest.builds c.args.self.now c.in_ok-last.last c.args.path.now last c.met-maker.result (known_in c.put.new.self last) c.in_ok-last.ensures
    (c.met-maker.ensures ∙ ap (met (known_in c.args.self.now c.in_ok-last.last)) c.producer.ensures.value) (c.in_ok-put.ensures last)
