use Rattle.std.proofs.Common.{ℕ, ◌<◌, length, subst}
use Rattle.std.specs.Global.{Vec}
use Rattle.std.specs.List.{All}
use Rattle.rev_manifest.specs.Manifest.{ManifestValue}
use Rattle.rev_suspects.proofs.SuspectLemmas.{found-first}
use Rattle.rev_suspects.proofs.suspected.put_each.Goals as goal

pub go_over-requires-clause-inside : goal.go_over-requires-clause-inside
go_over-requires-clause-inside c =
    subst (λ (m : ManifestValue). All (λ (v : Vec ℕ). All (λ s. s < length m.builds) v.items) c.in_ok-ways.ways.back.items) c.graph.ensures c.in_ok-ways.ensures.inside

pub go_over-requires-clause-lists : goal.go_over-requires-clause-lists
go_over-requires-clause-lists c = found-first c.args.history.now.timeline c.args.files.now c.args.failures.now c.args.lists.now.items c.requires.each c.requires.empty
