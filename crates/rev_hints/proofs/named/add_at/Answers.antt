use Rattle.std.proofs.Common.{Contains, ◌⊎◌}
use Rattle.std.specs.Prelude.{◌↔◌}
use Rattle.rev_races.proofs.KeyLemmas.{either-more, ok-then}
use Rattle.rev_hints.specs.declared.named.NameHint.{NameHint}
use Rattle.rev_hints.specs.Names.{IsHintAt, IsHintBy}
use Rattle.rev_hints.proofs.NameLemmas.{by-path}
use Rattle.rev_hints.proofs.named.add_at.Goals as goal

pub returns-clause-hints : goal.returns-clause-hints
returns-clause-hints c =
    let builds = c.args.graph.now.manifest.builds in
    let files = c.args.files.now in
    let names = c.args.names.now.entries in
    let whole = c.args.whole.now in
    let user = c.args.user in
    let place = c.args.place in
    let path = c.args.path.now in
    let output = c.in-Some.output.now in
    ok-then ((h : NameHint) → Contains c.add_by.new.hints.items h ↔ (Contains c.args.hints.now.items h ⊎ IsHintBy builds files whole user place output h))
    ((h : NameHint) → Contains c.add_by.new.hints.items h ↔ (Contains c.args.hints.now.items h ⊎ IsHintAt builds files names whole user place path h))
    (λ by h. either-more (by h) (by-path builds files whole user place names path output h c.in-Some.ensures.value)) c.add_by.result c.add_by.ensures.hints
