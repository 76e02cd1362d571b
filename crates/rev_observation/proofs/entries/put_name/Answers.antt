use Rattle.std.proofs.Common.{◌≡◌, true, is_some, ap, ◌∙◌, sym}
use Rattle.rev_observation.specs.Entries.{has_name}
use Rattle.rev_observation.proofs.CommandLemmas.{has_name-there}
use Rattle.rev_observation.proofs.EntryLemmas.{name_put-double}
use Rattle.rev_observation.proofs.entries.put_name.Goals as goal

pub returns-then-is_some-clause-said : goal.returns-then-is_some-clause-said
returns-then-is_some-clause-said c =
    let path = c.args.path.now in
    let has : has_name c.args.names.now path ≡ true = has_name-there path c.args.names.now (ap is_some (sym c.find.ensures.place) ∙ sym c.is_some.ensures ∙ c.if-is_some.true) in
    name_put-double (record { names = c.args.names.now; entries = c.args.entries.now.items }) path c.args.entry has
