use Rattle.std.proofs.Common.{◌≡◌, ℕ, Option, List, true, is_some, length, ap, ◌∙◌, sym, subst}
use Rattle.rev_observation.specs.Entries.{AreBelow, has_name}
use Rattle.rev_observation.proofs.CommandLemmas.{has_name-there}
use Rattle.rev_observation.proofs.EntryLemmas.{entry_put-double, folders-more}
use Rattle.rev_observation.proofs.entries.put_entry.Goals as goal

pub returns-then-is_some-clause-said : goal.returns-then-is_some-clause-said
returns-then-is_some-clause-said c =
    let path = c.args.path.now in
    let has : has_name c.args.paths.now path ≡ true = has_name-there path c.args.paths.now (ap is_some (sym c.find.ensures.place) ∙ sym c.is_some.ensures ∙ c.if-is_some.true) in
    entry_put-double (record { paths = c.args.paths.now; folders = c.args.folders.now.items }) path c.args.folder has

pub returns-in-Ok-clause-sound : goal.returns-in-Ok-clause-sound
returns-in-Ok-clause-sound c =
    let P : List (Option ℕ) → Type 0 = λ fs. AreBelow 0 fs in
    subst P (sym c.in_ok-push.ensures.items) (folders-more (length c.args.paths.now) c.args.folders.now.items c.args.folder c.requires.each c.requires.below c.requires.sound)
