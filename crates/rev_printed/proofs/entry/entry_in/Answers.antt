use Rattle.std.proofs.Common.{◌≡◌, nat_lt, length, true, false}
use Rattle.rev_printed.proofs.EntryLemmas.{fewer-fields, more-fields}
use Rattle.rev_printed.proofs.entry.entry_in.Goals as goal
use Rattle.rev_printed.proofs.entry.entry_in.Goals.{in_default-via-then-texts-lt5, in_default-via-else-texts-lt5+else-texts-lt6}

pub returns-in_default : goal.returns-in_default
returns-in_default c = elim c.in_default.branch [
  | in_default-via-then-texts-lt5 w ↦
      let few : nat_lt (length c.args.texts.now) 5 ≡ true = w.if-texts-lt5-1.true in
      fewer-fields c.args.graph.now.manifest.builds c.args.texts.now few
  | in_default-via-else-texts-lt5+else-texts-lt6 w ↦
      let many : nat_lt (length c.args.texts.now) 6 ≡ false = w.if-texts-lt6-1.false in
      more-fields c.args.graph.now.manifest.builds c.args.texts.now many
]
