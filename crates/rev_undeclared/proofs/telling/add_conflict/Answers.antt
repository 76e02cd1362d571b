use Rattle.std.proofs.Common.{ℕ, ◌∷◌, [], sym, ◌∙◌}
use Rattle.rev_undeclared.proofs.StrongerLemmas.{one-user, two-users}
use Rattle.rev_undeclared.proofs.telling.add_conflict.Goals as goal

pub returns-in_ok-add-2 : goal.returns-in_ok-add-2
returns-in_ok-add-2 c = λ user path.
    two-users c.args.conflict.now c.in-File.path user path c.in-File.is (sym c.is_clash.ensures ∙ c.if-is_clash.true) (c.in_ok-add.ensures (user ∷ path ∷ [])) (c.in_ok-add-2.ensures (user ∷ path ∷ []))

pub returns-else-is_clash : goal.returns-else-is_clash
returns-else-is_clash c = λ user path.
    one-user c.args.conflict.now c.in-File.path user path c.in-File.is (sym c.is_clash.ensures ∙ c.if-is_clash.false) (c.in_ok-add.ensures (user ∷ path ∷ []))
