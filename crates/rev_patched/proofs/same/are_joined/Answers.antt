use Rattle.std.proofs.Common.{sym, ◌∙◌}
use Rattle.rev_patched.proofs.SameLemmas.{joined-else, joined-then}
use Rattle.rev_patched.proofs.same.are_joined.Goals as goal

pub returns-then-eq : goal.returns-then-eq
returns-then-eq c =
    c.eq-then-eq.ensures
    ∙ joined-then c.args.first.now c.args.second.now c.args.all.now _ _ c.split_at.ensures.front c.split_at.ensures.back c.if-all-first.false (sym c.eq.ensures ∙ c.if-eq.true)

pub returns-else-eq : goal.returns-else-eq
returns-else-eq c =
    c.if-eq.false
    ∙ joined-else c.args.first.now c.args.second.now c.args.all.now _ c.split_at.ensures.front c.if-all-first.false (sym c.eq.ensures ∙ c.if-eq.false)
