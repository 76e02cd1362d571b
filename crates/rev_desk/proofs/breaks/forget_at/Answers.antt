use Rattle.std.proofs.Common.{◌≡◌, Option, Some, None, cond, ap, sym, ◌∙◌}
use Rattle.rev_causal.specs.Chosen.{without}
use Rattle.rev_desk.specs.declared.break_key.BreakKey.{BreakKey}
use Rattle.rev_desk.specs.Breaks.{listed_at}
use Rattle.rev_desk.specs.BreakKeys.{both_same}
use Rattle.rev_desk.proofs.breaks.forget_at.Goals as goal

pub returns-in-Some-clause-ok : goal.returns-in-Some-clause-ok
returns-in-Some-clause-ok c = λ s.
    c.forget.ensures s
    ∙ ap (λ (o : Option BreakKey). cond (both_same o (Some s)) (without c.args.number (listed_at c.args.break_keys.now.entries s)) (listed_at c.args.break_keys.now.entries s)) (sym c.in-Some.is ∙ c.in_ok-break_key.ensures)

pub returns-in-None-clause-ok : goal.returns-in-None-clause-ok
returns-in-None-clause-ok c = λ s.
    ap (λ (o : Option BreakKey). cond (both_same o (Some s)) (without c.args.number (listed_at c.args.break_keys.now.entries s)) (listed_at c.args.break_keys.now.entries s)) (sym c.in-None.is ∙ c.in_ok-break_key.ensures)
