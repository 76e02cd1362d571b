use Rattle.std.proofs.Common.{Some, None, ap, ◌∙◌}
use Rattle.std.specs.Prelude.{if◌then◌else◌}
use Rattle.std.specs.Option.{option_or}
use Rattle.rev_held.proofs.FirstLemmas.{firsts-more}
use Rattle.rev_held.proofs.firsts.add.Goals as goal

pub returns : goal.returns
returns c t others kept noted =
    firsts-more t others c.args.number c.args.footprint.now c.reads.result c.writes.result c.args.firsts.now
    (record { named = c.put_all.new.firsts; written = c.put_all-2.new.firsts; plan = c.or_where-firsts.result; kept = c.or_where-firsts-2.result }) kept
    c.writes.ensures.same c.reads.ensures.same c.reads.ensures.first noted c.in_ok-put_all.ensures c.in_ok-put_all-2.ensures
    (c.or_where-firsts.ensures ∙ ap (λ b. option_or c.args.firsts.now.plan (if b then Some c.args.number else None)) c.whole.ensures) c.or_where-firsts-2.ensures
