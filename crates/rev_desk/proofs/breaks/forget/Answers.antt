use Rattle.std.proofs.Common.{◌≡◌, ℕ, List, Bool, true, Option, Some, None, ap, sym, ◌∙◌, subst, is_some, refl}
use Rattle.std.specs.declared.alloc.Global.{Global}
use Rattle.std.specs.declared.vec.Vec.{Vec}
use Rattle.rev_causal.specs.Chosen.{IsRising, without}
use Rattle.rev_desk.specs.Breaks.{items_of, listed_at}
use Rattle.rev_desk.proofs.BreakKeyLemmas.{listed_by_eq, listed-update}
use Rattle.rev_desk.proofs.breaks.forget.Goals as goal

pub take_out-requires : goal.take_out-requires
take_out-requires c = record {
  rising = subst IsRising (sym (ap items_of c.in-Some.ensures.value ∙ listed_by_eq c.args.break_keys.now.entries c.args.break_key.now)) c.requires;
}

pub returns-in-Some : goal.returns-in-Some
returns-in-Some c =
    let held = c.get_mut.follows.holds c.take_out.new.numbers in
    let there = sym (ap is_some c.in-Some.ensures.value) in
    listed-update c.args.break_keys.now.entries (c.get_mut.follows.lender c.take_out.new.numbers).entries c.args.break_key.now c.take_out.new.numbers (without c.args.number)
    (λ q. (held.3 there).0 q)
    (c.take_out.ensures ∙ ap (without c.args.number) (ap items_of c.in-Some.ensures.value ∙ listed_by_eq c.args.break_keys.now.entries c.args.break_key.now))
