use Rattle.std.proofs.Common.{◌≡◌, ℕ, List, [], ◌∷◌, ◌++◌, ap, sym, ◌∙◌, is_some, cond, Some}
use Rattle.std.specs.Map.{lookup}
use Rattle.rev_desk.specs.Breaks.{items_of}
use Rattle.rev_desk.proofs.BreakKeyLemmas.{listed_by_eq, listed-update, listed-same, on_err, break_key_eq}
use Rattle.rev_desk.proofs.breaks.note.Goals as goal

pub returns-in_err-push-in-Some-clause-err : goal.returns-in_err-push-in-Some-clause-err
returns-in_err-push-in-Some-clause-err c =
    let held = c.get_mut.follows.holds c.push.new.self in
    let there = sym (ap is_some c.in-Some.ensures.value) in
    on_err c.from_residual.result _ (listed-same c.args.break_keys.now.entries (c.get_mut.follows.lender c.push.new.self).entries c.args.break_key c.push.new.self
    (λ q. (held.3 there).0 q)
    (c.in_err-push-in-Some.ensures.items ∙ ap items_of c.in-Some.ensures.value ∙ listed_by_eq c.args.break_keys.now.entries c.args.break_key))

pub returns-in_ok-push-in-Some-clause-ok : goal.returns-in_ok-push-in-Some-clause-ok
returns-in_ok-push-in-Some-clause-ok c =
    let held = c.get_mut.follows.holds c.push.new.self in
    let there = sym (ap is_some c.in-Some.ensures.value) in
    listed-update c.args.break_keys.now.entries (c.get_mut.follows.lender c.push.new.self).entries c.args.break_key c.push.new.self (λ ns. ns ++ c.args.number ∷ [])
    (λ q. (held.3 there).0 q)
    (c.in_ok-push-in-Some.ensures.items ∙ ap (λ (ns : List ℕ). ns ++ c.args.number ∷ []) (ap items_of c.in-Some.ensures.value ∙ listed_by_eq c.args.break_keys.now.entries c.args.break_key))

pub returns-in_ok-insert-in-None-clause-ok : goal.returns-in_ok-insert-in-None-clause-ok
returns-in_ok-insert-in-None-clause-ok c =
    listed-update c.args.break_keys.now.entries c.insert.new.self.entries c.args.break_key c.push-in-None.new.self (λ ns. ns ++ c.args.number ∷ [])
    (λ q. c.in_ok-insert-in-None.ensures.updates.0 q ∙ ap (λ m. cond (break_key_eq c.args.break_key q) (Some c.push-in-None.new.self) (lookup (break_key_eq q) m.entries)) c.get_mut.follows.holds-at-none)
    (c.in_ok-push-in-None.ensures.items
    ∙ ap (λ (ns : List ℕ). ns ++ c.args.number ∷ []) (c.new-numbers.ensures.items ∙ ap items_of c.in-None.ensures.value ∙ listed_by_eq c.args.break_keys.now.entries c.args.break_key))
