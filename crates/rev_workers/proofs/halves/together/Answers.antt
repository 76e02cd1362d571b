use Rattle.std.proofs.Common.{rules, ◌≡◌, ◌++◌, sym, subst}
use Rattle.rev_workers.specs.Running.{Covers, lesser}
use Rattle.rev_workers.proofs.Covered.{all-from, covers-lost-both, covers-together}
use Rattle.rev_workers.proofs.Told.{each-under, none-under}
use Rattle.rev_workers.proofs.halves.together.Goals as goal

pub returns-then-is_err-clause-ran : goal.returns-then-is_err-clause-ran
returns-then-is_err-clause-ran g c = λ js ks is earlier later.
    rw c.clear.ensures.items (covers-lost-both c.least_of.result c.args.numbers.now js ks (all-from c.least_of.result c.args.numbers.now c.least_of.ensures.least) is)

pub returns-clause-ran : goal.returns-clause-ran
returns-clause-ran g c = λ js ks is earlier later.
    let both = covers-together c.args.earlier.1 c.args.later.1 js ks c.args.earlier.0.items c.args.later.0.items earlier later in
    let items : c.append.new.self.items ≡ c.args.earlier.0.items ++ c.args.later.0.items = search rules in
    subst (λ o. Covers o (js ++ ks) c.append.new.self.items) (sym c.lesser.ensures)
    (subst (Covers (lesser c.args.earlier.1 c.args.later.1) (js ++ ks)) (sym items) both)

pub returns-then-is_err-clause-under : goal.returns-then-is_err-clause-under
returns-then-is_err-clause-under g c =
    none-under c.least_of.result c.args.earlier.1 c.args.later.1 c.args.numbers.now
    (all-from c.least_of.result c.args.numbers.now c.least_of.ensures.least)

pub returns-clause-under : goal.returns-clause-under
returns-clause-under g c = each-under c.args.earlier.1 c.args.later.1 _ c.args.numbers.now c.lesser.ensures
