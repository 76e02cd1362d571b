use Rattle.std.proofs.Common.{List, ℕ, ap, subst₂, cond, ◌∙◌}
use Rattle.rev_causal.specs.Chosen.{without}
use Rattle.rev_causal.specs.Store.{among}
use Rattle.std.specs.Ordering.{nat_cmp}
use Rattle.rev_accesses.specs.declared.users.Access.TheVariants.{Read, Write}
use Rattle.rev_accesses.specs.Users.{listed}
use Rattle.rev_accesses.specs.Value.{AccessesValue, TakenFrom}
use Rattle.rev_accesses.proofs.accesses.Accesses.take_from.Goals as goal

pub returns-clause-written : goal.returns-clause-written
returns-clause-written c =
    subst₂ (λ (a : AccessesValue) (ps : List ℕ). TakenFrom c.args.number ps a.writers (listed Write c.take_all-2.new.index.items)) c.self.view_is c.written-writes.ensures
    (λ (q : ℕ). c.take_all-2.ensures.taken q
    ∙ ap (λ (ks : List ℕ). cond (among nat_cmp c.written-writes.result.now q) (without c.args.number ks) ks) (c.take_all.ensures.rest q))

pub returns-clause-read : goal.returns-clause-read
returns-clause-read c =
    subst₂ (λ (a : AccessesValue) (ps : List ℕ). TakenFrom c.args.number ps a.readers (listed Read c.take_all-2.new.index.items)) c.self.view_is c.read-reads.ensures
    (λ (q : ℕ). c.take_all-2.ensures.rest q ∙ c.take_all.ensures.taken q)
