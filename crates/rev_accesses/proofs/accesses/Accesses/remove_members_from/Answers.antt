use Rattle.std.proofs.Common.{List, ℕ, subst}
use Rattle.rev_accesses.specs.declared.users.Access.TheVariants.{Read, Write}
use Rattle.rev_accesses.specs.Thinned.{AreThinnedUnder, IsGoneUnder}
use Rattle.rev_accesses.specs.Users.{listed}
use Rattle.rev_accesses.specs.Value.{AccessesValue}
use Rattle.rev_accesses.proofs.ThinnedLemmas.{gone_before, thinned_before, thinned_behind}
use Rattle.rev_accesses.proofs.accesses.Accesses.remove_members_from.Goals as goal

pub returns-clause-writers : goal.returns-clause-writers
returns-clause-writers c =
    subst (λ (a : AccessesValue). AreThinnedUnder c.args.members.now a.writers (listed Write c.remove_members_at-2.new.index.items)) c.self.view_is
    (thinned_behind c.args.members.now (listed Write c.self.inside.users.items) (listed Write c.remove_members_at.new.index.items) (listed Write c.remove_members_at-2.new.index.items)
    c.remove_members_at.ensures.rest c.remove_members_at-2.ensures.thinned)

pub returns-clause-readers : goal.returns-clause-readers
returns-clause-readers c =
    subst (λ (a : AccessesValue). AreThinnedUnder c.args.members.now a.readers (listed Read c.remove_members_at-2.new.index.items)) c.self.view_is
    (thinned_before c.args.members.now (listed Read c.self.inside.users.items) (listed Read c.remove_members_at.new.index.items) (listed Read c.remove_members_at-2.new.index.items)
    c.remove_members_at.ensures.thinned c.remove_members_at-2.ensures.rest)

pub returns-clause-written : goal.returns-clause-written
returns-clause-written c =
    subst (λ (ps : List ℕ). IsGoneUnder c.args.number ps (listed Write c.remove_members_at-2.new.index.items)) c.written-writes.ensures c.remove_members_at-2.ensures.gone

pub returns-clause-read : goal.returns-clause-read
returns-clause-read c =
    subst (λ (ps : List ℕ). IsGoneUnder c.args.number ps (listed Read c.remove_members_at-2.new.index.items)) c.read-reads.ensures
    (gone_before c.args.number c.read-reads.result.now (listed Read c.remove_members_at.new.index.items) (listed Read c.remove_members_at-2.new.index.items) c.remove_members_at.ensures.gone c.remove_members_at-2.ensures.rest)
