use Rattle.std.proofs.Common.{Bool, subst, sym, ◌∙◌}
use Rattle.rev_accesses.specs.declared.users.Access.TheVariants.{Read, Write}
use Rattle.rev_accesses.specs.Places.{print_by}
use Rattle.rev_accesses.specs.Thinned.{AreThinned, IsGone}
use Rattle.rev_accesses.specs.Users.{listed}
use Rattle.rev_accesses.specs.Value.{AccessesValue, numbers_at}
use Rattle.rev_numbers.specs.Taken.{IsThinned}
use Rattle.rev_numbers.proofs.TakenLemmas.{thinned_not}
use Rattle.rev_accesses.proofs.ThinnedLemmas.{gone_from, gone_whole}
use Rattle.rev_accesses.proofs.accesses.Accesses.remove_members.Goals as goal

pub returns-then-whole-clause-thinned : goal.returns-then-whole-clause-thinned
returns-then-whole-clause-thinned c =
    let new : AccessesValue = record { writers = listed Write c.self.inside.users.items; readers = listed Read c.self.inside.users.items; whole = c.take_member.new.self.items } in
    subst (λ (a : AccessesValue). AreThinned c.args.members.now a new) c.self.view_is
    (record {
      writers = λ q. thinned_not c.args.members.now (numbers_at (listed Write c.self.inside.users.items) q);
      readers = λ q. thinned_not c.args.members.now (numbers_at (listed Read c.self.inside.users.items) q);
      whole = c.take_member.ensures.thinned;
    })

pub returns-then-whole-clause-gone : goal.returns-then-whole-clause-gone
returns-then-whole-clause-gone c =
    let new : AccessesValue = record { writers = listed Write c.self.inside.users.items; readers = listed Read c.self.inside.users.items; whole = c.take_member.new.self.items } in
    subst (λ (b : Bool). IsGone c.args.number (print_by b c.args.print.now.read c.args.print.now.written) new) (sym c.if-whole.true ∙ c.whole.ensures)
    (gone_whole c.args.number new c.take_member.ensures.gone)

pub returns-else-whole-clause-thinned : goal.returns-else-whole-clause-thinned
returns-else-whole-clause-thinned c = record {
  writers = c.remove_members_from.ensures.writers;
  readers = c.remove_members_from.ensures.readers;
  whole = subst (IsThinned c.args.members.now c.args.self.now.whole) (sym c.remove_members_from.ensures.whole) (thinned_not c.args.members.now c.args.self.now.whole);
}

pub returns-else-whole-clause-gone : goal.returns-else-whole-clause-gone
returns-else-whole-clause-gone c =
    subst (λ (b : Bool). IsGone c.args.number (print_by b c.args.print.now.read c.args.print.now.written) c.remove_members_from.new.self) (sym c.if-whole.false ∙ c.whole.ensures)
    (gone_from c.args.number c.args.print.now.read c.args.print.now.written c.remove_members_from.new.self c.remove_members_from.ensures.written c.remove_members_from.ensures.read)
