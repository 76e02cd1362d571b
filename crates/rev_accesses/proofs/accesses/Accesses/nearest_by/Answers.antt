use Rattle.std.proofs.Common.{Bool, ℕ, List, Option, sym, ap, ap₂, ◌∙◌}
use Rattle.std.specs.Ordering.{nat_cmp}
use Rattle.rev_causal.specs.AccessLists.{lesser, first_above}
use Rattle.rev_causal.specs.KeptHistory.{nearest_in}
use Rattle.rev_accesses.specs.declared.users.Access.TheVariants.{Read, Write}
use Rattle.rev_accesses.specs.declared.users.Users.{Users}
use Rattle.rev_accesses.specs.Places.{print_by}
use Rattle.rev_accesses.specs.Users.{listed}
use Rattle.rev_accesses.specs.Value.{AccessesValue, nearest_at}
use Rattle.rev_accesses.proofs.ShowsLemmas.{nearest_shown, nearest_whole}
use Rattle.rev_accesses.proofs.accesses.Accesses.nearest_by.Goals as goal

-- the nearest by the lists at places
abbrev by_lists : ℕ → List ℕ → List ℕ → AccessesValue → Option ℕ
by_lists n reads writes a =
    lesser (first_above n a.whole) (lesser (lesser (nearest_at n a.writers writes) (nearest_at n a.readers writes)) (nearest_at n a.writers reads))

pub returns-then-whole : goal.returns-then-whole
returns-then-whole c = λ prints rising numbers shown.
    c.first_above.ensures ∙ nearest_whole c.args.number c.args.numbers.now prints rising numbers
    ∙ ap (λ (b : Bool). nearest_in nat_cmp c.args.number (print_by b c.args.print.now.read c.args.print.now.written) prints) (sym c.if-whole.true ∙ c.whole.ensures)

pub returns : goal.returns
returns c = λ prints rising numbers shown.
    c.lesser-3.ensures
    ∙ ap₂ lesser c.first_above-whole.ensures
    (c.lesser-2.ensures ∙ ap₂ lesser (c.lesser.ensures ∙ ap₂ lesser (c.nearest-written.ensures ∙ ap (λ (us : List Users). nearest_at c.args.number (listed Write us) c.written-writes.result.now) c.deref.ensures.value)
    (c.nearest-used.ensures ∙ ap (λ (us : List Users). nearest_at c.args.number (listed Read us) c.written-writes.result.now) c.deref-2.ensures.value))
    (c.nearest-source.ensures ∙ ap (λ (us : List Users). nearest_at c.args.number (listed Write us) c.read-reads.result.now) c.deref-3.ensures.value))
    ∙ ap (by_lists c.args.number c.read-reads.result.now c.written-writes.result.now) c.self.view_is
    ∙ ap₂ (λ (reads writes : List ℕ). by_lists c.args.number reads writes c.args.self.now) c.read-reads.ensures c.written-writes.ensures
    ∙ nearest_shown c.args.self.now c.args.number c.args.print.now.read c.args.print.now.written prints rising shown
    ∙ ap (λ (b : Bool). nearest_in nat_cmp c.args.number (print_by b c.args.print.now.read c.args.print.now.written) prints) (sym c.if-whole.false ∙ c.whole.ensures)
