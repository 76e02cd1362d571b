use Rattle.std.proofs.Common.{◌≡◌, List, ℕ, Err, true, subst, ◌∙◌}
use Rattle.std.specs.List.Sorted.{IsBinarySearchResult}
use Rattle.std.specs.Ordering.{nat_cmp}
use Rattle.rev_causal.specs.Chosen.{is_among}
use Rattle.rev_causal.proofs.Chosen.{absent_by_search}
use Rattle.rev_numbers.proofs.PlaceLemmas.{searched-placed, found-among}
use Rattle.rev_numbers.proofs.RisingLemmas.{with_number-there, with_number-apart}
use Rattle.rev_numbers.proofs.sorted.put_among.Goals as goal

pub returns-in_ok-insert-clause-ok : goal.returns-in_ok-insert-clause-ok
returns-in_ok-insert-clause-ok c =
    let place : IsBinarySearchResult (λ y. nat_cmp y c.args.number) c.args.numbers.now.items (Err c.in-Err.place) =
    subst (λ (ks : List ℕ). IsBinarySearchResult (λ y. nat_cmp y c.args.number) ks (Err c.in-Err.place)) c.as_slice.ensures c.in-Err.ensures.position in
    c.in_ok-insert.ensures.ok
    ∙ searched-placed c.args.numbers.now.items c.in-Err.place c.args.number c.requires place
    ∙ with_number-apart c.args.number c.args.numbers.now.items (absent_by_search c.args.numbers.now.items c.args.number (Err c.in-Err.place) c.requires place)

pub returns-in_default-clause-ok : goal.returns-in_default-clause-ok
returns-in_default-clause-ok c =
    with_number-there c.args.number c.args.numbers.now.items
    (subst (λ (ks : List ℕ). is_among ks c.args.number ≡ true) c.as_slice.ensures
    (found-among c.as_slice.result.now c.in_default.field-0 c.args.number c.in_default.ensures.bound (c.in_default.ensures.ok 0)))
