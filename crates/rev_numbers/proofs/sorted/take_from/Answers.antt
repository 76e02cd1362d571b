use Rattle.std.proofs.Common.{◌≡◌, ◌<◌, List, ℕ, Err, length, get_or, sym, subst, ◌∙◌}
use Rattle.std.specs.List.Sorted.{IsBinarySearchResult}
use Rattle.std.specs.Ordering.{nat_cmp}
use Rattle.std.specs.FinMap.{nat_cmp-IsAntisymmetric}
use Rattle.rev_causal.proofs.Chosen.{absent_by_search}
use Rattle.rev_numbers.proofs.PlaceLemmas.{removed-without}
use Rattle.rev_numbers.proofs.RisingLemmas.{without-absent}
use Rattle.rev_numbers.proofs.sorted.take_from.Goals as goal

pub returns-in-Ok : goal.returns-in-Ok
returns-in-Ok c =
    c.remove.ensures.items
    ∙ removed-without c.args.numbers.now.items c.in-Ok.place c.args.number c.requires
    (subst (λ (ks : List ℕ). c.in-Ok.place < length ks) c.as_slice.ensures c.in-Ok.ensures.bound)
    (subst (λ (ks : List ℕ). get_or ks c.in-Ok.place 0 ≡ c.args.number) c.as_slice.ensures (nat_cmp-IsAntisymmetric (get_or c.as_slice.result.now c.in-Ok.place 0) c.args.number (c.in-Ok.ensures.ok 0)))

pub returns-in_default : goal.returns-in_default
returns-in_default c =
    sym (without-absent c.args.number c.args.numbers.now.items (absent_by_search c.args.numbers.now.items c.args.number (Err c.in_default.field-0) c.requires
    (subst (λ (ks : List ℕ). IsBinarySearchResult (λ y. nat_cmp y c.args.number) ks (Err c.in_default.field-0)) c.as_slice.ensures c.in_default.ensures.position)))
