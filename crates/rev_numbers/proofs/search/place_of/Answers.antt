use Rattle.std.proofs.Common.{◌≡◌, ℕ, false, Option, Result, Ok, Err, IfErr, sym, subst}
use Rattle.std.specs.Option.{IfNone}
use Rattle.std.specs.Result.{result_ok}
use Rattle.rev_causal.specs.Chosen.{is_among}
use Rattle.rev_causal.proofs.Chosen.{absent_by_search}
use Rattle.rev_numbers.proofs.search.place_of.Goals as goal

none_of : (P : Type 0) (r : Result ℕ ℕ) → IfErr r (λ i. P) → IfNone (result_ok r) P
none_of P (Ok i) h = tt
none_of P (Err i) h = h

pub returns-clause-absent : goal.returns-clause-absent
returns-clause-absent c =
    let P : Type 0 = is_among c.args.numbers.now c.args.number ≡ false in
    subst (λ (o : Option ℕ). IfNone o P) (sym c.ok.ensures.value)
    (none_of P c.binary_search.result (absent_by_search c.args.numbers.now c.args.number c.binary_search.result c.requires c.binary_search.ensures.position))
