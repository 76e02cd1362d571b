use Rattle.std.proofs.Common.{◌≡◌, ℕ, Bool, true, false, List, Option, ◌||◌, refl, sym, ap, ◌∙◌}
use Rattle.rev_causal.specs.Chosen.{is_among}
use Rattle.rev_accesses.specs.declared.users.Access.TheVariants.{Write}
use Rattle.rev_accesses.specs.Following.{is_first, is_that}
use Rattle.rev_accesses.proofs.PlaceLemmas.{listed_past, listed_there}
use Rattle.rev_accesses.proofs.index.add_first_at.Goals as goal

or_no : (b : Bool) → (b || false) ≡ b
or_no true = refl
or_no false = refl

pub returns-in_ok-add_some-in-Some : goal.returns-in_ok-add_some-in-Some
returns-in_ok-add_some-in-Some c = λ k.
    c.in_ok-add_some-in-Some.ensures k
    ∙ ap (λ (o : Option ℕ). is_that o k || is_among c.args.pending.now k) c.first_above.ensures
    ∙ ap (λ (ns : List ℕ). is_first c.args.number ns k || is_among c.args.pending.now k) (sym (listed_there Write c.args.index.now c.args.place c.in-Some.users.now c.in-Some.ensures.lookup.3.0 c.in-Some.ensures.lookup.1))
    ∙ ap (λ b. b || is_among c.args.pending.now k) (sym (or_no _))

pub returns-in-None : goal.returns-in-None
returns-in-None c = λ k.
    sym (ap (λ (ns : List ℕ). (is_first c.args.number ns k || false) || is_among c.args.pending.now k) (listed_past Write c.args.index.now c.args.place c.in-None.ensures.lookup.3))
