use Rattle.std.proofs.Common.{List, ℕ, sym, ap, ap₂, ◌∙◌}
use Rattle.rev_causal.specs.AccessLists.{lesser}
use Rattle.rev_order.specs.Overtaken.{first_overtaken}
use Rattle.rev_accesses.specs.Inverted.{first_inverted_among}
use Rattle.rev_accesses.specs.Value.{AccessesValue}
use Rattle.rev_accesses.proofs.InvertedLemmas.{inverted_shown}
use Rattle.rev_accesses.proofs.accesses.Accesses.first_inverted.Goals as goal

pub returns : goal.returns
returns c = λ prints rising numbers shown.
    c.lesser-2.ensures
    ∙ ap₂ lesser (c.first_overtaken-before.ensures ∙ ap (λ (whole : List ℕ). first_overtaken c.args.places.now whole c.args.numbers.now) c.as_slice.ensures.same) (c.lesser.ensures ∙ ap₂ lesser (c.first_overtaken-after.ensures ∙ ap (first_overtaken c.args.places.now c.args.numbers.now) c.as_slice-2.ensures.same) (c.first_inverted.ensures ∙ ap (first_inverted_among c.args.places.now) c.deref.ensures.value))
    ∙ ap (λ (a : AccessesValue). lesser (first_overtaken c.args.places.now a.whole c.args.numbers.now) (lesser (first_overtaken c.args.places.now c.args.numbers.now a.whole) (first_inverted_among c.args.places.now c.self.inside.users.items))) c.self.view_is
    ∙ inverted_shown c.args.self.now c.args.places.now c.args.numbers.now c.self.inside.users.items prints
    (ap (λ (a : AccessesValue). a.writers) (sym c.self.view_is)) (ap (λ (a : AccessesValue). a.readers) (sym c.self.view_is)) rising numbers shown
