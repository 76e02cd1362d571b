use Rattle.std.proofs.Common.{◌≡◌, ◌+◌, ◌||◌, ℕ, Bool, true, false, List, drop, sym, ap, ◌∙◌}
use Rattle.std.specs.List.{list_any}
use Rattle.rev_fields.specs.Parts.{slices_of, vectors_of}
use Rattle.rev_filters.specs.Patterns.{hides_by, parts_of}
use Rattle.rev_filters.proofs.RowLemmas.{any-more}
use Rattle.rev_filters.proofs.hiding.is_hidden_by.Goals as goal

pub returns-then-branch : goal.returns-then-branch
returns-then-branch c =
    let parts : slices_of c.deref-in-loop-pattern.result.now ≡ parts_of c.pattern-item.result.items = ap slices_of c.deref-in-loop-pattern.ensures.value ∙ c.in_ok-parts.ensures ∙ ap parts_of c.deref.ensures.value in
    let found : hides_by (parts_of c.pattern-item.result.items) (slices_of c.args.components.now) ≡ true = sym (ap (λ (ps : List (List ℕ)). hides_by ps (slices_of c.args.components.now)) parts) ∙ sym c.in_ok-hides_by.ensures ∙ c.if-branch.true in
    sym (c.loop-pattern.invariant ∙ any-more (λ p. hides_by (parts_of p) (slices_of c.args.components.now)) c.args.patterns.now c.loop-pattern.pattern-index c.pattern-item.result c.loop-pattern-test.true c.pattern-item.is
    ∙ ap (λ b. b || list_any (λ p. hides_by (parts_of p) (slices_of c.args.components.now)) (vectors_of (drop (c.loop-pattern.pattern-index + 1) c.args.patterns.now))) found)

pub loop-pattern-preserved : goal.loop-pattern-preserved
loop-pattern-preserved c =
    let parts : slices_of c.deref-in-loop-pattern.result.now ≡ parts_of c.pattern-item.result.items = ap slices_of c.deref-in-loop-pattern.ensures.value ∙ c.in_ok-parts.ensures ∙ ap parts_of c.deref.ensures.value in
    let none : hides_by (parts_of c.pattern-item.result.items) (slices_of c.args.components.now) ≡ false = sym (ap (λ (ps : List (List ℕ)). hides_by ps (slices_of c.args.components.now)) parts) ∙ sym c.in_ok-hides_by.ensures ∙ c.if-branch.false in
    c.loop-pattern.invariant ∙ any-more (λ p. hides_by (parts_of p) (slices_of c.args.components.now)) c.args.patterns.now c.loop-pattern.pattern-index c.pattern-item.result c.loop-pattern-test.true c.pattern-item.is
    ∙ ap (λ b. b || list_any (λ p. hides_by (parts_of p) (slices_of c.args.components.now)) (vectors_of (drop (c.loop-pattern.pattern-index + 1) c.args.patterns.now))) none
