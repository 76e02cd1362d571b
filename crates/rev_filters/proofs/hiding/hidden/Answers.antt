use Rattle.std.proofs.Common.{ℕ, List, ap, ◌∙◌}
use Rattle.std.specs.List.{list_any}
use Rattle.rev_filters.specs.Patterns.{is_hidden}
use Rattle.rev_filters.proofs.RowLemmas.{marks-more}
use Rattle.rev_filters.proofs.hiding.hidden.Goals as goal

pub loop-place-preserved : goal.loop-place-preserved
loop-place-preserved c =
    marks-more (λ (path : List ℕ). list_any (λ (g : List (List ℕ)). is_hidden g path) c.args.filters.now) c.args.paths.now c.loop-place.place c.path.result.now c.loop-place.marks.items c.push.new.self.items c.in_ok-is_hidden.field-0
    c.path.ensures.name c.loop-place.invariant c.in_ok-push.ensures.items (c.in_ok-is_hidden.ensures ∙ ap (λ (path : List ℕ). list_any (λ (g : List (List ℕ)). is_hidden g path) c.args.filters.now) c.as_bytes.ensures.bytes)
