use Rattle.std.proofs.Common.{◌≡◌, ◌++◌, ◌<◌, ◌^◌, ℕ, take, get_or}
use Rattle.std.specs.List.{flat_map}
use Rattle.rev_fields.specs.Fields.{field_text, spaced}
use Rattle.rev_observed.specs.declared.path_set.PathRange.{PathRange}
use Rattle.rev_observed.specs.Texts.{range_text}
use Rattle.rev_observed_text.proofs.lines.push_uses.Given as goal

abbrev pub invariant-loop-range : goal.invariant-loop-range
invariant-loop-range l =
    (l.text.items ≡ l.initial.text.items ++ flat_map (λ (range : PathRange). spaced (field_text (range_text range))) (take l.range-index l.uses.paths))
    × ((k : ℕ) (d : PathRange) → k < l.range-index → (get_or l.uses.paths k d).last < 2 ^ 32)
