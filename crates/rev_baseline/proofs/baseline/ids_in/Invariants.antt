use Rattle.std.proofs.Common.{◌≡◌, ◌++◌, drop}
use Rattle.std.specs.List.{filter_map}
use Rattle.rev_fields.specs.Parts.{slices_of}
use Rattle.rev_baseline.specs.Baselines.{id_in, words_of}
use Rattle.rev_baseline.proofs.baseline.ids_in.Given as goal

abbrev pub invariant-loop-line : goal.invariant-loop-line
invariant-loop-line l =
    l.ids.items ++ filter_map (λ line. id_in (words_of line)) (slices_of (drop l.line-index l.lines))
    ≡ filter_map (λ line. id_in (words_of line)) (slices_of l.lines)
