use Rattle.std.proofs.Common.{◌≡◌, ◌++◌, ◌<◌, ℕ, List, take, get_or}
use Rattle.std.specs.List.{flat_map}
use Rattle.rev_paths.specs.Canonical.{IsCanonical}
use Rattle.rev_observed.specs.Texts.{ended, line_text, path_texts}
use Rattle.rev_observed_text.proofs.lines.push_paths.Given as goal

abbrev pub invariant-loop-place : goal.invariant-loop-place
invariant-loop-place l =
    (l.text.items ≡ l.initial.text.items ++ flat_map (λ path. ended (line_text (path_texts path))) (take l.place l.paths))
    × ((k : ℕ) (d : List ℕ) → k < l.place → IsCanonical (get_or l.paths k d))
