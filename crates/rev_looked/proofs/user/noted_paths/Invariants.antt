use Rattle.std.proofs.Common.{◌≡◌, None, get_or}
use Rattle.std.specs.Prelude.{filter, is_some}
use Rattle.std.specs.List.{range_with_len}
use Rattle.rev_looked.proofs.user.noted_paths.Given as goal

-- those of the paths so far
abbrev pub invariant-loop-path : goal.invariant-loop-path
invariant-loop-path l = l.paths.items ≡ filter (λ path. is_some (get_or l.notes path None)) (range_with_len 0 l.path)
