use Rattle.std.proofs.Common.{◌≡◌, ℕ, ◌<◌, ◌||◌, false, get_or, length, take}
use Rattle.std.specs.List.{list_any}
use Rattle.rev_paths.specs.Paths.{place_of}
use Rattle.rev_looked.specs.Needs.{is_number}
use Rattle.rev_looked.proofs.declared.mark_names.Given as goal

-- the names so far
abbrev pub invariant-loop-name : goal.invariant-loop-name
invariant-loop-name l =
    (p : ℕ) → p < length l.initial.marks → get_or l.marks p false
    ≡ (get_or l.initial.marks p false || list_any (λ name. is_number p (place_of name l.paths)) (take l.name-index l.names))
