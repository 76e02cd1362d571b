use Rattle.std.proofs.Common.{◌≡◌, ℕ, ◌<◌, take, None}
use Rattle.rev_fields.specs.Lines.{said_by}
use Rattle.rev_fields.specs.Parts.{slices_of}
use Rattle.rev_script.specs.Scripts.{script_line, script_wrong}
use Rattle.rev_script.proofs.script.read_script.Given as goal

abbrev pub invariant-loop-place : goal.invariant-loop-place
invariant-loop-place l =
    (l.words.items ≡ said_by script_line (take l.place (slices_of l.line-items))) × ((k : ℕ) → k < l.place → script_wrong (slices_of l.line-items) k ≡ None)
