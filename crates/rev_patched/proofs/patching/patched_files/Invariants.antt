use Rattle.std.proofs.Common.{◌≡◌, ◌++◌, drop}
use Rattle.rev_manifest.specs.Seen.{seen_files}
use Rattle.rev_patched.specs.Orders.{patched}
use Rattle.rev_patched.proofs.patching.patched_files.Given as goal

-- the files so far, with what becomes of those that are left
abbrev pub invariant-loop-number : goal.invariant-loop-number
invariant-loop-number l =
    seen_files l.changed.items ++ patched (seen_files (drop l.number l.files)) (drop l.number l.changes)
    ≡ patched (seen_files l.files) l.changes
