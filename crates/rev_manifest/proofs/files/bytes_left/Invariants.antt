use Rattle.std.proofs.Common.{◌≡◌, ◌+◌, drop, length, sum_by}
use Rattle.rev_manifest.specs.Files.{FileValue}
use Rattle.rev_manifest.specs.Seen.{seen_files}
use Rattle.rev_manifest.proofs.files.bytes_left.Given as goal

abbrev pub invariant-loop-file : goal.invariant-loop-file
invariant-loop-file l =
    sum_by (λ (file : FileValue). length file.1) (seen_files l.files) + l.left ≡ 268435456 + sum_by (λ (file : FileValue). length file.1) (seen_files (drop l.file-index l.files))
