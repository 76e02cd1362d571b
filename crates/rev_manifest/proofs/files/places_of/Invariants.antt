use Rattle.std.proofs.Common.{◌≡◌, ℕ, List, take, bytes_eq}
use Rattle.indexmap.specs.IndexMap.{get}
use Rattle.rev_manifest.specs.Files.{file_from}
use Rattle.rev_manifest.specs.Seen.{seen_files}
use Rattle.rev_manifest.proofs.files.places_of.Given as goal

abbrev pub invariant-loop-place : goal.invariant-loop-place
invariant-loop-place l = (path : List ℕ) → get bytes_eq l.places path ≡ file_from 0 path (seen_files (take l.place l.files))
