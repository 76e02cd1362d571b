use Rattle.std.proofs.Common.{◌≡◌, ◌<◌, ◌≤◌, ◌-◌, length}
use Rattle.rev_syntax.specs.Statements.{statements_of}
use Rattle.rev_manifest.specs.Reading.{reading, with_statements}
use Rattle.rev_manifest.specs.Held.{seen_declarations}
use Rattle.rev_manifest.proofs.ReadingLemmas.{in_room}
use Rattle.rev_manifest.proofs.reading.+read_file.Given as goal

abbrev pub decreases-read_file : goal.decreases-read_file
decreases-read_file l = l.left

-- what is declared so far and by the statements that are left is what the file declares
abbrev pub invariant-loop-lines : goal.invariant-loop-lines
invariant-loop-lines l =
    record {
      declared :
          with_statements l.files (reading l.files (l.left - 1)) l.file l.inclusion.scope (seen_declarations l.above) (statements_of l.rest)
          ≡ in_room l.files (reading l.files (l.left - 1)) (seen_declarations l.fn.above) l.inclusion;
      grows : length l.fn.above.scopes ≤ length l.above.scopes;
      within : l.inclusion.scope < length l.above.scopes;
      place : l.file ≡ l.inclusion.file;
    }

abbrev pub decreases-loop-lines : goal.decreases-loop-lines
decreases-loop-lines l = length l.rest
