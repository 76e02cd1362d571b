use Rattle.std.proofs.Common.{◌≡◌, [], length, bytes_eq}
use Rattle.std.specs.List.{flat_map}
use Rattle.indexmap.specs.IndexSet.{insert_all}
use Rattle.rev_depfile.specs.Lines.{is_line_end, parts}
use Rattle.rev_depfile.specs.Value.{first_fault_in, line_paths}
use Rattle.rev_depfile.proofs.reader.read_lines.Given as goal

-- what is found, with the lines that are left, is what all lines give; the lines so far have no fault
abbrev pub invariant-loop-found : goal.invariant-loop-found
invariant-loop-found l =
    (insert_all bytes_eq l.found.keys (flat_map line_paths (parts is_line_end l.rest)) ≡ insert_all bytes_eq [] (flat_map line_paths (parts is_line_end l.signs)))
    × (first_fault_in l.outputs.keys (parts is_line_end l.rest) ≡ first_fault_in l.outputs.keys (parts is_line_end l.signs))

abbrev pub decreases-loop-found : goal.decreases-loop-found
decreases-loop-found l = length l.rest
