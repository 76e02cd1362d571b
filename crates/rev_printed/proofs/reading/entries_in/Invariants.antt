use Rattle.std.proofs.Common.{◌≡◌, map, take}
use Rattle.std.specs.List.{filter_map}
use Rattle.rev_fields.specs.Parts.{slices_of}
use Rattle.rev_printed.specs.Entries.{entry_of, entry_value}
use Rattle.rev_printed.proofs.reading.entries_in.Given as goal

abbrev pub invariant-loop-line : goal.invariant-loop-line
invariant-loop-line l =
    map entry_value l.entries.items ≡ filter_map (entry_of l.graph.manifest.builds) (take l.line-index (slices_of l.lines))
