use Rattle.std.proofs.Common.{◌≡◌, ◌++◌, take}
use Rattle.std.specs.List.{flat_map}
use Rattle.rev_fields.specs.Fields.{written_byte}
use Rattle.rev_fields.proofs.fields.push_field.Given as goal

abbrev pub invariant-loop-byte : goal.invariant-loop-byte
invariant-loop-byte l = l.line.items ≡ l.initial.line.items ++ flat_map written_byte (take l.byte-index l.text)
