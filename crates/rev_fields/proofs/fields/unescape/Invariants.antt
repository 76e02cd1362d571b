use Rattle.std.proofs.Common.{◌≡◌, drop}
use Rattle.rev_fields.specs.Fields.{unescaped}
use Rattle.rev_fields.proofs.FieldLemmas.{joined, rest_of}
use Rattle.rev_fields.proofs.fields.unescape.Given as goal

abbrev pub invariant-loop-byte : goal.invariant-loop-byte
invariant-loop-byte l = joined l.text.items (rest_of l.after_backslash (drop l.byte-index l.field)) ≡ unescaped l.field
