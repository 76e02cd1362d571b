use Rattle.std.proofs.Common.{◌≡◌, drop}
use Rattle.rev_fields.proofs.FieldLemmas.{all_plain}
use Rattle.rev_fields.proofs.fields.is_plain.Given as goal

abbrev pub invariant-loop-byte : goal.invariant-loop-byte
invariant-loop-byte l = all_plain (drop l.byte-index l.field) ≡ all_plain l.field
