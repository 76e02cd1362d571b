use Rattle.std.proofs.Common.{◌≡◌, take}
use Rattle.std.specs.List.{flat_map}
use Rattle.rev_document_json.specs.Json.{part_json}
use Rattle.rev_document_json.proofs.json.json_of.Given as goal

-- the parts so far were added
abbrev pub invariant-loop-part : goal.invariant-loop-part
invariant-loop-part l = l.text.items ≡ flat_map part_json (take l.part-index l.part-items)
