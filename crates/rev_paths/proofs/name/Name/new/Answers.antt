use Rattle.std.proofs.Common.{◌≡◌, length, sym, ◌∙◌, arith}
use Rattle.std.specs.Arc.{arc_slice_items}
use Rattle.std.proofs.lemmas.Bool.{eqb-false}
use Rattle.rev_paths.specs.Canonical.{canonical}
use Rattle.rev_paths.proofs.Idempotence.{IsCanonical-canonical}
use Rattle.rev_paths.proofs.PlainLemmas.{canonical-plain}
use Rattle.rev_paths.proofs.name.Name.new.Goals as goal

pub invariant_of-result-2 : goal.invariant_of-result-2
invariant_of-result-2 c =
    let path = c.args.path.now in
    let form : arc_slice_items c.in_ok-bytes-2.bytes ≡ canonical path = c.in_ok-bytes-2.ensures ∙ c.in_ok-text.ensures.text in
    let some : length path ≡ 0 → ⊥ = eqb-false (length path) 0 (sym c.is_empty.ensures ∙ c.if-is_empty.false) in
    IsCanonical-canonical path (arc_slice_items c.in_ok-bytes-2.bytes) form (omega arith) (omega arith)

pub invariant_of-result : goal.invariant_of-result
invariant_of-result c =
    let path = c.args.path.now in
    let form : arc_slice_items c.in_ok-bytes.bytes ≡ canonical path = c.in_ok-bytes.ensures.ok ∙ sym (canonical-plain path (sym c.is_plain.ensures ∙ c.if-is_plain.true)) in
    let some : length path ≡ 0 → ⊥ = eqb-false (length path) 0 (sym c.is_empty.ensures ∙ c.if-is_empty.false) in
    IsCanonical-canonical path (arc_slice_items c.in_ok-bytes.bytes) form (omega arith) (omega arith)

pub returns-then-is_plain-clause-canonical : goal.returns-then-is_plain-clause-canonical
returns-then-is_plain-clause-canonical c =
    c.in_ok-bytes.ensures.ok ∙ sym (canonical-plain c.args.path.now (sym c.is_plain.ensures ∙ c.if-is_plain.true))
