use Rattle.std.proofs.Common.{◌++◌, ◌∷◌, ◌<◌, ◌^◌, [], length, map, ap, ◌∙◌, arith}
use Rattle.std.specs.List.{flat_map}
use Rattle.rev_fields.specs.Fields.{field_text, spaced}
use Rattle.rev_observed.specs.declared.path_set.PathRange.{PathRange}
use Rattle.rev_observed.specs.Texts.{range_text}
use Rattle.rev_observed_text.proofs.TextLemmas.{all-known, all-put, fields-each, kind-field, line-put, uses-writable}
use Rattle.rev_observed_text.proofs.lines.push_uses.Goals as goal

pub returns-clause-text : goal.returns-clause-text
returns-clause-text c =
    let old = c.args.text.now.items in
    let paths = c.args.uses.now.paths in
    let fields = map field_text (map range_text paths) in
    let past = c.loop-range-test.false in
    let many = ap length c.ranges-range-items.ensures.same in
    c.in_ok-push.ensures.items
    ∙ ap (λ l. l ++ 10 ∷ []) (all-put (λ (r : PathRange). spaced (field_text (range_text r))) c.extend_from_slice.new.self.items c.loop-range.text.items (flat_map spaced fields) paths c.loop-range.range-index (omega (arith, past, many)) (fields-each range_text paths) c.loop-range.invariant.0
    ∙ ap (λ l. l ++ flat_map spaced fields) (c.in_ok-extend_from_slice.ensures.items ∙ ap (λ w. old ++ w) (c.word_of.ensures ∙ kind-field c.args.uses.now.kind)))
    ∙ line-put old _ fields

pub returns-clause-writable : goal.returns-clause-writable
returns-clause-writable c =
    let past = c.loop-range-test.false in
    let many = ap length c.ranges-range-items.ensures.same in
    uses-writable c.args.uses.now c.ranges-range-items.ensures.rising (all-known (λ (r : PathRange). r.last < 2 ^ 32) c.args.uses.now.paths c.loop-range.range-index (omega (arith, past, many)) c.loop-range.invariant.1)
