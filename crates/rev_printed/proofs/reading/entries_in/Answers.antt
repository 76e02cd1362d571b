use Rattle.std.proofs.Common.{◌∙◌, ◌<◌, ◌++◌, ℕ, List, [], Bor, length, take, ap, sym, arith}
use Rattle.std.specs.List.{cons_option, filter_map}
use Rattle.std.specs.Option.{option_map}
use Rattle.std.proofs.lemmas.List.{get_or-map as at-map, length-map}
use Rattle.rev_fields.specs.Parts.{slices_of}
use Rattle.rev_printed.specs.Entries.{EntryValue, entry_of, entry_value}
use Rattle.rev_printed.proofs.EntryLemmas.{line-more}
use Rattle.rev_printed.proofs.reading.entries_in.Goals as goal

pub loop-line-preserved : goal.loop-line-preserved
loop-line-preserved c =
    let f = entry_of c.args.graph.now.manifest.builds in
    let lines = slices_of c.args.lines.now in
    let i = c.loop-line.line-index in
    let within : c.loop-line.line-index < length (slices_of c.args.lines.now) =
    omega (arith, c.loop-line-test.true, length-map c.args.lines.now (λ (s : Bor (List ℕ)). s.now)) in
    c.in_ok-add_entry.ensures
    ∙ ap (λ (xs : List EntryValue). xs ++ cons_option (option_map entry_value c.in_ok-entry_of.field-0) []) c.loop-line.invariant
    ∙ ap (λ o. filter_map f (take i lines) ++ cons_option o [])
    (c.in_ok-entry_of.ensures ∙ ap f (sym (at-map (λ (s : Bor (List ℕ)). s.now) c.args.lines.now c.loop-line.line-index _ [] c.loop-line-test.true)))
    ∙ sym (line-more f lines i [] within)
