use Rattle.std.proofs.Common.{◌+◌, [], ℕ, Option, None, get_or, take, map, refl, ap, sym, ◌∙◌}
use Rattle.std.specs.List.{cons_option, filter_map}
use Rattle.std.proofs.lemmas.List.{map-append}
use Rattle.rev_cells.specs.declared.cell.Cell.TheVariants.{Mark}
use Rattle.rev_footprint.proofs.AddsLemmas.{adds-nothing, adds-next, kept-next}
use Rattle.rev_footprint.proofs.reads.add_marks.Goals as goal

pub loop-producer-init : goal.loop-producer-init
loop-producer-init c = adds-nothing c.args.reads.now.keys

pub loop-producer-preserved : goal.loop-producer-preserved
loop-producer-preserved c =
    let producers = c.args.producers.now in
    let i = c.loop-producer.producer-index in
    let one = get_or producers i None in
    let front = filter_map (λ (producer : Option ℕ). producer) (take i producers) in
    adds-next c.args.reads.now.keys c.loop-producer.reads.keys c.add_mark.new.reads.keys (map Mark front) (map Mark (cons_option one [])) (map Mark (filter_map (λ (producer : Option ℕ). producer) (take (i + 1) producers)))
    c.loop-producer.invariant c.in_ok-add_mark.ensures
    (sym (map-append Mark front (cons_option one [])) ∙ ap (map Mark) (kept-next (λ (producer : Option ℕ). producer) producers i one None c.loop-producer-test.true refl))
