use Rattle.std.proofs.Common.{◌≡◌, ◌∙◌, ◌++◌, ap, append_assoc, codes, decimal, rules, sym}
use Rattle.rev_fields.proofs.AnswerLemmas.{on_ok}
use Rattle.rev_shown.specs.Cells.{cell_words}
use Rattle.rev_shown.proofs.TextLemmas.{extended}
use Rattle.rev_shown.proofs.cells.push_cell.Goals as goal

pub returns-in-Depth : goal.returns-in-Depth
returns-in-Depth c =
    let old = c.args.text.now.items in
    let first = codes "the depth of pool " in
    let builds = c.args.graph.now.manifest.builds in
    let pool : c.from-in-Depth.result ≡ c.in-Depth.pool = search rules in
    on_ok c.push_counted-in-Depth.result _ _
    (λ e. e ∙ append_assoc old first (decimal c.from-in-Depth.result)
    ∙ ap (λ n. old ++ (first ++ decimal n)) pool ∙ ap (λ d. old ++ cell_words builds d) (sym c.in-Depth.is))
    c.push_counted-in-Depth.ensures

pub returns-in-Halted : goal.returns-in-Halted
returns-in-Halted c =
    let old = c.args.text.now.items in
    let builds = c.args.graph.now.manifest.builds in
    on_ok c.extend_from_slice.result _ _
    (λ e. e ∙ ap (λ d. old ++ cell_words builds d) (sym c.in-Halted.is))
    (extended c.extend_from_slice.result c.extend_from_slice.new.self.items old (codes "the interrupt")
    c.extend_from_slice.ensures.items)
