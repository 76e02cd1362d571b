use Rattle.std.proofs.Common.{◌≡◌, ℕ, List, Option, Some, None, find, slice_get, ap, sym, ◌∙◌}
use Rattle.std.specs.Option.{option_map}
use Rattle.rev_commands.specs.declared.point.Point.{Point}
use Rattle.rev_desk.specs.declared.break_key.BreakKey.{BreakKey}
use Rattle.rev_desk.specs.BreakKeys.{both_same, point_break_key}
use Rattle.rev_desk.proofs.BreakLemmas.{first-at, none-met}
use Rattle.rev_desk.proofs.breaks.Breaks.least_met.Goals as goal

pub returns-in-Some : goal.returns-in-Some
returns-in-Some c =
    let met : Option BreakKey → Option ℕ = λ o. option_map (λ (b : ℕ × Point). b.0) (find (λ (b : ℕ × Point). both_same (point_break_key c.args.graph.now.manifest b.1) o) c.args.self.now.standing.items) in
    c.first_at.ensures ∙ ap (λ ns. slice_get ns 0) (c.requires.break_keys c.in-Some.break_key) ∙ first-at c.args.graph.now.manifest c.in-Some.break_key c.args.self.now.standing.items
    ∙ ap met (sym c.in-Some.is ∙ c.in_ok-break_key.ensures)

pub returns-in-None : goal.returns-in-None
returns-in-None c =
    let met : Option BreakKey → Option ℕ = λ o. option_map (λ (b : ℕ × Point). b.0) (find (λ (b : ℕ × Point). both_same (point_break_key c.args.graph.now.manifest b.1) o) c.args.self.now.standing.items) in
    sym (ap (option_map (λ (b : ℕ × Point). b.0)) (none-met c.args.graph.now.manifest c.args.self.now.standing.items)) ∙ ap met (sym c.in-None.is ∙ c.in_ok-break_key.ensures)
