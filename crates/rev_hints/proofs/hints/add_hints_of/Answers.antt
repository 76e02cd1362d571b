use Rattle.std.proofs.Common.{ℕ, List, map, ap, sym, ◌∙◌}
use Rattle.std.specs.Prelude.{is_some}
use Rattle.std.specs.List.{list_any}
use Rattle.rev_hints.specs.Changes.{change_in}
use Rattle.rev_hints.specs.Hints.{hint_value}
use Rattle.rev_hints.proofs.HintLemmas.{unchanged-user}
use Rattle.rev_hints.proofs.hints.add_hints_of.Goals as goal

pub returns-then-not-has_changed-clause-hints : goal.returns-then-not-has_changed-clause-hints
returns-then-not-has_changed-clause-hints c =
    let changes = change_in c.args.changes.now.entries in
    unchanged-user c.args.graph.now.manifest.builds c.args.cells.now.state changes c.args.user (map hint_value c.args.hints.now.items) c.requires.before
    (ap (λ (paths : List (List ℕ)). list_any (λ path. is_some (changes path)) paths) (sym c.listed_inputs.ensures) ∙ sym c.has_changed.ensures ∙ c.if-not-has_changed.true)
