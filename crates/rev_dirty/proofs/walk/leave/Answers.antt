use Rattle.std.proofs.Common.{◌≡◌, ◌∙◌, ap, sym, subst, nat_eq, ℕ, List, Some, map, if◌then◌else◌}
use Rattle.rev_dirty.specs.Visible.{greatest}
use Rattle.rev_dirty.specs.Walk.{known, shown, shown_behind, IsAdded, IsKnowledge}
use Rattle.rev_dirty.proofs.WalkLemmas.{shown-line, knowledge-more}
use Rattle.rev_dirty.proofs.walk.leave.Goals as goal

pub returns : goal.returns
returns c =
    let builds = c.args.graph.now.manifest.builds in
    let state = c.args.cells.now.state in
    let entries = c.args.known.now.entries in
    let edge = c.args.edge in
    let added : IsAdded entries c.insert.new.self.entries edge (shown_behind builds state edge) =
    λ other.
    c.in_ok-insert.ensures.updates.0 other
    ∙ ap (λ s. if nat_eq edge other then Some s else known entries other)
    (c.greatest_shown-stamp.ensures ∙ ap (λ inputs. greatest (map (shown entries) inputs)) (c.deref.ensures.value ∙ c.in_ok-inputs.ensures)
    ∙ shown-line builds c.args.graph.now.ranks state entries edge c.requires.graph.ranked c.requires.knowledge c.requires.needed) in
    record { added = added; knowledge = knowledge-more builds state entries c.insert.new.self.entries edge (shown_behind builds state edge) c.requires.knowledge c.requires.edge (λ i. shown_behind builds state edge) added }

pub returns-in_err-insert-clause-knowledge : goal.returns-in_err-insert-clause-knowledge
returns-in_err-insert-clause-knowledge c =
    let same : c.insert.new.self.entries ≡ c.args.known.now.entries = c.in_err-insert.ensures.err in
    subst (λ (es : List (ℕ × ℕ)). IsKnowledge c.args.graph.now.manifest.builds c.args.cells.now.state es) (sym same) c.requires.knowledge
