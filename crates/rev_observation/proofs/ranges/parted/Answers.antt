use Rattle.std.proofs.Common.{◌≡◌, ◌+◌, ℕ, List, drop, ap, ◌∙◌, subst}
use Rattle.std.proofs.lemmas.List.{drop-drop}
use Rattle.rev_fields.specs.Faults.{Answers}
use Rattle.rev_observed.specs.Ranges.{range_between}
use Rattle.rev_observation.proofs.ranges.parted.Goals as goal

pub returns : goal.returns
returns c =
    let text = c.args.text.now in
    let place = c.args.place in
    let front = c.split_at.result.0.now in
    let rest : c.split_at-2.result.1.now ≡ drop (place + 1) text = c.split_at-2.ensures.back ∙ ap (drop 1) c.split_at.ensures.back ∙ drop-drop 1 place text in
    let P : List ℕ → Type 0 = λ t. Answers c.between.result (λ range. range) (range_between front t) in
    let Q : List ℕ → Type 0 = λ t. Answers c.between.result (λ range. range) (range_between t (drop (place + 1) text)) in
    subst Q c.split_at.ensures.front (subst P rest c.between.ensures)
