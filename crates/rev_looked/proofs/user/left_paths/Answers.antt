use Rattle.std.proofs.Common.{◌≡◌, ℕ, None, List, Option, length, get_or, ap, ◌∙◌, arith}
use Rattle.std.specs.Prelude.{filter, is_some}
use Rattle.std.specs.List.{range_with_len}
use Rattle.rev_looked.specs.Needs.{is_left, scene}
use Rattle.rev_looked.proofs.UserLemmas.{filters-agree, is-noted}
use Rattle.rev_looked.proofs.user.left_paths.Goals as goal

pub returns : goal.returns
returns c =
    let s = scene c.args.history.now.timeline c.args.observation.now.paths c.args.observation.now.commands c.args.edges.now in
    let notes = c.deref.ensures.value in
    let count : length c.deref.result.now ≡ length c.args.observation.now.paths =
    ap length notes ∙ c.in_ok-notes.ensures.count in
    c.in_ok-paths.ensures
    ∙ filters-agree (λ path. is_some (get_or c.deref.result.now path None)) (λ path. is_left s path c.args.number) 0
    (length c.deref.result.now) (λ path low high.
    ap (λ (ns : List (Option ℕ)). is_some (get_or ns path None)) notes
    ∙ ap is_some (c.in_ok-notes.ensures.each path (omega (arith, count)))
    ∙ is-noted (is_left s path c.args.number) c.args.number)
    ∙ ap (λ (n : ℕ). filter (λ path. is_left s path c.args.number) (range_with_len 0 n)) count
