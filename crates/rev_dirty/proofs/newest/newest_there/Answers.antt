use Rattle.std.proofs.Common.{◌≡◌, ◌∙◌, ℕ, List, Option, Some, None, IfSome, map, max, ap}
use Rattle.rev_graph.specs.Graph.{build_at, IsRanked}
use Rattle.rev_manifest.specs.Manifest.{BuildValue}
use Rattle.rev_dirty.specs.Inputs.{inputs}
use Rattle.rev_dirty.specs.Reasons.{newest_stamp}
use Rattle.rev_dirty.specs.Visible.{greatest, visible_stamp}
use Rattle.rev_dirty.proofs.NewestLemmas.{newest-parts}
use Rattle.rev_dirty.proofs.newest.newest_there.Goals as goal

weaker : (o : Option ℕ) (P Q : ℕ → Type 0) → ((n : ℕ) → P n → Q n) → IfSome o P → IfSome o Q
weaker None P Q more h = h
weaker (Some n) P Q more h = more n h

pub returns : goal.returns
returns c =
    let graph = c.args.graph.now in
    let builds = graph.manifest.builds in
    let state = c.args.cells.now.state in
    let build = build_at builds c.args.edge in
    let shown = visible_stamp builds state in
    let explicit = c.in_ok-explicit.explicit in
    let implicit = c.in_ok-implicit.implicit in
    let first : explicit ≡ max 0 (greatest (map shown build.explicit)) =
    c.in_ok-explicit.ensures builds graph.ranks c.requires.graph.ranked ∙ ap (λ paths. max 0 (greatest (map shown paths))) c.inputs-on_line.ensures.explicit in
    let second : implicit ≡ max explicit (greatest (map shown build.implicit)) =
    c.in_ok-implicit.ensures builds graph.ranks c.requires.graph.ranked ∙ ap (λ paths. max explicit (greatest (map shown paths))) c.inputs-on_line.ensures.implicit in
    weaker c.greatest_there-3.result
    (λ newest. (bs : List BuildValue) (ranks : List ℕ) → IsRanked bs ranks → newest ≡ max implicit (greatest (map (visible_stamp bs state) c.args.listed.now)))
    (λ newest. newest ≡ newest_stamp builds state (inputs state build))
    (λ newest h. newest-parts builds state build explicit implicit newest first second (h builds graph.ranks c.requires.graph.ranked ∙ ap (λ paths. max implicit (greatest (map shown paths))) c.requires.listed))
    c.greatest_there-3.ensures
