use Rattle.std.proofs.Common.{◌≡◌, ◌∙◌, false, get_or, length, arith}
use Rattle.std.proofs.lemmas.List.FromFn.{length-map-range_with_len}
use Rattle.rev_history.specs.Timeline.{kept_events}
use Rattle.rev_judged.specs.Judged.{counts, has_list, sources_of, takes_from_others}
use Rattle.rev_judged.proofs.MarkLemmas.{mark-at, marks-length}
use Rattle.rev_races.specs.Races.{started}
use Rattle.rev_judged.proofs.judged.counts_at.Goals as goal

pub bounds-listed-edge : goal.bounds-listed-edge
bounds-listed-edge c =
    let t = c.args.history.now.timeline in
    omega (arith, c.requires.edge, marks-length (has_list t) (length t.manifest.builds) c.args.listed.now c.requires.listed)

pub bounds-taking-edge : goal.bounds-taking-edge
bounds-taking-edge c =
    let t = c.args.history.now.timeline in
    omega (arith, c.requires.edge, c.requires.taking.length_is, length-map-range_with_len (sources_of t) 0 (length t.manifest.builds))

pub returns : goal.returns
returns c =
    let t = c.args.history.now.timeline in
    let edge = c.args.edge in
    let begun : get_or c.args.began.now c.args.edge false ≡ started c.args.history.now.timeline.manifest c.args.edge (kept_events c.args.history.now.timeline) =
    c.requires.began.exact edge c.requires.edge in
    let list : get_or c.args.listed.now c.args.edge false ≡ has_list c.args.history.now.timeline c.args.edge =
    mark-at (has_list t) (length t.manifest.builds) edge c.args.listed.now false c.requires.listed c.requires.edge in
    let from : get_or c.args.taking.now c.args.edge false ≡ takes_from_others c.args.history.now.timeline c.args.edge = c.requires.taking.exact edge in
    c.counts.ensures ∙ (λ i. counts (begun i) (list i) (from i) c.args.others)
