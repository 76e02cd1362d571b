use Rattle.std.proofs.Common.{◌≡◌, ℕ, ◌<◌, Bool, None, false, List, Option, length, get_or, sym, ap, ◌∙◌, arith}
use Rattle.std.specs.List.{filter_map, list_any, range_with_len}
use Rattle.rev_paths.specs.Paths.{place_of}
use Rattle.rev_manifest.specs.Builds.{ManifestValue}
use Rattle.rev_graph.specs.Graph.{build_at, inputs_of}
use Rattle.rev_observed.specs.declared.kind.Kind.{Kind}
use Rattle.rev_looked.specs.Commands.{look_of}
use Rattle.rev_looked.specs.Needs.{is_declared, is_number, last_left, need_at, need_in, scene}
use Rattle.rev_looked.proofs.need.needs_by.Goals as goal

pub returns : goal.returns
returns c =
    let t = c.args.history.now.timeline in
    let s = scene c.args.history.now.timeline c.args.observation.now.paths c.args.observation.now.commands c.args.edges.now in
    let edge = c.args.edge in
    let f = need_at s c.args.before edge c.args.command.now in
    let paths = c.paths-paths.ensures.same in
    let marks = c.deref.ensures.value in
    let looks = c.deref-2.ensures.value in
    let lefts = c.deref-3.ensures.value in
    let sizes : length c.paths-paths.result.now ≡ length c.args.observation.now.paths = ap length paths in
    let count : length c.deref.result.now ≡ length c.args.observation.now.paths =
    ap length marks ∙ c.in_ok-declared.ensures.count ∙ sizes in
    let declared_is : (path : ℕ) → path < length c.args.observation.now.paths
    → get_or c.deref.result.now path false ≡ is_declared s edge path =
    λ path within.
    ap (λ (bs : List Bool). get_or bs path false) marks
    ∙ c.in_ok-declared.ensures.each path (omega (arith, sizes))
    ∙ (λ j. list_any (λ name. is_number path (place_of name (paths j))) (inputs_of (build_at (ap (λ (m : ManifestValue). m.builds) c.graph.ensures j) edge))) in
    let look_is : (path : ℕ) → path < length c.args.observation.now.paths
    → get_or c.deref-2.result.now path None ≡ look_of c.args.command.now path =
    λ path within.
    ap (λ (ks : List (Option Kind)). get_or ks path None) looks
    ∙ c.in_ok-looks.ensures.each path (omega (arith, sizes)) in
    let left_is : (path : ℕ) → path < length c.args.observation.now.paths
    → get_or c.deref-3.result.now path None ≡ last_left s c.args.before path =
    λ path within.
    ap (λ (ns : List (Option ℕ)). get_or ns path None) lefts ∙ c.in_ok-left.ensures.each path within in
    c.in_ok-needs.ensures f (λ path within.
    let here : path < length c.args.observation.now.paths = omega (arith, count) in
    (λ j. need_in t edge path (sym (declared_is path here) j) (sym (look_is path here) j) (sym (left_is path here) j)))
    ∙ ap (λ (n : ℕ). filter_map f (range_with_len 0 n)) count
