use Rattle.std.proofs.Common.{◌≡◌, ℕ, List, ◌<◌, ◌≤◌, ◌+◌, ◌-◌, length, get_or, Contains, ◌⊎◌, inl, inr, sym, subst, ◌∙◌, arith}
use Rattle.std.specs.Prelude.{◌↔◌}
use Rattle.std.specs.Global.{Vec}
use Rattle.std.proofs.lemmas.List.{get_or_default, length-map}
use Rattle.rev_ranks.specs.Graph.{graph_of, successors_of}
use Rattle.rev_conflicts.proofs.MeetLemmas.{all-at, at-number}
use Rattle.rev_conflicts.proofs.QuietLemmas.{next-within}
use Rattle.rev_conflicts.proofs.Some.{either-more}
use Rattle.rev_undeclared.specs.Tables.{Adds, IsLookAt, IsLookWhere}
use Rattle.rev_undeclared.proofs.LookLemmas.{look-same, range-all, range-more, range-past, range-start}
use Rattle.rev_undeclared.proofs.looks.add_range.Goals as goal

pub returns-then-from-count : goal.returns-then-from-count
returns-then-from-count c =
    let many = length-map c.args.left.now.lists.items (λ (v : Vec ℕ). v.items) in
    range-past c.args.graph.now.manifest.builds c.args.paths.now c.args.edges.now c.args.stronger.now (graph_of c.args.left.now.lists.items) c.args.user c.args.used_by c.args.used.now c.args.found.now c.args.range.now (IsLookWhere c.args.graph.now.manifest.builds c.args.paths.now c.args.edges.now c.args.stronger.now (graph_of c.args.left.now.lists.items) c.args.user c.args.used_by c.args.used.now (λ path. path < length c.args.paths.now))
    (omega (arith, c.if-from-count.true, c.from.ensures, c.len-count.ensures.len, c.requires.each, many))

pub loop-path-init : goal.loop-path-init
loop-path-init c =
    let lists = graph_of c.args.left.now.lists.items in
    let nexts = c.args.left.now.nexts.items in
    let many = length-map c.args.left.now.lists.items (λ (v : Vec ℕ). v.items) in
    let within : c.args.range.now.first ≤ length (graph_of c.args.left.now.lists.items) =
    omega (arith, c.if-from-count.false, c.from.ensures, c.len-count.ensures.len, c.requires.each, many) in
    let next = next-within lists nexts c.requires.nexts c.args.range.now.first c.index-path.result.now within c.index-path.ensures in
    let top = next.1 in
    let e = c.requires.nexts.each in
    let is : get_or c.args.left.now.nexts.items c.args.range.now.first 0 ≡ c.index-path.result.now =
    sym (c.index-path.ensures ∙ get_or_default nexts c.args.range.now.first c.index-path.result.now 0 (omega (arith, e, within))) in
    record {
      adds =
          subst (λ n. Adds c.args.found.now c.args.found.now (IsLookWhere c.args.graph.now.manifest.builds c.args.paths.now c.args.edges.now c.args.stronger.now (graph_of c.args.left.now.lists.items) c.args.user c.args.used_by c.args.used.now (λ path. path < length c.args.paths.now)) (IsLookWhere c.args.graph.now.manifest.builds c.args.paths.now c.args.edges.now c.args.stronger.now (graph_of c.args.left.now.lists.items) c.args.user c.args.used_by c.args.used.now (λ path. (c.args.range.now.first ≤ path) × (path ≤ c.args.range.now.last) × (path < n)))) is
          (range-start c.args.graph.now.manifest.builds c.args.paths.now c.args.edges.now c.args.stronger.now (graph_of c.args.left.now.lists.items) c.args.user c.args.used_by c.args.used.now c.args.found.now c.args.range.now nexts (IsLookWhere c.args.graph.now.manifest.builds c.args.paths.now c.args.edges.now c.args.stronger.now (graph_of c.args.left.now.lists.items) c.args.user c.args.used_by c.args.used.now (λ path. path < length c.args.paths.now)) c.requires.nexts within);
      within = omega (arith, top, many);
    }

pub loop-path-smaller : goal.loop-path-smaller
loop-path-smaller c =
    let lists = graph_of c.args.left.now.lists.items in
    let nexts = c.args.left.now.nexts.items in
    let many = length-map c.args.left.now.lists.items (λ (v : Vec ℕ). v.items) in
    let inside : c.loop-path.path + 1 ≤ length (graph_of c.args.left.now.lists.items) = omega (arith, c.loop-path-test.true, c.len-count.ensures.len, c.requires.each, many) in
    let next = next-within lists nexts c.requires.nexts (c.loop-path.path + 1) c.index-path-in-loop-path.result.now inside c.index-path-in-loop-path.ensures in
    let least = next.0 in
    let w = c.loop-path.invariant.within in
    omega (arith, least, w)

pub add_look-requires-clause-commands : goal.add_look-requires-clause-commands
add_look-requires-clause-commands c =
    all-at (λ n. n < length c.args.edges.now) c.args.left.now.lists.items c.loop-path.path c.index.result.now c.as_slice-commands.result.now
    (omega (arith, c.loop-path-test.true, c.len-count.ensures.len, c.requires.each)) c.index.ensures c.as_slice-commands.ensures.value c.requires.within

pub loop-path-preserved : goal.loop-path-preserved
loop-path-preserved c =
    let items = c.args.left.now.lists.items in
    let lists = graph_of c.args.left.now.lists.items in
    let nexts = c.args.left.now.nexts.items in
    let n = c.loop-path.path in
    let many = length-map c.args.left.now.lists.items (λ (v : Vec ℕ). v.items) in
    let inside : c.loop-path.path < length c.args.left.now.lists.items = omega (arith, c.loop-path-test.true, c.len-count.ensures.len, c.requires.each) in
    let within : c.loop-path.path + 1 ≤ length (graph_of c.args.left.now.lists.items) = omega (arith, inside, many) in
    let next = next-within lists nexts c.requires.nexts (n + 1) c.index-path-in-loop-path.result.now within c.index-path-in-loop-path.ensures in
    let top = next.1 in
    let e = c.requires.nexts.each in
    let is : get_or c.args.left.now.nexts.items (c.loop-path.path + 1) 0 ≡ c.index-path-in-loop-path.result.now =
    sym (c.index-path-in-loop-path.ensures ∙ get_or_default nexts (n + 1) c.index-path-in-loop-path.result.now 0 (omega (arith, e, within))) in
    let at : c.as_slice-commands.result.now ≡ successors_of (graph_of c.args.left.now.lists.items) c.loop-path.path = c.as_slice-commands.ensures.value ∙ sym (at-number items n c.index.result.now inside c.index.ensures) in
    let step : (k : List ℕ) → Contains c.add_look.new.found k ↔ (Contains c.loop-path.found k ⊎ IsLookAt c.args.graph.now.manifest.builds c.args.paths.now c.args.edges.now c.args.stronger.now c.args.user c.args.used_by c.args.used.now c.loop-path.path (successors_of (graph_of c.args.left.now.lists.items) c.loop-path.path) k) =
    λ k. either-more (c.in_ok-add_look.ensures k)
    (look-same c.args.graph.now.manifest.builds c.args.paths.now c.args.edges.now c.args.stronger.now c.args.user c.args.used_by c.args.used.now n c.as_slice-commands.result.now (successors_of lists n) k at) in
    record {
      adds =
          subst (λ m. Adds c.args.found.now c.add_look.new.found (IsLookWhere c.args.graph.now.manifest.builds c.args.paths.now c.args.edges.now c.args.stronger.now (graph_of c.args.left.now.lists.items) c.args.user c.args.used_by c.args.used.now (λ path. path < length c.args.paths.now)) (IsLookWhere c.args.graph.now.manifest.builds c.args.paths.now c.args.edges.now c.args.stronger.now (graph_of c.args.left.now.lists.items) c.args.user c.args.used_by c.args.used.now (λ path. (c.args.range.now.first ≤ path) × (path ≤ c.args.range.now.last) × (path < m)))) is
          (range-more c.args.graph.now.manifest.builds c.args.paths.now c.args.edges.now c.args.stronger.now (graph_of c.args.left.now.lists.items) c.args.user c.args.used_by c.args.used.now c.args.found.now c.loop-path.found c.add_look.new.found c.args.range.now nexts n c.requires.nexts
          (omega (arith, c.loop-path-test.true, c.len-count.ensures.len)) (many ∙ c.requires.each) c.loop-path.invariant.adds step);
      within = omega (arith, top, many);
    }

pub returns-else-path-from : goal.returns-else-path-from
returns-else-path-from c =
    range-all c.args.graph.now.manifest.builds c.args.paths.now c.args.edges.now c.args.stronger.now (graph_of c.args.left.now.lists.items) c.args.user c.args.used_by c.args.used.now c.args.found.now c.loop-path.found c.args.range.now c.loop-path.path (IsLookWhere c.args.graph.now.manifest.builds c.args.paths.now c.args.edges.now c.args.stronger.now (graph_of c.args.left.now.lists.items) c.args.user c.args.used_by c.args.used.now (λ path. path < length c.args.paths.now))
    (inr (omega (arith, c.if-path-from.false, c.from-in-loop-path.ensures))) c.loop-path.invariant.adds

pub returns-after-loop-path : goal.returns-after-loop-path
returns-after-loop-path c =
    let many = length-map c.args.left.now.lists.items (λ (v : Vec ℕ). v.items) in
    range-all c.args.graph.now.manifest.builds c.args.paths.now c.args.edges.now c.args.stronger.now (graph_of c.args.left.now.lists.items) c.args.user c.args.used_by c.args.used.now c.args.found.now c.loop-path.found c.args.range.now c.loop-path.path (IsLookWhere c.args.graph.now.manifest.builds c.args.paths.now c.args.edges.now c.args.stronger.now (graph_of c.args.left.now.lists.items) c.args.user c.args.used_by c.args.used.now (λ path. path < length c.args.paths.now))
    (inl (omega (arith, c.loop-path-test.false, c.len-count.ensures.len, c.requires.each, many))) c.loop-path.invariant.adds
