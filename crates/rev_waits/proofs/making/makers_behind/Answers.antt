use Rattle.std.proofs.Common.{◌≡◌, ℕ, ◌+◌, ◌<◌, Bool, true, false, length, get_or, subst, sym, arith, true≢false, ◌∙◌}
use Rattle.std.specs.Global.{Vec}
use Rattle.rev_ranks.specs.Graph.{graph_of}
use Rattle.rev_ranks.specs.Leads.{is_reachable}
use Rattle.rev_ranks.specs.Sets.{IsSetOf}
use Rattle.rev_waits.specs.Waits.{passes_on}
use Rattle.rev_waits.proofs.WaitLemmas.{AreCounted, counted-one, counted-other, counted-behind, phony-within, roots-within, vectors-length, mark-read, lists-length}
use Rattle.rev_waits.proofs.making.makers_behind.Goals as goal
use Rattle.rev_waits.proofs.making.makers_behind.Goals.{then-index+then-not-is_phony+in_ok-push, else-index, else-index-via-then-index+else-not-is_phony, else-index-via-else-index}

pub reachable_from-requires-clause-inside : goal.reachable_from-requires-clause-inside
reachable_from-requires-clause-inside c = phony-within c.args.graph.now.manifest.builds c.args.phony.now c.requires.phony

pub reachable_from-requires-clause-nodes : goal.reachable_from-requires-clause-nodes
reachable_from-requires-clause-nodes c =
    let builds = c.args.graph.now.manifest.builds in
    let within : c.args.edge < length c.args.phony.now = omega (arith, c.requires.edge, vectors-length (passes_on builds) builds c.args.phony.now c.requires.phony) in
    roots-within c.args.phony.now c.args.edge c.index-phony-edge.result c.deref.result.now (phony-within builds c.args.phony.now c.requires.phony) within c.index-phony-edge.is c.deref.ensures.value

pub loop-maker-preserved : goal.loop-maker-preserved
loop-maker-preserved c =
    let builds = c.args.graph.now.manifest.builds in
    let marks = c.in_ok-marks.marks.items in
    let n = c.loop-maker.maker in
    let items = c.loop-maker.makers.items in
    let inside : c.loop-maker.maker < length c.in_ok-marks.marks.items =
    omega (arith, c.loop-maker-test.true, c.edges-maker-end.ensures.edges, c.in_ok-marks.ensures.length_is, lists-length (passes_on builds) builds c.args.phony.now c.requires.phony) in
    let read : (b : Bool) → c.index.result.now ≡ b → get_or c.in_ok-marks.marks.items c.loop-maker.maker false ≡ b =
    λ b e. mark-read c.in_ok-marks.marks.items c.loop-maker.maker c.index.result.now b inside c.index.ensures e in
    elim c.if-index.branch [
      | then-index+then-not-is_phony+in_ok-push w ↦
          subst (λ (v : Vec ℕ). AreCounted builds marks (n + 1) v.items) (sym w.makers-is)
          (counted-one builds marks n items w.push.new.self.items c.loop-maker.invariant w.in_ok-push.ensures.items (read true w.if-index.true) (sym w.is_phony.ensures ∙ w.if-not-is_phony.true))
      | else-index w ↦
          subst (λ (v : Vec ℕ). AreCounted builds marks (n + 1) v.items) (sym w.makers-is)
          (elim w.else-index.branch [
            | else-index-via-then-index+else-not-is_phony w' ↦ counted-other builds marks n items c.loop-maker.invariant (λ marked plain. true≢false (sym w'.if-not-is_phony.false ∙ w'.is_phony.ensures ∙ plain))
            | else-index-via-else-index w' ↦ counted-other builds marks n items c.loop-maker.invariant (λ marked plain. true≢false (sym marked ∙ read false w'.if-index.false))
          ])
    ]

pub returns : goal.returns
returns c =
    let builds = c.args.graph.now.manifest.builds in
    let within : c.args.edge < length c.args.phony.now = omega (arith, c.requires.edge, vectors-length (passes_on builds) builds c.args.phony.now c.requires.phony) in
    let all : c.loop-maker.maker ≡ length builds = omega (arith, c.loop-maker-test.false, c.loop-maker.auto.maker-end, c.edges-maker-end.ensures.edges) in
    let marked : IsSetOf (graph_of c.args.phony.now) (is_reachable (graph_of c.args.phony.now) c.index-phony-edge.result.items) c.in_ok-marks.marks.items =
    subst (λ rs. IsSetOf (graph_of c.args.phony.now) (is_reachable (graph_of c.args.phony.now) rs) c.in_ok-marks.marks.items) c.deref.ensures.value c.in_ok-marks.ensures in
    counted-behind builds c.args.phony.now c.args.edge c.index-phony-edge.result c.in_ok-marks.marks.items c.loop-maker.makers.items c.requires.phony within c.index-phony-edge.is marked
    (subst (λ n. AreCounted builds c.in_ok-marks.marks.items n c.loop-maker.makers.items) all c.loop-maker.invariant)
