use Rattle.std.proofs.Common.{◌≡◌, ◌+◌, List, ℕ, true, Contains, sym, subst, ◌∙◌, arith, true≢false}
use Rattle.std.specs.Prelude.{◌↔◌}
use Rattle.std.specs.Global.{Vec}
use Rattle.rev_observed.specs.declared.kind.Kind.TheVariants.{Reads}
use Rattle.rev_observed.specs.declared.path_set.PathRange.{PathRange}
use Rattle.rev_conflicts.specs.Places.{does}
use Rattle.rev_conflicts.specs.Ranges.{has_path}
use Rattle.rev_unlisted.specs.Found.{IsReadAt}
use Rattle.rev_unlisted.proofs.ReadLemmas.{IsAmong, among-all, among-more, among-none, among-skip}
use Rattle.rev_unlisted.proofs.reading.unlisted_paths.Goals.{then-branch+in_ok-push, else-branch}
use Rattle.rev_unlisted.proofs.reading.unlisted_paths.Goals as goal

pub loop-path-init : goal.loop-path-init
loop-path-init c = λ path.
    subst (λ (l : List ℕ). Contains l path ↔ IsAmong c.deref-path-items.result.now 0 (IsReadAt c.args.graph.now.manifest.builds c.args.paths.now c.args.hidden.now c.args.builds.now c.args.stronger.now c.args.marks.now c.args.user c.args.used.now) path) (sym c.new-found.ensures.items)
    (among-none c.deref-path-items.result.now (IsReadAt c.args.graph.now.manifest.builds c.args.paths.now c.args.hidden.now c.args.builds.now c.args.stronger.now c.args.marks.now c.args.user c.args.used.now) path)

pub loop-path-preserved : goal.loop-path-preserved
loop-path-preserved c = λ path. elim c.if-branch.branch [
  | then-branch+in_ok-push w ↦
      subst (λ (v : Vec ℕ). Contains v.items path ↔ IsAmong c.deref-path-items.result.now (c.loop-path.path-index + 1) (IsReadAt c.args.graph.now.manifest.builds c.args.paths.now c.args.hidden.now c.args.builds.now c.args.stronger.now c.args.marks.now c.args.user c.args.used.now) path) (sym w.found-is)
      (among-more c.deref-path-items.result.now c.loop-path.found.items w.push.new.self.items c.loop-path.path-index (IsReadAt c.args.graph.now.manifest.builds c.args.paths.now c.args.hidden.now c.args.builds.now c.args.stronger.now c.args.marks.now c.args.user c.args.used.now) path
      (c.in_ok-is_unlisted.ensures.0 w.if-branch.true) w.in_ok-push.ensures.items (c.loop-path.invariant path))
  | else-branch w ↦
      subst (λ (v : Vec ℕ). Contains v.items path ↔ IsAmong c.deref-path-items.result.now (c.loop-path.path-index + 1) (IsReadAt c.args.graph.now.manifest.builds c.args.paths.now c.args.hidden.now c.args.builds.now c.args.stronger.now c.args.marks.now c.args.user c.args.used.now) path) (sym w.found-is)
      (among-skip c.deref-path-items.result.now c.loop-path.found.items c.loop-path.path-index (IsReadAt c.args.graph.now.manifest.builds c.args.paths.now c.args.hidden.now c.args.builds.now c.args.stronger.now c.args.marks.now c.args.user c.args.used.now) path
      (λ h. true≢false (sym (c.in_ok-is_unlisted.ensures.1 h) ∙ w.if-branch.false)) (c.loop-path.invariant path))
]

pub returns : goal.returns
returns c = λ path.
    let reads : Contains c.deref-path-items.result.now path ↔ (does Reads c.args.used.now path ≡ true) =
    subst (λ (ns : List ℕ). Contains ns path ↔ (does Reads c.args.used.now path ≡ true)) (sym c.deref-path-items.ensures.value)
    (subst (λ (rs : List PathRange). Contains c.in_ok-reads.reads.items path ↔ (has_path rs path ≡ true)) c.paths.ensures (c.in_ok-reads.ensures path)) in
    let both =
    among-all c.deref-path-items.result.now c.loop-path.path-index (IsReadAt c.args.graph.now.manifest.builds c.args.paths.now c.args.hidden.now c.args.builds.now c.args.stronger.now c.args.marks.now c.args.user c.args.used.now)
    (λ p. does Reads c.args.used.now p ≡ true) path (omega (arith, c.loop-path-test.false, c.loop-path.auto.path-index-end)) reads in
    (λ h. both.0 ((c.loop-path.invariant path).0 h), λ h. (c.loop-path.invariant path).1 (both.1 h))
