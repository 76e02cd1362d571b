use Rattle.std.proofs.Common.{◌≡◌, ◌++◌, List, ℕ, [], ◌∷◌, sym, ap, ◌∙◌, arith}
use Rattle.std.proofs.lemmas.List.{append-nil}
use Rattle.rev_unlisted.specs.Follows.{path_nodes}
use Rattle.rev_unlisted.proofs.FollowLemmas.{grown, grown-all, node-at, node-none, nodes-append}
use Rattle.rev_unlisted.proofs.follows.push_paths.Goals.{in-Some+in_ok-push, in_default}
use Rattle.rev_unlisted.proofs.follows.push_paths.Goals as goal

pub loop-name-init : goal.loop-name-init
loop-name-init c = sym (append-nil c.args.steps.now.items)

pub loop-name-preserved : goal.loop-name-preserved
loop-name-preserved c =
    let name = c.name-item.result in
    let more : c.match-find.steps.items ≡ c.loop-name.steps.items ++ path_nodes c.args.edges c.args.paths.now (c.name-item.result ∷ []) = elim c.match-find.branch [
      | in-Some+in_ok-push w ↦
          ap (λ v. v.items) w.steps-is ∙ w.in_ok-push.ensures.items
          ∙ ap (λ (l : List ℕ). c.loop-name.steps.items ++ l) (sym (node-at c.args.edges c.args.paths.now name w.in-Some.path (sym c.find.ensures.place ∙ w.in-Some.is)))
      | in_default w ↦
          ap (λ v. v.items) w.steps-is ∙ sym (append-nil c.loop-name.steps.items)
          ∙ ap (λ (l : List ℕ). c.loop-name.steps.items ++ l) (sym (node-none c.args.edges c.args.paths.now name (sym c.find.ensures.place ∙ w.in_default.is)))
    ] in
    grown (path_nodes c.args.edges c.args.paths.now) (nodes-append c.args.edges c.args.paths.now) c.args.names.now c.loop-name.name-index name c.args.steps.now.items
    c.loop-name.steps.items c.match-find.steps.items c.loop-name-test.true c.name-item.is c.loop-name.invariant more

pub returns : goal.returns
returns c =
    grown-all (path_nodes c.args.edges c.args.paths.now) c.args.names.now c.loop-name.name-index c.args.steps.now.items c.loop-name.steps.items
    (omega (arith, c.loop-name-test.false, c.loop-name.auto.name-index-end)) c.loop-name.invariant
