use Rattle.std.proofs.Common.{◌≡◌, List, ℕ, [], sym, subst, ◌∙◌, true≢false}
use Rattle.std.proofs.lemmas.Option.{get_or_from_slice_get}
use Rattle.rev_conflicts.proofs.Some.{either-more}
use Rattle.rev_undeclared.specs.Undeclared.{IsOutputOf, path_at}
use Rattle.rev_undeclared.proofs.LookLemmas.{anothers-one, anothers-told, either-none}
use Rattle.rev_undeclared.proofs.looks.add_anothers_at.Goals as goal

pub returns-in_ok-add_makers : goal.returns-in_ok-add_makers
returns-in_ok-add_makers c = λ k.
    let at : path_at c.args.paths.now c.args.path ≡ c.path.result.now = get_or_from_slice_get c.args.paths.now c.args.path c.path.result.now [] c.path.ensures.name in
    let output : IsOutputOf c.args.graph.now.manifest.builds (path_at c.args.paths.now c.args.path) c.in-Some.owner =
    subst (λ p. IsOutputOf c.args.graph.now.manifest.builds p c.in-Some.owner) (sym at) ((c.owner.ensures c.in-Some.owner).0 c.in-Some.is) in
    either-more (c.in_ok-add_makers.ensures k)
    (anothers-one c.args.graph.now.manifest.builds c.args.paths.now c.args.edges.now c.args.stronger.now c.args.path c.in-Some.owner c.args.commands.now k output
    (λ m. true≢false (sym (c.has.ensures.1 m) ∙ c.if-not-has.true)))

pub returns-else-not-has : goal.returns-else-not-has
returns-else-not-has c = λ k.
    let at : path_at c.args.paths.now c.args.path ≡ c.path.result.now = get_or_from_slice_get c.args.paths.now c.args.path c.path.result.now [] c.path.ensures.name in
    let output : IsOutputOf c.args.graph.now.manifest.builds (path_at c.args.paths.now c.args.path) c.in-Some.owner =
    subst (λ p. IsOutputOf c.args.graph.now.manifest.builds p c.in-Some.owner) (sym at) ((c.owner.ensures c.in-Some.owner).0 c.in-Some.is) in
    either-none (anothers-told c.args.graph.now.manifest.builds c.args.paths.now c.args.edges.now c.args.stronger.now c.args.path c.in-Some.owner c.args.commands.now k output (c.has.ensures.0 c.if-not-has.false))

pub returns-in_default : goal.returns-in_default
returns-in_default c = λ k.
    let at : path_at c.args.paths.now c.args.path ≡ c.path.result.now = get_or_from_slice_get c.args.paths.now c.args.path c.path.result.now [] c.path.ensures.name in
    either-none (λ a. c.in_default.not-Some a.owner ((c.owner.ensures a.owner).1 (subst (λ p. IsOutputOf c.args.graph.now.manifest.builds p a.owner) at a.output)))
