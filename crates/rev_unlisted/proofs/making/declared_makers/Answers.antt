use Rattle.std.proofs.Common.{◌≡◌, List, ℕ, [], Contains, sym, subst, ◌∙◌, arith}
use Rattle.std.specs.Prelude.{◌↔◌}
use Rattle.std.proofs.lemmas.Option.{get_or_from_slice_get}
use Rattle.rev_waits.specs.Waits.{Makes}
use Rattle.rev_undeclared.specs.Undeclared.{path_at}
use Rattle.rev_unlisted.proofs.MakerLemmas.{declared-each, declared-more}
use Rattle.rev_unlisted.proofs.making.declared_makers.Goals as goal

pub loop-path-preserved : goal.loop-path-preserved
loop-path-preserved c =
    let builds = c.args.graph.now.manifest.builds in
    let at : c.path.result.now ≡ path_at c.args.paths.now c.loop-path.path = sym (get_or_from_slice_get c.args.paths.now c.loop-path.path c.path.result.now [] c.path.ensures.name) in
    record {
      each = declared-each c.loop-path.lists.items c.push.new.self.items c.in_ok-makers.field-0 c.loop-path.path c.loop-path.invariant.each c.in_ok-push.ensures.items;
      exact =
          declared-more (λ p a. Makes builds a (path_at c.args.paths.now p)) c.loop-path.lists.items c.push.new.self.items c.in_ok-makers.field-0 c.loop-path.path c.loop-path.invariant.each c.in_ok-push.ensures.items
          (λ a. subst (λ (name : List ℕ). Contains c.in_ok-makers.field-0.items a ↔ Makes builds a name) at (c.in_ok-makers.ensures a)) c.loop-path.invariant.exact;
    }

pub returns-clause-each : goal.returns-clause-each
returns-clause-each c = c.loop-path.invariant.each ∙ omega (arith, c.loop-path-test.false, c.loop-path.auto.path-end, c.len-path-end.ensures.len)

pub returns-clause-exact : goal.returns-clause-exact
returns-clause-exact c = λ p a within. c.loop-path.invariant.exact p a (omega (arith, within, c.loop-path-test.false, c.loop-path.auto.path-end, c.len-path-end.ensures.len))
