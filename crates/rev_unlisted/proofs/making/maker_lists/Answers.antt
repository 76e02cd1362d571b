use Rattle.std.proofs.Common.{◌≡◌, List, ℕ, true, get_or, Contains, refl, sym, subst, ◌∙◌, arith}
use Rattle.std.specs.Prelude.{◌↔◌}
use Rattle.std.specs.Global.{Vec}
use Rattle.std.proofs.lemmas.List.{length-map}
use Rattle.rev_ranks.specs.Graph.{graph_of}
use Rattle.rev_observed.specs.declared.kind.Kind.TheVariants.{Writes}
use Rattle.rev_observed.specs.declared.path_set.PathRange.{PathRange}
use Rattle.rev_conflicts.specs.Places.{does}
use Rattle.rev_conflicts.specs.Ranges.{has_path}
use Rattle.rev_unlisted.proofs.MakerLemmas.{makers-all, makers-more, makers-start}
use Rattle.rev_unlisted.proofs.making.maker_lists.Goals as goal

pub loop-number-init : goal.loop-number-init
loop-number-init c =
    makers-start c.args.graph.now.manifest.builds c.args.paths.now c.args.commands.now c.args.edges.now (graph_of c.in_ok-lists.lists.items)
    (length-map c.in_ok-lists.lists.items (λ (v : Vec ℕ). v.items) ∙ c.in_ok-lists.ensures.each) c.in_ok-lists.ensures.exact

pub loop-number-preserved : goal.loop-number-preserved
loop-number-preserved c =
    let all : (p : ℕ) → Contains c.deref.result.now p ↔ (does Writes c.index-commands-number.result p ≡ true) = λ p.
    subst (λ (ns : List ℕ). Contains ns p ↔ (does Writes c.index-commands-number.result p ≡ true)) (sym c.deref.ensures.value)
    (subst (λ (rs : List PathRange). Contains c.in_ok-written.written.items p ↔ (has_path rs p ≡ true)) c.paths.ensures (c.in_ok-written.ensures p)) in
    makers-more c.args.graph.now.manifest.builds c.args.paths.now c.args.commands.now c.args.edges.now c.loop-number.number (get_or c.args.edges.now c.loop-number.number 0) c.index-commands-number.result c.deref.result.now
    (graph_of c.loop-number.lists.items) (graph_of c.put_each.new.lists.items) c.loop-number-test.true c.index-commands-number.is refl all c.loop-number.invariant c.in_ok-put_each.ensures

pub returns-clause-each : goal.returns-clause-each
returns-clause-each c = sym (length-map c.loop-number.lists.items (λ (v : Vec ℕ). v.items)) ∙ c.loop-number.invariant.each

pub returns-clause-exact : goal.returns-clause-exact
returns-clause-exact c =
    makers-all c.args.graph.now.manifest.builds c.args.paths.now c.args.commands.now c.args.edges.now c.loop-number.number (graph_of c.loop-number.lists.items)
    (omega (arith, c.loop-number-test.false, c.loop-number.auto.number-end)) c.loop-number.invariant
