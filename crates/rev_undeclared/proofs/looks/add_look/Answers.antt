use Rattle.std.proofs.Common.{◌≡◌, List, ℕ, [], None, sym, ap, ◌∙◌, true≢false}
use Rattle.std.proofs.lemmas.Option.{get_or_from_slice_get}
use Rattle.rev_graph.specs.Graph.{producer_of}
use Rattle.rev_conflicts.proofs.Some.{either-more}
use Rattle.rev_undeclared.specs.Undeclared.{path_at}
use Rattle.rev_undeclared.proofs.LookLemmas.{look-one, none-from}
use Rattle.rev_undeclared.proofs.looks.add_look.Goals as goal

pub returns-in_ok-add_makers : goal.returns-in_ok-add_makers
returns-in_ok-add_makers c = λ k.
    let at : path_at c.args.paths.now c.args.path ≡ c.path.result.now = get_or_from_slice_get c.args.paths.now c.args.path c.path.result.now [] c.path.ensures.name in
    let none : producer_of c.args.graph.now.manifest.builds (path_at c.args.paths.now c.args.path) ≡ None =
    ap (producer_of c.args.graph.now.manifest.builds) at ∙ sym c.producer.ensures.value ∙ none-from c.producer.result (sym c.is_some.ensures ∙ c.if-is_some.false) in
    either-more (c.in_ok-add_makers.ensures k)
    (look-one c.args.graph.now.manifest.builds c.args.paths.now c.args.edges.now c.args.stronger.now c.args.user c.args.used_by c.args.used.now c.args.path c.in-Some.look c.args.commands.now k none
    (λ m. true≢false (sym (c.has.ensures.1 m) ∙ c.if-has.false)) (sym c.look_at.ensures ∙ c.in-Some.is))
