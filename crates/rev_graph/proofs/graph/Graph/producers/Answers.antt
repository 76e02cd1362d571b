use Rattle.std.proofs.Common.{◌≡◌, ◌<◌, ℕ, [], Option, length, get_or, map, ap, sym, ◌∙◌, arith}
use Rattle.std.proofs.lemmas.List.{get_or-map, length-map}
use Rattle.std.specs.Global.{Vec}
use Rattle.rev_graph.specs.Graph.{input_producers, no_build, GraphValue, build_at}
use Rattle.rev_graph.specs.Lists.{lists_of}
use Rattle.rev_graph.proofs.graph.Graph.producers.Goals as goal

pub returns : goal.returns
returns c =
    let builds = c.self.inside.manifest.builds in
    let edge = c.args.edge in
    let count : length builds ≡ length c.args.self.now.manifest.builds = ap (λ (g : GraphValue). length g.manifest.builds) c.self.view_is in
    let same : length (lists_of c.self.inside.producers.items) ≡ length (map (input_producers builds) builds) = ap length c.self.invariant.producers in
    let within : edge < length c.self.inside.producers.items =
    omega (arith, same, length-map c.self.inside.producers.items (λ (v : Vec (Option ℕ)). v.items), length-map builds (input_producers builds), count, c.requires) in
    let inside : edge < length builds = omega (arith, count, c.requires) in
    c.deref.ensures.value ∙ ap (λ (v : Vec (Option ℕ)). v.items) c.index.ensures
    ∙ sym (get_or-map (λ (v : Vec (Option ℕ)). v.items) c.self.inside.producers.items edge c.index.result.now [] within)
    ∙ ap (λ lists. get_or lists edge []) c.self.invariant.producers
    ∙ get_or-map (input_producers builds) builds edge no_build [] inside
    ∙ ap (λ (g : GraphValue). input_producers g.manifest.builds (build_at g.manifest.builds edge)) c.self.view_is
