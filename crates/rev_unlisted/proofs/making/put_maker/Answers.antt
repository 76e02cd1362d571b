use Rattle.std.proofs.Common.{◌≡◌, ◌++◌, ◌<◌, List, [], ◌∷◌, ℕ, get_or, length, sym, ap, ◌∙◌, arith}
use Rattle.std.specs.Global.{Vec}
use Rattle.std.proofs.lemmas.List.{get_or-map, map-set, length-map}
use Rattle.rev_ranks.specs.Graph.{graph_of}
use Rattle.rev_conflicts.proofs.TableLemmas.{puts}
use Rattle.rev_unlisted.proofs.making.put_maker.Goals as goal

pub returns : goal.returns
returns c =
    let items = c.args.lists.now.items in
    let place = c.args.path in
    let was : get_or (graph_of c.args.lists.now.items) c.args.path [] ≡ c.index_mut.result.now.items =
    get_or-map (λ (v : Vec ℕ). v.items) items place c.index_mut.result.now [] c.requires ∙ ap (λ (v : Vec ℕ). v.items) (sym c.index_mut.ensures.value) in
    let pushed : c.push.new.self.items ≡ get_or (graph_of c.args.lists.now.items) c.args.path [] ++ c.args.edge ∷ [] =
    c.in_ok-push.ensures.items ∙ ap (λ (l : List ℕ). l ++ c.args.edge ∷ []) (sym was) in
    let many : c.args.path < length (graph_of c.args.lists.now.items) = omega (arith, c.requires, length-map items (λ (v : Vec ℕ). v.items)) in
    puts (graph_of items) _ place c.args.edge c.push.new.self.items many pushed (map-set (λ (v : Vec ℕ). v.items) items place c.push.new.self)
