use Rattle.std.proofs.Common.{◌≡◌, ◌<◌, ◌∷◌, [], ◌++◌, ℕ, false, List, length, get_or, if◌then◌else◌, arith, ap, subst, sym, ◌∙◌}
use Rattle.std.specs.List.{All}
use Rattle.std.proofs.lemmas.List.{get_or_default}
use Rattle.std.proofs.lemmas.List.Elements.{Contains-push}
use Rattle.rev_ranks.specs.Graph.{graph_of, successors_of}
use Rattle.rev_ranks.specs.Walks.{at, IsWalk}
use Rattle.rev_ranks.proofs.Ways.{nodes_are, successors_are, successors_inside}
use Rattle.rev_ranks.proofs.Marks.{marked_within}
use Rattle.rev_ranks.proofs.WalkLemmas.{walk-leaves, walk-goes}
use Rattle.rev_ranks.proofs.leaving.go_on.Goals as goal

pub bounds-successors-node : goal.bounds-successors-node
bounds-successors-node c =
    omega (arith, nodes_are c.args.successors.now, c.requires.walk.each_met, marked_within c.args.met.now.items c.args.node (c.requires.walk.path_met c.args.node (Contains-push c.args.path.now.items c.args.node)))

pub index-place-requires : goal.index-place-requires
index-place-requires c =
    omega (arith, c.args.taken.now.ok.0, c.requires.walk.each_taken, c.requires.walk.each_met, marked_within c.args.met.now.items c.args.node (c.requires.walk.path_met c.args.node (Contains-push c.args.path.now.items c.args.node)))

pub returns-then-place-len-clause-walk : goal.returns-then-place-len-clause-walk
returns-then-place-len-clause-walk c =
    let graph = graph_of c.args.successors.now in
    let met = c.args.met.now.items in
    let taken = c.args.taken.now.items in
    let path = c.args.path.now.items in
    let node = c.args.node in
    let in-met = marked_within met node (c.requires.walk.path_met node (Contains-push path node)) in
    let within : node < length c.args.successors.now = omega (arith, nodes_are c.args.successors.now, c.requires.walk.each_met, in-met) in
    let lists : successors_of graph node ≡ c.index-successors-node.result.items = successors_are c.args.successors.now node c.index-successors-node.result within c.index-successors-node.is in
    let place : c.index-place.result.now ≡ at taken node = c.index-place.ensures ∙ get_or_default taken node _ 0 (omega (arith, c.requires.walk.each_taken, c.requires.walk.each_met, in-met)) in
    subst (λ (xs : List ℕ). IsWalk graph met taken path xs) (sym c.in_ok-push.ensures.items)
    (walk-leaves graph met taken path c.args.left.now.items node c.requires.walk (omega (arith, ap length lists, place, c.if-place-len.true, c.len.ensures, c.index-successors-node.result.ok.0)))

pub index_mut-requires : goal.index_mut-requires
index_mut-requires c =
    omega (arith, c.args.taken.now.ok.0, c.requires.walk.each_taken, c.requires.walk.each_met, marked_within c.args.met.now.items c.args.node (c.requires.walk.path_met c.args.node (Contains-push c.args.path.now.items c.args.node)))

pub meet-requires : goal.meet-requires
meet-requires c =
    let in-met = marked_within c.args.met.now.items c.args.node (c.requires.walk.path_met c.args.node (Contains-push c.args.path.now.items c.args.node)) in
    let within : c.args.node < length c.args.successors.now = omega (arith, nodes_are c.args.successors.now, c.requires.walk.each_met, in-met) in
    let inside : All (λ s. s < length c.args.successors.now) c.index-successors-node.result.items = successors_inside c.args.successors.now c.args.node c.index-successors-node.result c.requires.inside within c.index-successors-node.is in
    let below : get_or c.index-successors-node.result.items c.index-place.result.now c.index-next.result.now < length c.args.successors.now =
    inside c.index-place.result.now c.index-next.result.now (omega (arith, c.if-place-len.false, c.len.ensures, c.index-successors-node.result.ok.0)) in
    omega (arith, below, c.index-next.ensures, nodes_are c.args.successors.now, c.requires.walk.each_met, c.args.met.now.ok.0)

pub returns-clause-walk : goal.returns-clause-walk
returns-clause-walk c =
    let graph = graph_of c.args.successors.now in
    let met = c.args.met.now.items in
    let taken = c.args.taken.now.items in
    let path = c.args.path.now.items in
    let node = c.args.node in
    let list = c.index-successors-node.result in
    let in-met = marked_within met node (c.requires.walk.path_met node (Contains-push path node)) in
    let within : node < length c.args.successors.now = omega (arith, nodes_are c.args.successors.now, c.requires.walk.each_met, in-met) in
    let lists : successors_of graph node ≡ list.items = successors_are c.args.successors.now node list within c.index-successors-node.is in
    let place : c.index-place.result.now ≡ at taken node = c.index-place.ensures ∙ get_or_default taken node _ 0 (omega (arith, c.requires.walk.each_taken, c.requires.walk.each_met, in-met)) in
    let below : c.index-place.result.now < length list.items = omega (arith, c.if-place-len.false, c.len.ensures, list.ok.0) in
    let next : c.index-next.result.now ≡ at (successors_of graph node) c.index-place.result.now = c.index-next.ensures ∙ get_or_default list.items c.index-place.result.now _ 0 below ∙ ap (λ (xs : List ℕ). at xs c.index-place.result.now) (sym lists) in
    let inside : All (λ s. s < length c.args.successors.now) list.items = successors_inside c.args.successors.now node list c.requires.inside within c.index-successors-node.is in
    let next-within : c.index-next.result.now < length graph = omega (arith, inside c.index-place.result.now c.index-next.result.now below, c.index-next.ensures, nodes_are c.args.successors.now) in
    let steps : c.push-2.new.self.items ≡ path ++ node ∷ [] = c.in_ok-push-2.ensures.items in
    let gone = walk-goes graph met taken path c.args.left.now.items node c.index-place.result.now c.index-next.result.now c.requires.walk place (omega (arith, below, ap length lists)) next next-within
    c.meet.new.met.items c.meet.new.path.items c.in_ok-meet.ensures.met
    (c.in_ok-meet.ensures.path ∙ ap (λ (xs : List ℕ). if get_or met c.index-next.result.now false then xs else xs ++ c.index-next.result.now ∷ []) steps) in
    gone.0

pub returns-clause-less : goal.returns-clause-less
returns-clause-less c =
    let graph = graph_of c.args.successors.now in
    let met = c.args.met.now.items in
    let taken = c.args.taken.now.items in
    let path = c.args.path.now.items in
    let node = c.args.node in
    let list = c.index-successors-node.result in
    let in-met = marked_within met node (c.requires.walk.path_met node (Contains-push path node)) in
    let within : node < length c.args.successors.now = omega (arith, nodes_are c.args.successors.now, c.requires.walk.each_met, in-met) in
    let lists : successors_of graph node ≡ list.items = successors_are c.args.successors.now node list within c.index-successors-node.is in
    let place : c.index-place.result.now ≡ at taken node = c.index-place.ensures ∙ get_or_default taken node _ 0 (omega (arith, c.requires.walk.each_taken, c.requires.walk.each_met, in-met)) in
    let below : c.index-place.result.now < length list.items = omega (arith, c.if-place-len.false, c.len.ensures, list.ok.0) in
    let next : c.index-next.result.now ≡ at (successors_of graph node) c.index-place.result.now = c.index-next.ensures ∙ get_or_default list.items c.index-place.result.now _ 0 below ∙ ap (λ (xs : List ℕ). at xs c.index-place.result.now) (sym lists) in
    let inside : All (λ s. s < length c.args.successors.now) list.items = successors_inside c.args.successors.now node list c.requires.inside within c.index-successors-node.is in
    let next-within : c.index-next.result.now < length graph = omega (arith, inside c.index-place.result.now c.index-next.result.now below, c.index-next.ensures, nodes_are c.args.successors.now) in
    let steps : c.push-2.new.self.items ≡ path ++ node ∷ [] = c.in_ok-push-2.ensures.items in
    let gone = walk-goes graph met taken path c.args.left.now.items node c.index-place.result.now c.index-next.result.now c.requires.walk place (omega (arith, below, ap length lists)) next next-within
    c.meet.new.met.items c.meet.new.path.items c.in_ok-meet.ensures.met
    (c.in_ok-meet.ensures.path ∙ ap (λ (xs : List ℕ). if get_or met c.index-next.result.now false then xs else xs ++ c.index-next.result.now ∷ []) steps) in
    gone.1
