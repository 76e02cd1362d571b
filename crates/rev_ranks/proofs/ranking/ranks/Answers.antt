use Rattle.std.proofs.Common.{◌≡◌, ℕ, List, length, arith, refl, subst}
use Rattle.rev_ranks.specs.Graph.{graph_of, IsLeastOnCycle}
use Rattle.rev_ranks.specs.Certificate.{FallsBelow, IsFirstLevel}
use Rattle.rev_ranks.proofs.Ways.{nodes_are, steps_from_node}
use Rattle.rev_ranks.proofs.Certificates.{acyclic_by, least_by, level-cycle}
use Rattle.rev_ranks.proofs.ranking.ranks.Goals as goal

pub returns-in-None-clause-ok : goal.returns-in-None-clause-ok
returns-in-None-clause-ok c =
    let graph = graph_of c.args.successors.now in
    let falls : FallsBelow graph c.in_ok-numbers.numbers.items (length c.args.successors.now) = subst (λ (ns : List ℕ). FallsBelow graph ns (length c.args.successors.now)) c.deref.ensures.value c.in-None.ensures in
    record {
      length_is = c.in_ok-numbers.ensures.certificate.length_is;
      bounded = c.in_ok-numbers.ensures.certificate.bounded;
      falls = λ n s st. falls n s (omega (arith, nodes_are c.args.successors.now, steps_from_node graph n s st)) st;
    }

pub returns-in-None-clause-acyclic : goal.returns-in-None-clause-acyclic
returns-in-None-clause-acyclic c = acyclic_by c.args.successors.now c.in_ok-numbers.numbers.items c.deref.result.now c.deref.ensures.value c.in_ok-numbers.ensures.certificate c.in-None.ensures

pub returns-in-Some-clause-cycle : goal.returns-in-Some-clause-cycle
returns-in-Some-clause-cycle c = λ n e.
    let graph = graph_of c.args.successors.now in
    let node = c.in-Some.node in
    let numbers = c.in_ok-numbers.numbers.items in
    let first : IsFirstLevel graph numbers node = subst (λ (ns : List ℕ). IsFirstLevel graph ns node) c.deref.ensures.value c.in-Some.ensures.1 in
    let way = level-cycle graph numbers node c.in_ok-numbers.ensures.certificate c.in_ok-numbers.ensures.back first in
    let least : IsLeastOnCycle graph node = least_by c.args.successors.now node numbers numbers refl c.in_ok-numbers.ensures.certificate c.in-Some.ensures.0 first way in
    let named : node ≡ n = cc in
    subst (IsLeastOnCycle graph) named least
