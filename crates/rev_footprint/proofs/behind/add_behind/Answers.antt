use Rattle.std.proofs.Common.{◌≡◌, ◌<◌, ℕ, List, length, get_or, ap, arith}
use Rattle.rev_footprint.proofs.BehindLemmas.{at-first, at-next, has-at}
use Rattle.rev_footprint.proofs.behind.add_behind.Goals as goal

pub loop-next-init : goal.loop-next-init
loop-next-init c = at-first c.args.graph.now.manifest.builds c.args.edges.now.keys c.requires

pub add_next-requires : goal.add_next-requires
add_next-requires c =
    let all = c.loop-next.edges.keys in
    let within : c.loop-next.next < length all = omega (arith, c.len.ensures.len, c.if-next-len.false) in
    let same : get_or c.as_slice.result.now c.loop-next.next 0 ≡ get_or all c.loop-next.next 0 = ap (λ (ks : List ℕ). get_or ks c.loop-next.next 0) c.as_slice.ensures.keys in
    (c.loop-next.invariant.phony (get_or c.as_slice.result.now c.loop-next.next 0) (has-at all c.loop-next.next (get_or c.as_slice.result.now c.loop-next.next 0) within same)).is_edge

pub loop-next-preserved : goal.loop-next-preserved
loop-next-preserved c =
    let all = c.loop-next.edges.keys in
    let within : c.loop-next.next < length all = omega (arith, c.len.ensures.len, c.if-next-len.false) in
    let edge = get_or c.as_slice.result.now c.loop-next.next 0 in
    let same : edge ≡ get_or all c.loop-next.next 0 = ap (λ (ks : List ℕ). get_or ks c.loop-next.next 0) c.as_slice.ensures.keys in
    at-next c.args.graph.now.manifest.builds c.args.edges.now.keys all c.add_next.new.edges.keys c.loop-next.next edge within same c.loop-next.invariant c.in_ok-add_next.ensures
