use Rattle.std.proofs.Common.{◌<◌, ◌≤◌, length, refl, arith}
use Rattle.rev_accesses.specs.Users.{listed, other}
use Rattle.rev_accesses.proofs.PlaceLemmas.{gone_there, left_there, none_gone, thinned_there}
use Rattle.rev_accesses.proofs.ThinnedLemmas.{thinned_same}
use Rattle.rev_accesses.proofs.index.remove_member_at.Goals as goal

pub returns-then-place-len-clause-thinned : goal.returns-then-place-len-clause-thinned
returns-then-place-len-clause-thinned c =
    let lt : c.args.place < length c.args.index.now.items = omega (arith, c.if-place-len.true, c.len.ensures, c.args.index.now.ok.0) in
    thinned_there c.args.access c.args.index.now.items c.args.place c.index_mut.result.now c.remove_members.new.self lt c.index_mut.ensures.value c.args.members.now c.remove_members.ensures.thinned

pub returns-then-place-len-clause-gone : goal.returns-then-place-len-clause-gone
returns-then-place-len-clause-gone c =
    let lt : c.args.place < length c.args.index.now.items = omega (arith, c.if-place-len.true, c.len.ensures, c.args.index.now.ok.0) in
    gone_there c.args.access c.args.index.now.items c.args.place c.index_mut.result.now c.remove_members.new.self lt c.index_mut.ensures.value c.args.number c.remove_members.ensures.gone

pub returns-then-place-len-clause-rest : goal.returns-then-place-len-clause-rest
returns-then-place-len-clause-rest c =
    let lt : c.args.place < length c.args.index.now.items = omega (arith, c.if-place-len.true, c.len.ensures, c.args.index.now.ok.0) in
    left_there (other c.args.access) c.args.index.now.items c.args.place c.index_mut.result.now c.remove_members.new.self lt c.index_mut.ensures.value (λ ks. ks) c.remove_members.ensures.rest

pub returns-else-place-len-clause-thinned : goal.returns-else-place-len-clause-thinned
returns-else-place-len-clause-thinned c =
    thinned_same c.args.members.now (listed c.args.access c.args.index.now.items) (listed c.args.access c.args.index.now.items) (λ q. refl)

pub returns-else-place-len-clause-gone : goal.returns-else-place-len-clause-gone
returns-else-place-len-clause-gone c =
    let le : length c.args.index.now.items ≤ c.args.place = omega (arith, c.if-place-len.false, c.len.ensures, c.args.index.now.ok.0) in
    none_gone c.args.access c.args.index.now.items c.args.place le c.args.number
