use Rattle.std.proofs.Common.{◌≡◌, ◌<◌, ℕ, ap, sym, subst, ◌∙◌, arith, map, set, get_or, IfSome, slice_get, Some, vec_len, vec_capacity, length, length-set, get_or-set_same}
use Rattle.std.proofs.Math.Seq.{map-set_same}
use Rattle.std.proofs.lemmas.Option.{slice_get-get_or}
use Rattle.rev_desk.proofs.JournalLemmas.{IsIndexed-same}
use Rattle.rev_desk.proofs.journal.Journal.reserve.Goals as goal

pub returns-in_err-reserve-2-clause-indexed : goal.returns-in_err-reserve-2-clause-indexed
returns-in_err-reserve-2-clause-indexed c =
    IsIndexed-same c.args.self.now _ c.reserve.ensures.items
    (map-set_same (λ v. v.items) c.args.self.now.numbers.items c.args.lane c.reserve-2.new.self c.index_mut.result.now (c.reserve-2.ensures.items ∙ ap (λ v. v.items) c.index_mut.ensures.value))
    c.requires.indexed

pub returns-clause-indexed : goal.returns-clause-indexed
returns-clause-indexed c =
    IsIndexed-same c.args.self.now _ c.reserve.ensures.items
    (map-set_same (λ v. v.items) c.args.self.now.numbers.items c.args.lane c.reserve-2.new.self c.index_mut.result.now (c.reserve-2.ensures.items ∙ ap (λ v. v.items) c.index_mut.ensures.value))
    c.requires.indexed

pub returns-clause-room : goal.returns-clause-room
returns-clause-room c =
    let w = c.reserve-2.new.self in
    let ws = set c.args.self.now.numbers.items c.args.lane w in
    let within : c.args.lane < length ws = subst (λ n. c.args.lane < n) (sym (length-set c.args.self.now.numbers.items c.args.lane w)) c.requires.lane in
    let at : slice_get ws c.args.lane ≡ Some w = slice_get-get_or ws c.args.lane w within ∙ ap Some (get_or-set_same c.args.self.now.numbers.items c.args.lane w w c.requires.lane) in
    let room : vec_len w < vec_capacity w = omega (arith, c.in_ok-reserve-2.ensures.ok) in
    record {
      entries = omega (arith, c.in_ok-reserve.ensures.ok);
      numbers = subst (λ o. IfSome o (λ v. vec_len v < vec_capacity v)) (sym at) room;
    }
