use Rattle.std.proofs.Common.{◌≡◌, ◌<◌, Option, Some, arith}
use Rattle.std.proofs.lemmas.Result.{IfOk-weaker}
use Rattle.std.specs.Option.{option_copied}
use Rattle.rev_cells.specs.declared.cell.Cell.{Cell}
use Rattle.rev_history.specs.Timeline.{kept_footprint}
use Rattle.rev_held.specs.Dependence.{dependence_of}
use Rattle.rev_held.specs.Several.{IsNamed}
use Rattle.rev_held.proofs.SeveralLemmas.{cell-back, cell-of}
use Rattle.rev_held.proofs.linked.one_of.Goals as goal

pub returns-in-Some-first_named : goal.returns-in-Some-first_named
returns-in-Some-first_named c =
    let t = c.args.history.now.timeline in
    let less : c.args.one < c.args.other = omega (arith, c.if-one-other.false) in
    IfOk-weaker c.copied.result (λ (copy : Option Cell). copy ≡ Some c.in-Some-first_named.cell.now)
    (λ (cell : Option Cell). Some c.args.second.now ≡ kept_footprint t c.args.other → IsNamed c.args.second.now c.args.named.now.keys → cell ≡ dependence_of t c.args.one c.args.other)
    (λ copy is second names.
    cell-of t c.args.one c.args.other c.in-Some.first c.args.second.now c.args.named.now.keys c.writes.result c.in-Some-first_named.cell.now copy less c.in-Some.ensures second names
    c.writes.ensures.same c.in-Some-first_named.ensures is)
    c.copied.ensures

pub returns-in-None : goal.returns-in-None
returns-in-None c =
    let t = c.args.history.now.timeline in
    let less : c.args.one < c.args.other = omega (arith, c.if-one-other.false) in
    IfOk-weaker c.copied-in-None.result (λ (copy : Option Cell). copy ≡ option_copied c.first_accessed.result)
    (λ (cell : Option Cell). Some c.args.second.now ≡ kept_footprint t c.args.other → IsNamed c.args.second.now c.args.named.now.keys → cell ≡ dependence_of t c.args.one c.args.other)
    (λ copy is second names.
    cell-back t c.args.one c.args.other c.in-Some.first c.args.second.now c.args.named.now.keys c.writes.result c.writes-in-None.result (option_copied c.first_accessed.result) copy less
    c.in-Some.ensures second names c.writes.ensures.same c.in-None.ensures c.writes-in-None.ensures.same c.first_accessed.ensures is)
    c.copied-in-None.ensures
