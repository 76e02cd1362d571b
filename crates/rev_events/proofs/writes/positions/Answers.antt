use Rattle.std.proofs.Common.{◌≡◌, ℕ, ap, ◌∙◌, ◌++◌, arith}
use Rattle.std.specs.Prelude.{filter, length, map}
use Rattle.std.specs.List.{range_with_len}
use Rattle.std.specs.Global.{Vec}
use Rattle.rev_dirty.specs.Reasons.{holds_at}
use Rattle.rev_dirty.proofs.ChosenLemmas.{chosen-yes, chosen-no}
use Rattle.rev_events.proofs.AddsLemmas.{map-same-items}
use Rattle.rev_events.proofs.writes.positions.Goals as goal
use Rattle.rev_events.proofs.writes.positions.Goals.{then-flag+in_ok-push, else-flag}

pub loop-position-preserved : goal.loop-position-preserved
loop-position-preserved c =
    let i = c.loop-position.position in
    let xs = c.args.flags.now in
    elim c.if-flag.branch [
      | then-flag+in_ok-push w ↦
          ap (λ (v : Vec ℕ). v.items) w.positions-is
          ∙ chosen-yes (λ n. n) (λ flag. flag) xs i _ c.new-positions.result.items c.loop-position.positions.items w.push.new.self.items c.loop-position-test.true
          w.if-flag.true c.loop-position.invariant w.in_ok-push.ensures.items
      | else-flag w ↦
          ap (λ (v : Vec ℕ). v.items) w.positions-is
          ∙ chosen-no (λ n. n) (λ flag. flag) xs i _ c.new-positions.result.items c.loop-position.positions.items c.loop-position-test.true w.if-flag.false c.loop-position.invariant
    ]

pub returns : goal.returns
returns c =
    let flags = c.args.flags.now in
    let chosen = filter (holds_at (λ flag. flag) flags) (range_with_len 0 c.loop-position.position) in
    let all : c.loop-position.position ≡ length flags = omega arith in
    c.loop-position.invariant ∙ ap (λ ps. ps ++ map (λ n. n) chosen) c.new-positions.ensures.items ∙ map-same-items chosen
    ∙ ap (λ (n : ℕ). filter (holds_at (λ flag. flag) flags) (range_with_len 0 n)) all
