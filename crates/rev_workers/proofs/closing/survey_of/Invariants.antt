use Rattle.std.proofs.Common.{◌≡◌, ◌<◌, ℕ, Contains, IfSome, None, Some, drop, slice_get}
use Rattle.rev_workers.specs.Closing.{base_in, part}
use Rattle.rev_workers.specs.Running.{DoneValue, IsConfirmed, IsUnder, done_numbers, lanes_in}
use Rattle.rev_workers.proofs.closing.survey_of.Given as goal

abbrev pub invariant-loop-place : goal.invariant-loop-place
invariant-loop-place g l =
    record {
      among : IfSome l.unconfirmed (λ n. Contains (done_numbers l.done) n);
      confirmed : (k : ℕ) → k < l.place → (d : DoneValue) → slice_get l.done k ≡ Some d → IsUnder l.unconfirmed d.lane.number → IsConfirmed l.journal d;
      stated : l.unconfirmed ≡ None → l.misstated ≡ None → (k : ℕ) → k < l.place → (d : DoneValue) → slice_get l.done k ≡ Some d
          → d.lane.list ≡ part d.lane.number (drop (base_in (lanes_in l.done)) l.journal);
    }
