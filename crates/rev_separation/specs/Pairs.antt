-- How two commands stood to each other in one build.
use Rattle.std.specs.Prelude.{ℕ, ◌+◌, ◌&&◌, Bool, false, not, Option, Some, None}
use Rattle.rev_separation.specs.declared.build.Build.{Build}
use Rattle.rev_separation.specs.declared.build.Fate.{Fate}
use Rattle.rev_separation.specs.declared.build.Fate.TheVariants.{Failed, Passed, Neither}
use Rattle.rev_separation.specs.declared.build.Run.{Run}
use Rattle.rev_separation.specs.declared.pair.Pair.{Pair}
use Rattle.rev_separation.specs.Builds.{ran, run_of}
use Rattle.rev_separation.specs.Runs.{is_ahead, is_open}

-- The builds that count are those in which the anchor failed, or those in which it passed.
abbrev pub counts : Bool → Fate → Bool
counts failed Failed = failed
counts failed Passed = not failed
counts failed Neither = false

-- Both commands ran, and their runs pass a test. An order counts nowhere else: where one of the two did not run, they
-- stood in no order.
abbrev pub of_both : (Run → Run → Bool) → Option Run → Option Run → Bool
of_both test (Some first) (Some run) = test first run
of_both test (Some first) None = false
of_both test None run = false

-- both ran, in a build that counts
abbrev pub both_ran : Pair → Build → Bool
both_ran pair build = counts pair.failed build.fate && (ran pair.anchor build && ran pair.other build)

-- both ran, and the other command had not ended so many milliseconds after the anchor began
abbrev pub had_not_ended : Pair → Build → Bool
had_not_ended pair build =
    counts pair.failed build.fate
    && of_both (λ first run. is_open (first.began + pair.after) run) (run_of build pair.anchor)
    (run_of build pair.other)

-- both ran, and the other command had not begun so many milliseconds after the anchor began
abbrev pub had_not_begun : Pair → Build → Bool
had_not_begun pair build =
    counts pair.failed build.fate
    && of_both (λ first run. is_ahead (first.began + pair.after) run) (run_of build pair.anchor)
    (run_of build pair.other)

-- the anchor ran, in a build that counts, and the other command did not
abbrev pub ran_alone : Pair → Build → Bool
ran_alone pair build = counts pair.failed build.fate && (ran pair.anchor build && not (ran pair.other build))
