-- What ran in one build.
use Rattle.std.specs.Prelude.{ℕ, Bool, slice_index_or, is_some, Option, None}
use Rattle.rev_separation.specs.declared.build.Build.{Build}
use Rattle.rev_separation.specs.declared.build.Run.{Run}

-- the run of a command, if it ran
abbrev pub run_of : Build → ℕ → Option Run
run_of build command = slice_index_or build.runs.items command None

abbrev pub ran : ℕ → Build → Bool
ran command build = is_some (run_of build command)
