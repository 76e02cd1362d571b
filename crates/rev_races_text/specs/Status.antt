-- The exit status of what is told.
use Rattle.std.specs.Prelude.{ℕ, ◌==◌, ◌&&◌, ◌||◌, Bool, not, if◌then◌else◌, length}
use Rattle.rev_races_text.specs.declared.failed.Replayed.{Replayed}
use Rattle.rev_races_text.specs.declared.report.Report.{Report}

-- something is found: by an observation, a race of any kind, by a list or by an error, or a clash
abbrev pub is_found : Report → Bool
is_found r = not (r.before == 0) || not (length r.races.items == 0) || not (length r.clashes.items == 0)

-- each command that began ended, and none was refused or left out
abbrev pub is_whole : Replayed → Bool
is_whole r = r.left == 0 && (r.refused == 0 && r.running == 0)

-- 4 where something is found; else 0 where nothing failed and the build was recorded whole, and 5 otherwise
abbrev pub status_of : Report → ℕ
status_of r =
    if is_found r then 4 else (if length r.failures.items == 0 && is_whole r.replayed then 0 else 5)
