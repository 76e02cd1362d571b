-- What an opening shows, and what holds of it.
use Rattle.std.specs.Prelude.{◌≡◌, ℕ, ◌<◌, ◌≤◌, Bool, true, false, None}
use Rattle.std.specs.FinMap as map
use Rattle.rev_cells.specs.declared.cell.Cell.{Cell}
use Rattle.rev_cells.specs.declared.cell.Cell.TheVariants as cell
use Rattle.rev_cells.specs.declared.mark.Mark.TheVariants as mark
use Rattle.rev_cells.specs.declared.opening.Opening.TheInside.{Inside}
use Rattle.rev_cells.specs.State.{State, mark_of, job_of, slot_of, given_depth_of}
use Rattle.rev_cells.specs.Table.{Records}
use Rattle.rev_cells.specs.declared.opening.TheConstants.Opening.{MAX_JOBS}

-- the records that the cells of an opening hold
abbrev pub records_of : Inside → Records
records_of a = record { jobs = a.cells.jobs; state = a.cells.state; places = a.cells.places }

-- the cells of which an opening can have a record: what is known of files, and nothing of a build that is under way
abbrev pub is_of_record : Cell → Bool
is_of_record (cell.Stamp path) = true
is_of_record (cell.Built path) = true
is_of_record (cell.Deps path) = true
is_of_record _ = false

-- each other cell is at its default
abbrev pub HasRecordsAlone : State → Type 0
HasRecordsAlone s = (c : Cell) → is_of_record c ≡ false → map.get s c ≡ None

-- an opening has from 1 to 1,024 jobs, and records alone
pub record IsOpening (r : Records) : Type 0 where
  pub some_jobs : 0 < r.jobs
  pub few_jobs : r.jobs ≤ MAX_JOBS
  pub records : HasRecordsAlone r.state

-- nothing is marked, no job and no slot is held, and each pool has its depth as in the manifest
pub record IsOpened (s : State) : Type 0 where
  pub marks : (edge : ℕ) → mark_of s edge ≡ mark.Idle
  pub jobs : (job : ℕ) → job_of s job ≡ None
  pub slots : (pool place : ℕ) → slot_of s pool place ≡ None
  pub depths : (pool : ℕ) → given_depth_of s pool ≡ None
