-- What holds of every desk.
use Rattle.std.specs.Prelude.{◌≡◌, ℕ, ◌<◌, ◌≤◌, List, [], ◌∷◌, length}
use Rattle.std.specs.List.{AllByRecursion}
use Rattle.rev_history.specs.Timeline.{IsHistory}
use Rattle.rev_desk.specs.declared.desk.TheConstants.Desk.{MAX_ENTRIES, MAX_LANES}
use Rattle.rev_desk.specs.declared.reply.Entry.{Entry}
use Rattle.rev_desk.specs.Machine.{DeskValue, opened_desk, reply_to, after}

-- the desk as it opened
abbrev pub opening_of : DeskValue → DeskValue
opening_of d = opened_desk d.history.manifest d.history.jobs d.history.opening d.lanes

-- where the commands of a journal lead
abbrev pub run_of : DeskValue → List Entry → DeskValue
run_of d [] = d
run_of d (e ∷ es) = run_of (after d e.lane e.command) es

-- A journal is legal where each entry is of a lane, and its reply is the machine's at its place.
abbrev pub IsLegalFrom : DeskValue → List Entry → Type 0
IsLegalFrom d [] = Unit {0}
IsLegalFrom d (e ∷ es) =
    (e.lane < d.lanes) × (e.reply ≡ reply_to d e.command) × IsLegalFrom (after d e.lane e.command) es

-- The journal is legal from the opening, and leads to the desk, whose kept events are accepted one after the other from
-- the opening.
pub record IsDesk (d : DeskValue) : Type 0 where
  pub legal : IsLegalFrom (opening_of d) d.journal
  pub led : run_of (opening_of d) d.journal ≡ d
  pub history : IsHistory d.history
  pub few : length d.journal ≤ MAX_ENTRIES
  pub some : 1 ≤ d.lanes
  pub most : d.lanes ≤ MAX_LANES
