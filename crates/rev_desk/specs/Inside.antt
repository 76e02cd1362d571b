-- What holds of the fields of a desk, and what they show.
use Rattle.std.specs.Prelude.{ℕ, ◌+◌, length}
use Rattle.rev_desk.specs.declared.desk.Desk.TheInside.{Inside}
use Rattle.rev_desk.specs.DeskState.{IsReady, desk_state_value}
use Rattle.rev_desk.specs.Journal.{IsIndexed}
use Rattle.rev_desk.specs.Machine.{DeskValue}
use Rattle.rev_desk.specs.Sound.{IsDesk}

abbrev pub value_of : Inside → DeskValue
value_of a =
    record {
      history = a.desk_state.history.timeline;
      breaks = a.desk_state.breaks.standing.items;
      paused = a.desk_state.paused;
      journal = a.journal.entries.items;
      lanes = length a.journal.numbers.items;
    }

-- The journal led to the desk, and labels and breaks are found by what is kept beside.
pub record IsSound (a : Inside) : Type 0 where
  pub desk : IsDesk (value_of a)
  pub ready : IsReady a.desk_state (length a.journal.entries.items + 1)
  pub indexed : IsIndexed a.journal
