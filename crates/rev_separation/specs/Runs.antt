-- What one run of a command had done by a moment.
use Rattle.std.specs.Prelude.{ℕ, ◌&&◌, Bool, true, nat_le, nat_lt, Option, Some, None}
use Rattle.rev_separation.specs.declared.build.Run.{Run}

-- an end comes after a moment: what was stopped has no end, and so none before
abbrev pub ends_after : ℕ → Option ℕ → Bool
ends_after moment None = true
ends_after moment (Some ended) = nat_lt moment ended

-- the run had not ended by the moment
abbrev pub is_open : ℕ → Run → Bool
is_open moment run = ends_after moment run.ended

-- the run had not begun by the moment: it begins then or later, and has not ended by then
abbrev pub is_ahead : ℕ → Run → Bool
is_ahead moment run = nat_le moment run.began && is_open moment run
