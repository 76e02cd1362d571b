-- What it is to close a desk with its lanes.
use Rattle.std.specs.Prelude.{ℕ, ◌+◌, ◌<◌, ◌≡◌, ◌≢◌, ◌==◌, List, [], ◌∷◌, Result, Ok, Err, drop, if◌then◌else◌, nat_lt, length}
use Rattle.std.specs.List.{count_by, sum_by, AllByRecursion}
use Rattle.rev_commands.specs.declared.command.Command.{Command}
use Rattle.rev_desk.specs.declared.reply.Reply.{Reply}
use Rattle.rev_desk.specs.declared.reply.Entry.{Entry}
use Rattle.rev_desk.specs.Machine.{DeskValue}
use Rattle.rev_workers.specs.declared.fault.CloseFault.{CloseFault}
use Rattle.rev_workers.specs.Tracks.{Track}

-- how many of the lanes have a number
abbrev pub numbered : ℕ → List Track → ℕ
numbered n ts = count_by (λ t. t.number == n) ts

-- how many should have it, where there are so many lanes
abbrev pub due : ℕ → ℕ → ℕ
due lanes n = if nat_lt n lanes then 1 else 0

-- one lane of each number below a bound, and no others
abbrev pub IsOneOfEach : ℕ → List Track → Type 0
IsOneOfEach lanes ts = (n : ℕ) → numbered n ts ≡ due lanes n

-- n is the least number of which there are not as many lanes as should be
abbrev pub IsMissing : ℕ → List Track → ℕ → Type 0
IsMissing lanes ts n = (numbered n ts ≢ due lanes n) × ((m : ℕ) → m < n → numbered m ts ≡ due lanes m)

-- how many entries the lanes know of
abbrev pub entries_of : List Track → ℕ
entries_of ts = sum_by (λ t. t.base + length t.list) ts

-- the base of lane 0
abbrev pub base_in : List Track → ℕ
base_in [] = 0
base_in (t ∷ ts) = if t.number == 0 then t.base else base_in ts

-- what a lane said and was told, by these entries
abbrev pub part : ℕ → List Entry → List (Command × Reply)
part n [] = []
part n (e ∷ es) = if e.lane == n then (e.command, e.reply) ∷ part n es else part n es

-- the list of the lane of a number is its part of the journal past the first b entries
abbrev pub IsStated : ℕ → List Entry → List Track → ℕ → Type 0
IsStated b journal ts n = AllByRecursion (λ t. t.number ≡ n → t.list ≡ part n (drop b journal)) ts

-- the list of each lane is its part
abbrev pub AreStated : ℕ → List Entry → List Track → Type 0
AreStated lanes journal ts = (n : ℕ) → n < lanes → IsStated (base_in ts) journal ts n

-- n is the least lane whose list is not its part
abbrev pub IsMisstated : ℕ → List Entry → List Track → ℕ → Type 0
IsMisstated lanes journal ts n =
    (n < lanes) × ¬ (IsStated (base_in ts) journal ts n) × ((m : ℕ) → m < n → IsStated (base_in ts) journal ts m)

-- the desk that is handed back
abbrev pub left_by : Result DeskValue CloseFault → DeskValue
left_by (Ok desk) = desk
left_by (Err fault) = fault.desk
