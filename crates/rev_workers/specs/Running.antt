-- What it is that lanes say their commands.
use Rattle.std.specs.Prelude.{ℕ, ◌≡◌, ◌<◌, ◌≤◌, ◌^◌, ◌⊎◌, ⊤, nat_lt, List, [], ◌∷◌, ◌++◌, Option, Some, None, IfSome, length, map, drop, slice_get, Contains, if◌then◌else◌}
use Rattle.std.specs.List.{AllByRecursion}
use Rattle.rev_commands.specs.declared.command.Command.{Command}
use Rattle.rev_desk.specs.declared.reply.Reply.{Reply}
use Rattle.rev_desk.specs.declared.reply.Entry.{Entry}
use Rattle.rev_workers.specs.Tracks.{Track}
use Rattle.rev_workers.specs.Closing.{base_in, part}

-- a list, and then these commands, each with a reply
abbrev pub Continues : List (Command × Reply) → List Command → List (Command × Reply) → Type 0
Continues old commands new =
    (rest : List (Command × Reply)) × (new ≡ old ++ rest) × (map (λ (said : Command × Reply). said.0) rest ≡ commands)

-- a lane that said these commands
abbrev pub Ran : Track → List Command → Track → Type 0
Ran t commands u = (u.number ≡ t.number) × (u.base ≡ t.base) × Continues t.list commands u.list

-- each lane said its commands
abbrev pub AllRan : List (Track × List Command) → List Track → Type 0
AllRan [] [] = ⊤
AllRan [] (u ∷ us) = ⊥
AllRan (j ∷ js) [] = ⊥
AllRan (j ∷ js) (u ∷ us) = Ran j.0 j.1 u × AllRan js us

-- the commands of the lane at a place, none where the trace has no such lane
abbrev pub commands_of : Option (List Command) → List Command
commands_of None = []
commands_of (Some cs) = cs

-- WHAT LANES COME TO
-- a lane that said all that it had to say, with what it had seen and how many commands it had said before that
pub record DoneValue : Type 0 where
  pub lane : Track
  pub seen : ℕ
  pub before : ℕ

abbrev pub lanes_in : List DoneValue → List Track
lanes_in ds = map (λ (d : DoneValue). d.lane) ds

abbrev pub done_numbers : List DoneValue → List ℕ
done_numbers ds = map (λ (d : DoneValue). d.lane.number) ds

abbrev pub DidSay : Track → List Command → DoneValue → Type 0
DidSay t commands d = Ran t commands d.lane × (d.seen ≡ t.seen) × (d.before ≡ length t.list)

-- the gate was told of each of so many commands of a lane, before it was sent and once it was answered; places are kept
-- in 32 bits
abbrev pub AreTold : {S : Type 0} → (S → ℕ → ℕ → Type 0) → (S → ℕ → ℕ → Type 0) → S → ℕ → ℕ → Type 0
AreTold told answered gate lane count =
    (place : ℕ) → 0 < place → place ≤ count → place < 2 ^ 32 → told gate lane place × answered gate lane place

-- a number is not below the least one, where there is one; and it is below
abbrev pub IsFrom : Option ℕ → ℕ → Type 0
IsFrom None n = ⊥
IsFrom (Some least) n = least ≤ n

abbrev pub IsUnder : Option ℕ → ℕ → Type 0
IsUnder None n = ⊤
IsUnder (Some least) n = n < least

-- the gate was told of each command of each job of a number below the least one, of all jobs where there is none
abbrev pub HaveTold : {S : Type 0} → (S → ℕ → ℕ → Type 0) → (S → ℕ → ℕ → Type 0) → S → Option ℕ → List (Track × List Command) → Type 0
HaveTold told answered gate least js =
    AllByRecursion (λ (j : Track × List Command). IsUnder least j.0.number → AreTold told answered gate j.0.number (length j.1)) js

-- the lesser of two numbers, where there is one
abbrev pub lesser : Option ℕ → Option ℕ → Option ℕ
lesser None o = o
lesser (Some m) None = Some m
lesser (Some m) (Some n) = if nat_lt n m then Some n else Some m

-- each lane said its commands, or has a number from the least one on; those that did stand in their order
abbrev pub Covers : Option ℕ → List (Track × List Command) → List DoneValue → Type 0
Covers least [] [] = ⊤
Covers least [] (d ∷ ds) = ⊥
Covers least (j ∷ js) [] = IsFrom least j.0.number × Covers least js []
Covers least (j ∷ js) (d ∷ ds) =
    (IsFrom least j.0.number × Covers least js (d ∷ ds)) ⊎ (DidSay j.0 j.1 d × Covers least js ds)

-- the journal has what a lane said, and nothing else of the lane, past what that had seen before
abbrev pub IsConfirmed : List Entry → DoneValue → Type 0
IsConfirmed journal d = drop d.before d.lane.list ≡ part d.lane.number (drop d.seen journal)

abbrev pub AreConfirmed : List Entry → List DoneValue → Type 0
AreConfirmed journal ds = (k : ℕ) (d : DoneValue) → slice_get ds k ≡ Some d → IsConfirmed journal d

-- n is the number of a lane that stopped or is not confirmed, and all lanes of lesser numbers neither did nor are
pub record IsLeastStopped (stopped : Option ℕ) (ds : List DoneValue) (journal : List Entry) (n : ℕ) : Type 0 where
  pub some : (stopped ≡ Some n) ⊎ Contains (done_numbers ds) n
  pub least : IfSome stopped (λ m. n ≤ m)
  pub confirmed : (k : ℕ) (d : DoneValue) → slice_get ds k ≡ Some d → d.lane.number < n → IsConfirmed journal d

-- WHAT THE JOURNAL SAYS OF LANES
-- since it was last answered, a lane has made these commands its entries, and no others
abbrev pub HasSaid : List Entry → Track → List Command → Type 0
HasSaid journal t commands =
    map (λ (said : Command × Reply). said.0) (part t.number (drop t.seen journal)) ≡ commands

-- so has each lane of a number below n the commands of the list at its place, none past the last list
abbrev pub HaveSaidBelow : ℕ → List Track → List (List Command) → List Entry → Type 0
HaveSaidBelow n ts lists journal =
    (k : ℕ) (t : Track) → slice_get ts k ≡ Some t → t.number < n → HasSaid journal t (commands_of (slice_get lists k))

-- so has each lane
abbrev pub HaveSaid : List Track → List (List Command) → List Entry → Type 0
HaveSaid ts lists journal =
    (k : ℕ) (t : Track) → slice_get ts k ≡ Some t → HasSaid journal t (commands_of (slice_get lists k))

-- each lane with the commands of the list at its place, none past the last list
abbrev pub pair_up : List Track → List (List Command) → List (Track × List Command)
pair_up [] lists = []
pair_up (t ∷ ts) [] = (t, []) ∷ pair_up ts []
pair_up (t ∷ ts) (cs ∷ lists) = (t, cs) ∷ pair_up ts lists

-- in this journal each lane's part is what it had said, and then the commands of the trace's lane at its place
abbrev pub AreSaid : List Track → List (List Command) → List Entry → Type 0
AreSaid ts lists journal =
    (k : ℕ) (t : Track) → slice_get ts k ≡ Some t
    → Continues t.list (commands_of (slice_get lists k)) (part t.number (drop (base_in ts) journal))

-- the numbers of lanes that have something to say
abbrev pub numbers_in : List (Track × List Command) → List ℕ
numbers_in js = map (λ (j : Track × List Command). j.0.number) js

-- these numbers are below a bound
abbrev pub AreBelow : ℕ → List (Track × List Command) → Type 0
AreBelow n js = AllByRecursion (λ (j : Track × List Command). j.0.number < n) js

-- some lane has the number
abbrev pub HasNumber : List Track → ℕ → Type 0
HasNumber ts n = Contains (map (λ t. t.number) ts) n
