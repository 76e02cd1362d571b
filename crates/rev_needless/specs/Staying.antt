-- What nodes still wait for where a build has fewer orders, as tests.
use Rattle.std.specs.Prelude.{◌≡◌, ℕ, nat_eq, Bool, not, ◌&&◌, ◌||◌, List, length}
use Rattle.std.specs.List.{list_all, range_with_len}
use Rattle.rev_ranks.specs.Graph.{successors_of}
use Rattle.rev_ranks.specs.Leads.{leads_to}
use Rattle.rev_ranks.specs.Sets.{is_marked}

-- the one node waits for the other: a way of one step or more leads there
abbrev pub waits : List (List ℕ) → ℕ → ℕ → Bool
waits graph user maker = leads_to graph (nat_eq maker) user

abbrev pub implies : Bool → Bool → Bool
implies one other = not one || other

-- where the one waits for the other before, it does after
abbrev pub still_waits : List (List ℕ) → List (List ℕ) → ℕ → ℕ → Bool
still_waits before after user maker = implies (waits before user maker) (waits after user maker)

-- so it is of a node and some others, and of each node and those of its list
abbrev pub row_stays : List (List ℕ) → List (List ℕ) → ℕ → List ℕ → Bool
row_stays before after user makers = list_all (still_waits before after user) makers

abbrev pub rows_stay : List (List ℕ) → List (List ℕ) → List (List ℕ) → Bool
rows_stay before after rows =
    list_all (λ user. row_stays before after user (successors_of rows user)) (range_with_len 0 (length before))

-- each command passes a test
abbrev pub each_command : List Bool → (ℕ → Bool) → Bool
each_command commands test = list_all (λ n. implies (is_marked commands n) (test n)) (range_with_len 0 (length commands))

-- so it is of some nodes and each command
abbrev pub roots_stay : List (List ℕ) → List (List ℕ) → List Bool → List ℕ → Bool
roots_stay before after commands roots = list_all (λ root. each_command commands (still_waits before after root)) roots

-- and of each command and some nodes
abbrev pub are_awaited : List (List ℕ) → List (List ℕ) → List Bool → List ℕ → Bool
are_awaited before after commands nodes =
    list_all (λ node. each_command commands (λ command. still_waits before after command node)) nodes

unfoldable pub all_stay : List (List ℕ) → List (List ℕ) → List (List ℕ) → List ℕ → List ℕ → List Bool → Bool
all_stay before after conflicts targets unseen commands =
    rows_stay before after conflicts && (roots_stay before after commands targets
    && (roots_stay before after commands unseen && are_awaited before after commands unseen))

-- MARKS
-- exactly what a node waits for has a mark
pub record AreReached (graph : List (List ℕ)) (node : ℕ) (marks : List Bool) : Type 0 where
  pub exact : (n : ℕ) → is_marked marks n ≡ waits graph node n
