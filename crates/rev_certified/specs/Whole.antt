-- Commands that were observed whole, as marks of their edges.
use Rattle.std.specs.Prelude.{◌≡◌, ℕ, ◌<◌, ◌↔◌, Bool, true, List, slice_index_or}
use Rattle.rev_ranks.specs.Sets.{is_marked}
use Rattle.rev_observed.specs.CommandValues.{CommandValue}
use Rattle.rev_observed.specs.Flags.{is_whole}

-- one of the first commands is the edge's, and has no flag
pub record IsWholeBelow (commands : List CommandValue) (edges : List ℕ) (count edge : ℕ) : Type 0 where
  pub number : ℕ
  pub command : CommandValue
  pub below : number < count
  pub is : slice_index_or commands number command ≡ command
  pub of : slice_index_or edges number 0 ≡ edge
  pub whole : is_whole command.flags ≡ true

-- exactly the edges of these have a mark
abbrev pub AreWholeBy : List CommandValue → List ℕ → ℕ → List Bool → Type 0
AreWholeBy commands edges count marks =
    (edge : ℕ) → (is_marked marks edge ≡ true) ↔ IsWholeBelow commands edges count edge
