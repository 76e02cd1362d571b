-- When it is certain that no schedule gives the commands of a recorded build other inputs.
use Rattle.std.specs.Prelude.{◌≡◌, ℕ, ◌<◌, ◌↔◌, Bool, true, false, List, [], length}
use Rattle.rev_graph.specs.Graph.{build_at}
use Rattle.rev_ranks.specs.Sets.{is_marked}
use Rattle.rev_observed.specs.CommandValues.{CommandValue}
use Rattle.rev_observed.specs.Flags.{is_whole}
use Rattle.rev_conflicts.specs.declared.conflict.Conflict.{Conflict}
use Rattle.rev_conflicts.specs.Conflicts.{Ran, Scene, runs_first}
use Rattle.rev_conflicts.specs.Answer.{IsConflict}

-- the command of an edge is in the observation, and none of its flags is set
pub record IsSeenWhole (s : Scene) (edge : ℕ) : Type 0 where
  pub number : ℕ
  pub command : CommandValue
  pub ran : Ran s number edge command
  pub whole : is_whole command.flags ≡ true

-- a mark for each edge whose command was observed whole
pub record AreSeenWhole (s : Scene) (marks : List Bool) : Type 0 where
  pub each : length marks ≡ length s.builds
  pub exact : (edge : ℕ) → (is_marked marks edge ≡ true) ↔ IsSeenWhole s edge

-- It is certain. Marks say of each edge whether the targets need it, and whether its command began here, and ended well.
pub record IsCertain (s : Scene) (needed began ended : List Bool) : Type 0 where
  -- each command that the targets need ended well here, but for those that make what the manifest is read from
  pub all_ran : (edge : ℕ) → edge < length s.builds → is_marked needed edge ≡ true
      → (build_at s.builds edge).phony ≡ false → runs_first s.builds s.files edge ≡ false
      → is_marked ended edge ≡ true
  -- each command that began here ended well,
  pub ended_well : (edge : ℕ) → edge < length s.builds → is_marked began edge ≡ true → is_marked ended edge ≡ true
  -- makes nothing that the manifest is read from,
  pub comes_later : (edge : ℕ) → edge < length s.builds → is_marked began edge ≡ true
      → runs_first s.builds s.files edge ≡ false
  -- and was observed whole
  pub seen : (edge : ℕ) → edge < length s.builds → is_marked began edge ≡ true → IsSeenWhole s edge
  -- and no two commands conflict, in order or not
  pub quiet : (c : Conflict) → IsConflict s c → ⊥

-- nothing stands in the way
pub record AreNone (missing unsure : List ℕ) (conflicts : List Conflict) : Type 0 where
  pub none_missing : missing ≡ []
  pub none_unsure : unsure ≡ []
  pub none_conflict : conflicts ≡ []
