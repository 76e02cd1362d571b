-- The certificate of a recording.
use Rattle.std.specs.Prelude.{◌≡◌, ℕ, Bool, false, true, List, length, map}
use Rattle.std.specs.List.{list_any}
use Rattle.rev_filters.specs.Patterns.{is_hidden}
use Rattle.rev_manifest.specs.Manifest.{BuildValue}
use Rattle.rev_observation.specs.Observations.{ObservationValue}
use Rattle.rev_ranks.specs.Graph.{graph_of}
use Rattle.rev_history.specs.Timeline.{Timeline}
use Rattle.rev_races.specs.Answer.{AreNoted}
use Rattle.rev_conflicts.specs.Tables.{AreEarly}
use Rattle.rev_entry_conflicts.specs.Conflicts.{conflicts}
use Rattle.rev_entry_conflicts.specs.Orders.{scene}
use Rattle.rev_scene.specs.Scenes.{entries_of, run_value, runs_of, steps_of}
use Rattle.rev_certificate.specs.Obstacles.{obstacles}
use Rattle.rev_certificate.specs.declared.certificate.Certificate.{Certificate}
use Rattle.rev_certainty.specs.Needed.{AreNeeded}
use Rattle.rev_certainty.specs.declared.known.Known.{Known}

-- a mark for each path: whether one of the filters hides it
abbrev pub hidden_marks : List (List (List ℕ)) → List (List ℕ) → List Bool
hidden_marks filters paths =
    map (λ (path : List ℕ). list_any (λ (patterns : List (List ℕ)). is_hidden patterns path) filters) paths

-- What is known of each edge is what the kept events of the recording and its build lines say: what the targets need,
-- whose commands began, and whose ended well, and who makes what the manifest is read from. An entry is hidden where
-- a filter hides it.
pub record IsKnown (t : Timeline) (files : List (List ℕ)) (o : ObservationValue) (filters : List (List (List ℕ))) (k : Known) : Type 0 where
  pub needed : AreNeeded t k.needed.items
  pub began : AreNoted t false k.began.items
  pub ended : AreNoted t true k.ended.items
  pub early : AreEarly t.manifest.builds files k.early.items
  pub hidden : k.hidden.items ≡ hidden_marks filters o.entries.paths

-- A certificate is of the scene of the observation, and its obstacles are those of the definition, by what is known.
pub record IsCertified (graph builds : List BuildValue) (o : ObservationValue) (edges : List ℕ) (k : Known) (c : Certificate) : Type 0 where
  pub steps : graph_of c.scene.steps.items ≡ steps_of graph
  pub entries : c.scene.entries.items ≡ entries_of graph o k.hidden.items
  pub commands : map run_value c.scene.commands.items ≡ runs_of (length graph) builds o edges k.early.items
  pub obstacles_are : c.obstacles.items ≡ obstacles graph o edges k.early.items k.needed.items k.began.items k.ended.items
      (conflicts (scene c.scene.steps.items c.scene.entries.items c.scene.commands.items))

-- The certificate of a recording, with nothing free: all that it goes by is what the readers of the recording gave.
pub record IsCertificateOf (t : Timeline) (files : List (List ℕ)) (builds : List BuildValue) (o : ObservationValue)
    (edges : List ℕ) (filters : List (List (List ℕ))) (c : Certificate) : Type 0 where
  pub known : Known
  pub is_known : IsKnown t files o filters known
  pub certified : IsCertified t.manifest.builds builds o edges known c
