-- What a question that only asks is answered.
use Rattle.std.specs.Prelude.{◌≡◌, ℕ, ⊤, List, [], ◌∷◌, Option, Some, None}
use Rattle.rev_cells.specs.declared.cell.Cell.TheVariants.{Built, Deps, Mark, Stamp}
use Rattle.rev_desk.specs.Machine.{DeskValue}
use Rattle.rev_history.specs.Timeline.{Timeline, state_at}
use Rattle.rev_listing.specs.Logs.{logs_text}
use Rattle.rev_listing.specs.Marks.{marks_text}
use Rattle.rev_listing.specs.Stamps.{stamps_text}
use Rattle.rev_observed.specs.Observations.{ObservationValue}
use Rattle.rev_order_text.specs.Ordered.{IsOrdered, run_again}
use Rattle.rev_prompt.specs.declared.answers.Answer.{Answer}
use Rattle.rev_prompt.specs.declared.answers.Answer.TheVariants as answer
use Rattle.rev_prompt.specs.declared.question.Question.{Question}
use Rattle.rev_prompt.specs.declared.question.Question.TheVariants as question
use Rattle.rev_prompt.specs.Answers.{IsDependents, IsNeeds, IsNoOutput, IsWho, IsWhy, IsWith, OfOutput}
use Rattle.rev_prompt.specs.Cones.{IsWouldCone}
use Rattle.rev_prompt.specs.Lines.{only}
use Rattle.rev_prompt.specs.Named.{OfEvent, OfEvents}
use Rattle.rev_prompt.specs.Users.{IsReaders, IsWriters}

-- the kept events
abbrev pub IsKept : Timeline → Answer → Type 0
IsKept t (answer.Kept numbers) = numbers.items ≡ t.kept
IsKept t _ = ⊥

-- exactly these lines
abbrev pub AreLines : List ℕ → Answer → Type 0
AreLines lines (answer.Lines text) = text.items ≡ lines
AreLines lines _ = ⊥

-- the line of a file that is not missing
abbrev pub stamp_at : Timeline → List ℕ → List ℕ
stamp_at t path = stamps_text (only (state_at t) (Stamp path ∷ []))

-- the files that are not missing, or this one
abbrev pub AreStamps : Timeline → Option (List ℕ) → Answer → Type 0
AreStamps t None told = AreLines (stamps_text (state_at t)) told
AreStamps t (Some path) told = AreLines (stamp_at t path) told

-- the lines of the records of an output
abbrev pub records_at : Timeline → List ℕ → List ℕ
records_at t path = logs_text (only (state_at t) (Built path ∷ Deps path ∷ []))

-- what the logs have, or what they have of an output
abbrev pub AreLogs : Timeline → Option (List ℕ) → Answer → Type 0
AreLogs t None told = AreLines (logs_text (state_at t)) told
AreLogs t (Some path) told = AreLines (records_at t path) told

-- the line of an edge that is not Idle
abbrev pub mark_at : Timeline → ℕ → List ℕ
mark_at t edge = marks_text t.manifest.builds (only (state_at t) (Mark edge ∷ []))

-- how far edges have come and what is held, or how far the edge of an output has come
abbrev pub IsMarks : Timeline → Option (List ℕ) → Answer → Type 0
IsMarks t None told = AreLines (marks_text t.manifest.builds (state_at t)) told
IsMarks t (Some out) (answer.NoOutput path) = IsNoOutput t out path
IsMarks t (Some out) told = OfOutput t out (λ edge. AreLines (mark_at t edge) told)

-- what these events make where they run in this order
abbrev pub IsOrderOf : Timeline → List ℕ → Answer → Type 0
IsOrderOf t numbers (answer.Order told) = IsOrdered t (run_again t numbers) told
IsOrderOf t numbers _ = ⊥

-- By the desk, what was observed of the recording, and the edges of its observed commands. What is not said of a
-- question here is said where it is answered, or is tested.
abbrev pub IsAnswer : DeskValue → Option ObservationValue → List ℕ → Question → Answer → Type 0
IsAnswer d o edges (question.Needs name reach) told = OfEvent d name (λ n. IsNeeds d.history o edges n reach told) told
IsAnswer d o edges (question.Dependents name) told = OfEvent d name (λ n. IsDependents d.history n told) told
IsAnswer d o edges (question.WouldCone name) told = OfEvent d name (λ n. IsWouldCone d.history n told) told
IsAnswer d o edges (question.What name) told = OfEvent d name (λ n. told ≡ answer.Event n) told
IsAnswer d o edges (question.Who out) told = IsWho d.history out told
IsAnswer d o edges (question.Readers path) told = IsReaders d.history o edges path told
IsAnswer d o edges (question.Writers path) told = IsWriters d.history o edges path told
IsAnswer d o edges (question.Why out) told = IsWhy d.history out told
IsAnswer d o edges (question.With out) told = IsWith d.history out told
IsAnswer d o edges (question.Kept all) told = IsKept d.history told
IsAnswer d o edges (question.Order names) told = OfEvents d names.items (λ ns. IsOrderOf d.history ns told) told
IsAnswer d o edges (question.Marks out) told = IsMarks d.history out told
IsAnswer d o edges (question.Stamps path) told = AreStamps d.history path told
IsAnswer d o edges (question.Logs path) told = AreLogs d.history path told
IsAnswer d o edges _ told = ⊤

-- one answer for each question, in their order
abbrev pub AreAnswers : DeskValue → Option ObservationValue → List ℕ → List Question → List Answer → Type 0
AreAnswers d o edges [] [] = ⊤
AreAnswers d o edges (question ∷ questions) (told ∷ more) =
    IsAnswer d o edges question told × AreAnswers d o edges questions more
AreAnswers d o edges _ _ = ⊥
