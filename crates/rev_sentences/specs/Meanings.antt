-- What the numbers of faults and refusals mean: those of docs/CODES.md, each with its few words.
use Rattle.std.specs.Prelude.{ℕ, ◌==◌, List, [], ◌∷◌, Option, Some, None, if◌then◌else◌, codes}
use Rattle.std.specs.Option.{option_or}

-- of a fault of a manifest, a depfile or a graph
abbrev pub of_manifests : List (ℕ × List ℕ)
of_manifests =
    (1, codes "a path of no bytes") ∷
    (2, codes "a path of more than 4,096 bytes") ∷
    (10, codes "no statement of a manifest") ∷
    (11, codes "a tab in the indentation") ∷
    (12, codes "a `$` with nothing behind it that may stand there") ∷
    (13, codes "unknown rule") ∷
    (14, codes "a second rule of this name") ∷
    (15, codes "a variable that a rule or a pool does not have") ∷
    (16, codes "a rule without a command") ∷
    (17, codes "a variable that needs itself") ∷
    (18, codes "unknown pool") ∷
    (19, codes "a pool's depth that is no number up to 1,000,000") ∷
    (20, codes "a file that was not given") ∷
    (21, codes "files that name files more than 16 deep") ∷
    (22, codes "dynamic dependencies, which rebug does not read") ∷
    (23, codes "more than rebug takes of files, of bytes, or of bytes in one value") ∷
    (24, codes "a second pool of this name") ∷
    (30, codes "a depfile's line without a colon") ∷
    (31, codes "prerequisites of files that the edge does not make") ∷
    (32, codes "a prerequisite of more than 4,096 bytes") ∷
    (40, codes "two build lines have one output") ∷
    (41, codes "an edge that needs itself") ∷
    (42, codes "more than 262,144 build lines") ∷ []

-- of a refusal of an event
abbrev pub of_events : List (ℕ × List ℕ)
of_events =
    (50, codes "an edge's command runs") ∷
    (51, codes "a target that stands on no build line") ∷
    (52, codes "an input that is missing and that nothing makes") ∷
    (53, codes "an edge that needs itself through deps records") ∷
    (60, codes "no edge has that output") ∷
    (61, codes "the edge is phony") ∷
    (62, codes "the edge has a command") ∷
    (63, codes "the build was interrupted") ∷
    (64, codes "the build was not interrupted") ∷
    (65, codes "the build was interrupted already") ∷
    (66, codes "the plan does not want the edge now") ∷
    (67, codes "the edge's command does not run") ∷
    (68, codes "the producer of an input is not settled") ∷
    (69, codes "the edge has no reason to run") ∷
    (70, codes "the edge has a reason to run") ∷
    (71, codes "no such job") ∷
    (72, codes "the job is taken") ∷
    (73, codes "a slot that the edge's pool does not have, or none where it has slots") ∷
    (74, codes "the slot is taken") ∷
    (75, codes "not one stamp for each output") ∷
    (76, codes "a list of files of an edge that keeps none") ∷
    (77, codes "a depfile with a fault") ∷
    (78, codes "a slot that the pool would lose is taken") ∷
    (79, codes "no such pool, or a depth, present or new, that is not from 1 to 1,024") ∷ []

-- of a refusal of another command, or of a fault of a trace, a script or lanes
abbrev pub of_desks : List (ℕ × List ℕ)
of_desks =
    (80, codes "no such event was accepted") ∷
    (81, codes "the event is not kept") ∷
    (82, codes "a later kept event depends on it") ∷
    (83, codes "the event is kept already") ∷
    (84, codes "the event is refused in the present state") ∷
    (85, codes "a later kept event stands in the way") ∷
    (86, codes "nothing is kept") ∷
    (92, codes "the desk is paused") ∷
    (93, codes "no such break stands") ∷
    (94, codes "the journal is full") ∷
    (100, codes "no line that may stand there") ∷
    (101, codes "no number of that form or size") ∷
    (102, codes "a lane out of turn") ∷
    (103, codes "a second record for one path") ∷
    (104, codes "no trace of this version") ∷
    (110, codes "a lane is missing") ∷
    (111, codes "a lane's own account is not its part of the journal") ∷
    (112, codes "a lane stopped before its end") ∷ []

-- the words beside a number, if it stands in a table
abbrev pub words_in : List (ℕ × List ℕ) → ℕ → Option (List ℕ)
words_in [] n = None
words_in (row ∷ rows) n = if n == row.0 then Some row.1 else words_in rows n

-- what a number means, if a report can have it: no number stands in two of the tables
abbrev pub meaning_of : ℕ → Option (List ℕ)
meaning_of n = option_or (words_in of_manifests n) (option_or (words_in of_events n) (words_in of_desks n))
