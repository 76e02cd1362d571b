-- The text that says an observation.
use Rattle.std.specs.Prelude.{◌≡◌, ℕ, ◌<◌, ◌≤◌, ◌^◌, ◌==◌, length, Bool, false, if◌then◌else◌, codes, decimal, map, List, [], ◌∷◌, ◌++◌, Option, Some, None}
use Rattle.std.specs.List.{AllByRecursion, flat_map}
use Rattle.std.specs.Option.{ForSome}
use Rattle.rev_paths.specs.Canonical.{IsCanonical}
use Rattle.rev_fields.specs.Fields.{field_text, line_of}
use Rattle.rev_observed.specs.declared.command.Uses.{Uses}
use Rattle.rev_observed.specs.declared.flags.Flags.{Flags}
use Rattle.rev_observed.specs.declared.path_set.PathRange.{PathRange}
use Rattle.rev_observed.specs.CommandValues.{AreUses, CommandValue}
use Rattle.rev_observed.specs.Observations.{ObservationValue, has_name, outputs_of}
use Rattle.rev_observed.specs.PathSets.{AreRising}
use Rattle.rev_observed.specs.Says.{first_line}
use Rattle.rev_observed.specs.Within.{RangesAreWithin}
use Rattle.rev_observed.specs.Words.{kind_text}

-- a word, where its flag is set
abbrev pub flag_text : Bool → List ℕ → List (List ℕ)
flag_text set word = if set then word ∷ [] else []

-- the words of the flags that are set
abbrev pub flag_texts : Flags → List (List ℕ)
flag_texts f =
    flag_text f.cut (codes "cut") ++ flag_text f.server (codes "server") ++ flag_text f.namespace (codes "namespace")
    ++ flag_text f.uring (codes "uring") ++ flag_text f.unresolved (codes "unresolved") ++ flag_text f.twin (codes "twin")

-- a number, or two with `-` between them
abbrev pub range_text : PathRange → List ℕ
range_text r = if r.first == r.last then decimal r.first else decimal r.first ++ 45 ∷ decimal r.last

-- the texts of the fields of each line
abbrev pub path_texts : List ℕ → List (List ℕ)
path_texts path = codes "path" ∷ path ∷ []

abbrev pub edge_texts : CommandValue → List (List ℕ)
edge_texts c = codes "edge" ∷ c.output ∷ flag_texts c.flags

abbrev pub uses_texts : Uses → List (List ℕ)
uses_texts u = kind_text u.kind ∷ map range_text u.paths

abbrev pub outside_texts : Option ℕ → List (List (List ℕ))
outside_texts None = []
outside_texts (Some n) = (codes "outside" ∷ decimal n ∷ []) ∷ []

abbrev pub command_texts : CommandValue → List (List (List ℕ))
command_texts c = edge_texts c ∷ (map uses_texts c.uses ++ outside_texts c.outside)

abbrev pub all_texts : ObservationValue → List (List (List ℕ))
all_texts o = (codes "by" ∷ o.by ∷ []) ∷ (map path_texts o.paths ++ flat_map command_texts o.commands)

-- the line whose fields write these texts
abbrev pub line_text : List (List ℕ) → List ℕ
line_text texts = line_of (map field_text texts)

-- the lines that say an observation
abbrev pub lines_text : ObservationValue → List (List ℕ)
lines_text o = first_line ∷ map line_text (all_texts o)

-- a line and the LF at its end
abbrev pub ended : List ℕ → List ℕ
ended line = line ++ 10 ∷ []

-- the text that says an observation: these lines, each ended by LF
abbrev pub observed_text : ObservationValue → List ℕ
observed_text o = flat_map ended (lines_text o)

-- a range of numbers of 32 bits that is not empty
pub record IsRange (r : PathRange) : Type 0 where
  pub order : r.first ≤ r.last
  pub short : r.last < 2 ^ 32

-- what a line may say of a command
pub record IsUses (count : ℕ) (u : Uses) : Type 0 where
  pub rising : AreRising u.paths
  pub ranges : AllByRecursion IsRange u.paths
  pub inside : RangesAreWithin count u.paths

-- what lines may say of a command
pub record IsCommand (count : ℕ) (c : CommandValue) : Type 0 where
  pub canonical : IsCanonical c.output
  pub uses : AreUses c.uses
  pub inside : AllByRecursion (IsUses count) c.uses
  pub outside : ForSome c.outside (λ n. n < 2 ^ 64)

-- none of these names is among others, or among those before it
abbrev pub AreFresh : List (List ℕ) → List (List ℕ) → Type 0
AreFresh done [] = Unit {0}
AreFresh done (p ∷ ps) = (has_name done p ≡ false) × AreFresh (done ++ p ∷ []) ps

-- what has a text: paths and outputs in canonical form, none twice, and commands that lines may say
pub record IsObservation (o : ObservationValue) : Type 0 where
  pub canonical : AllByRecursion IsCanonical o.paths
  pub fresh_paths : AreFresh [] o.paths
  pub commands : AllByRecursion (IsCommand (length o.paths)) o.commands
  pub fresh_outputs : AreFresh [] (outputs_of o.commands)
