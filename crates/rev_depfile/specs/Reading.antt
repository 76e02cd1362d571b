-- What depfiles give for an edge: paths, or a fault where there is no reading.
use Rattle.std.specs.Prelude.{◌≡◌, ℕ, ◌<◌, ◌≤◌, ◌⊎◌, true, List, [], ◌∷◌, ◌++◌, map, length, bytes_eq, Some, None}
use Rattle.std.specs.List.{list_any, AllByRecursion}
use Rattle.rev_paths.specs.Canonical.{canonical}
use Rattle.rev_paths.specs.Mentions.{first_mentions}
use Rattle.rev_depfile.specs.declared.fault.DepfileFault.{DepfileFault}
use Rattle.rev_depfile.specs.declared.fault.DepfileFault.TheVariants.{NoColon, OtherTarget, LongPath}
use Rattle.rev_depfile.specs.Grammar.{WordValue, LineValue, IsDepfile}
use Rattle.rev_paths.specs.declared.name.TheConstants.Name.{MAX_BYTES}

-- a path has at most 4,096 bytes as it is written
abbrev pub IsShort : WordValue → Type 0
IsShort word = length word.text ≤ MAX_BYTES

abbrev pub path_named : WordValue → List ℕ
path_named word = canonical word.text

-- a target that is an output: it is not too long, and its canonical path is one of them
abbrev pub IsOutput : List (List ℕ) → WordValue → Type 0
IsOutput outputs target = IsShort target × (list_any (bytes_eq (path_named target)) outputs ≡ true)

-- some of these targets is an output
abbrev pub NamesOutput : List (List ℕ) → List WordValue → Type 0
NamesOutput outputs [] = ⊥
NamesOutput outputs (target ∷ targets) = IsOutput outputs target ⊎ NamesOutput outputs targets

-- a line gives these paths for an edge with these outputs
pub data LineGives (outputs : List (List ℕ)) : LineValue → List (List ℕ) → Type 0 where
  -- a line with no word and no separating colon is skipped
  Skipped : LineGives outputs (record { targets = []; rule = None }) []
  -- a line without prerequisites says nothing, whatever its targets are
  Alone : {targets : List WordValue} {at : ℕ}
      → LineGives outputs (record { targets = targets; rule = Some (record { at = at; prerequisites = [] }) }) []
  -- a line with prerequisites has a target that is an output
  Listed : {targets words : List WordValue} {at : ℕ} → NamesOutput outputs targets → AllByRecursion IsShort words
      → LineGives outputs (record { targets = targets; rule = Some (record { at = at; prerequisites = words }) })
      (map path_named words)

-- lines give the paths of each, in their order
pub data LinesGive (outputs : List (List ℕ)) : List LineValue → List (List ℕ) → Type 0 where
  NoLines : LinesGive outputs [] []
  Then : {line : LineValue} {lines : List LineValue} {paths others : List (List ℕ)} → LineGives outputs line paths
      → LinesGive outputs lines others
      → LinesGive outputs (line ∷ lines) (paths ++ others)

-- A reading of a text for an edge with these outputs: the text is a depfile of lines that give paths, of which each
-- counts where it is mentioned first.
pub record Gives (outputs : List (List ℕ)) (text : List ℕ) (paths : List (List ℕ)) : Type 0 where
  pub lines : List LineValue
  pub mentions : List (List ℕ)
  pub is : IsDepfile text lines
  pub give : LinesGive outputs lines mentions
  pub once : first_mentions mentions ≡ paths

-- where a line begins: at its first target, or at its colon where no target stands
abbrev pub beginning : List WordValue → ℕ → ℕ
beginning [] at = at
beginning (target ∷ targets) at = target.at

-- a line gives no paths, for this reason
pub data LineRefuses (outputs : List (List ℕ)) : LineValue → DepfileFault → Type 0 where
  -- words and no separating colon
  Unseparated : (word : WordValue) {words : List WordValue}
      → LineRefuses outputs (record { targets = word ∷ words; rule = None }) (NoColon word.at)
  -- prerequisites, and no target that is an output
  ForOthers : (targets : List WordValue) (at : ℕ) {words : List WordValue} {word : WordValue}
      → (NamesOutput outputs targets → ⊥)
      → LineRefuses outputs (record
      { targets = targets; rule = Some (record { at = at; prerequisites = word ∷ words }) })
      (OtherTarget (beginning targets at))
  -- a prerequisite that is too long, and none before it in the line
  TooLong : {targets : List WordValue} {at : ℕ} (before : List WordValue) (word : WordValue) (after : List WordValue)
      → NamesOutput outputs targets → AllByRecursion IsShort before → MAX_BYTES < length word.text
      → LineRefuses outputs (record
      { targets = targets; rule = Some (record { at = at; prerequisites = before ++ word ∷ after }) })
      (LongPath word.at)

-- The text is refused: one of its lines gives no paths, for this reason, and each before it gives some.
pub record Refuses (outputs : List (List ℕ)) (text : List ℕ) (fault : DepfileFault) : Type 0 where
  pub before : List LineValue
  pub line : LineValue
  pub after : List LineValue
  pub mentions : List (List ℕ)
  pub is : IsDepfile text (before ++ line ∷ after)
  pub give : LinesGive outputs before mentions
  pub refuses : LineRefuses outputs line fault
