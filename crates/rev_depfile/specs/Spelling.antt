-- How paths are written so that they are read back, and which words no depfile has.
use Rattle.std.specs.Prelude.{◌≡◌, ℕ, suc, ◌+◌, ◌<◌, ◌==◌, Bool, true, false, not, ◌||◌, List, [], ◌∷◌, ◌++◌, length, if◌then◌else◌}
use Rattle.std.specs.List.{list_all, flat_map, AllByRecursion}
use Rattle.rev_paths.specs.Canonical.{IsCanonical}
use Rattle.rev_depfile.specs.Lines.{has_some}
use Rattle.rev_depfile.specs.Grammar.{backslashes, WordValue, RuleValue, LineValue}
use Rattle.std.specs.Prelude.{Option, Some, None}

-- The bytes of a word behind n of its backslashes: a space takes twice as many and one more, a `#` one more, and so
-- does a `:` behind which something of the word or a separating colon follows; a dollar sign is written twice. The flag
-- says whether a separating colon follows the word at once.
abbrev pub spelled : Bool → ℕ → List ℕ → List ℕ
spelled goes_on n [] = backslashes n
spelled goes_on n (b ∷ bs) =
    if b == 92 then spelled goes_on (suc n) bs
    else (if b == 32 then backslashes (n + n + 1) ++ 32 ∷ spelled goes_on 0 bs
    else (if b == 35 then backslashes (n + 1) ++ 35 ∷ spelled goes_on 0 bs
    else (if b == 58 then (if has_some bs || goes_on then backslashes (n + 1) else backslashes n) ++ 58
    ∷ spelled goes_on 0 bs
    else (if b == 36 then backslashes n ++ 36 ∷ 36 ∷ spelled goes_on 0 bs
    else backslashes n ++ b ∷ spelled goes_on 0 bs))))

-- the prerequisites, each behind a tab: what backslashes stand before a tab are bytes
abbrev pub prerequisites_spelled : List (List ℕ) → List ℕ
prerequisites_spelled paths = flat_map (λ path. 9 ∷ spelled false 0 path) paths

-- one line: a target, the separating colon, the prerequisites
abbrev pub spelling : List ℕ → List (List ℕ) → List ℕ
spelling target paths = spelled true 0 target ++ 58 ∷ prerequisites_spelled paths

-- a tab and LF stand in no word
abbrev pub is_held : ℕ → Bool
is_held b = not (b == 9 || b == 10)

-- what a word can be: some bytes, none of them a tab or LF
abbrev pub IsHeld : List ℕ → Type 0
IsHeld bytes = (0 < length bytes) × (list_all is_held bytes ≡ true)

-- a path that a depfile can list
abbrev pub CanBeListed : List ℕ → Type 0
CanBeListed path = IsCanonical path × IsHeld path

-- the words of a line are held
abbrev pub AreHeld : List WordValue → Type 0
AreHeld words = AllByRecursion (λ word. IsHeld word.text) words

abbrev pub RuleHolds : Option RuleValue → Type 0
RuleHolds None = Unit {0}
RuleHolds (Some rule) = AreHeld rule.prerequisites

abbrev pub LineHolds : LineValue → Type 0
LineHolds line = AreHeld line.targets × RuleHolds line.rule
