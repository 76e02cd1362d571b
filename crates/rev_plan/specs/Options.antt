-- Choices among options.
use Rattle.std.specs.Prelude.{List, [], ◌∷◌, Option, Some, None}

-- what the first of the options that holds something holds
abbrev pub first_some : {A : Type 0} → List (Option A) → Option A
first_some [] = None
first_some (None ∷ os) = first_some os
first_some (Some x ∷ os) = Some x
