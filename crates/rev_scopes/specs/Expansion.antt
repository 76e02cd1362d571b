-- The values of texts.
use Rattle.std.specs.Prelude.{ℕ, Bool, List, [], ◌∷◌, ◌++◌, length, Option, None, Some, nat_lt, if◌then◌else◌}
use Rattle.std.specs.List.{flat_map}
use Rattle.rev_syntax.specs.Texts.{PieceValue, Byte, Variable}
use Rattle.rev_scopes.specs.Bindings.{value_of}
use Rattle.rev_scopes.specs.declared.growth.TheConstants.{MAX_VALUE_BYTES}

-- what a piece of a text stands for, where a look-up gives the value of each name
abbrev pub piece_value : (List ℕ → List ℕ) → PieceValue → List ℕ
piece_value look_up (Byte b) = b ∷ []
piece_value look_up (Variable name) = look_up name

-- the value of a text: what its pieces stand for, one after another
abbrev pub expanded : (List ℕ → List ℕ) → List PieceValue → List ℕ
expanded look_up text = flat_map (piece_value look_up) text

abbrev pub value_or : List ℕ → Option (List ℕ) → List ℕ
value_or other None = other
value_or other (Some value) = value

-- a name that is looked up in a block, and where the block does not bind it as the others are
abbrev pub in_block : List (List ℕ × List ℕ) → (List ℕ → List ℕ) → List ℕ → List ℕ
in_block block look_up name = value_or (look_up name) (value_of name block)

-- a value has at most 1,048,576 bytes
abbrev pub is_too_large : List ℕ → Bool
is_too_large value = nat_lt MAX_VALUE_BYTES (length value)

-- the value, unless it is too large
abbrev pub limited : List ℕ → Option (List ℕ)
limited value = if is_too_large value then None else Some value

-- more bytes after a value that is not too large so far
abbrev pub appended : Option (List ℕ) → List ℕ → Option (List ℕ)
appended None bytes = None
appended (Some value) bytes = limited (value ++ bytes)
