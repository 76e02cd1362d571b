-- The classes of bytes that the grammar speaks of, and runs of them.
use Rattle.std.specs.Prelude.{ℕ, Bool, true, false, ◌||◌, ◌==◌, List, [], ◌∷◌, drop}
use Rattle.std.specs.List.{prefix_len}
use Rattle.std.specs.Char.{is_ascii_alphanumeric}
use Rattle.rev_syntax.specs.declared.bytes.Class.{Class}
use Rattle.rev_syntax.specs.declared.bytes.Class.TheVariants.{Name, BareName, Space}

-- a byte that is b
abbrev pub is_byte : ℕ → ℕ → Bool
is_byte b x = x == b

-- a name after a `$` without braces: ASCII letters, digits, `_` and `-`
abbrev pub is_in_bare_name : ℕ → Bool
is_in_bare_name b = is_ascii_alphanumeric b || b == 95 || b == 45

-- other names: the dot too
abbrev pub is_in_name : ℕ → Bool
is_in_name b = is_ascii_alphanumeric b || b == 95 || b == 45 || b == 46

abbrev pub is_space : ℕ → Bool
is_space b = b == 32

abbrev pub has : Class → ℕ → Bool
has Name b = is_in_name b
has BareName b = is_in_bare_name b
has Space b = is_space b

-- what follows the bytes at the front that pass the test
abbrev pub after : (ℕ → Bool) → List ℕ → List ℕ
after test text = drop (prefix_len test text) text

abbrev pub without_spaces : List ℕ → List ℕ
without_spaces text = after is_space text

abbrev pub is_empty : {A : Type 0} → List A → Bool
is_empty [] = true
is_empty (x ∷ xs) = false

abbrev pub begins_with : ℕ → List ℕ → Bool
begins_with b [] = false
begins_with b (x ∷ xs) = x == b
