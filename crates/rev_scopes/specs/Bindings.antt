-- Names with what is bound to each.
use Rattle.std.specs.Prelude.{ℕ, List, [], ◌∷◌, Option, Some, None, bytes_eq, map, if◌then◌else◌}
use Rattle.std.specs.Global.{Vec}

module _ {A : Type 0} where
  -- what is bound to a name, if anything is
  abbrev pub value_of : List ℕ → List (List ℕ × A) → Option A
  value_of name [] = None
  value_of name (binding ∷ bindings) = if bytes_eq name binding.0 then Some binding.1 else value_of name bindings

  -- one more binding: of two bindings of one name the later counts, at the place of the earlier
  abbrev pub bound : List ℕ → A → List (List ℕ × A) → List (List ℕ × A)
  bound name value [] = (name, value) ∷ []
  bound name value (binding ∷ bindings) =
      if bytes_eq name binding.0 then (binding.0, value) ∷ bindings else binding ∷ bound name value bindings

  -- what a map holds
  abbrev pub seen_entries : List (Vec ℕ × A) → List (List ℕ × A)
  seen_entries entries = map (λ entry. (entry.0.items, entry.1)) entries
