-- Bindings as maps hold them.
use Rattle.std.proofs.Common.{◌≡◌, ℕ, true, false, List, [], ◌∷◌, Some, cond, bytes_eq, refl, ap, if◌then◌else◌}
use Rattle.std.specs.Global.{Vec}
use Rattle.std.specs.Map.{lookup}
use Rattle.indexmap.specs.IndexMap.{insert_entry}
use Rattle.rev_scopes.specs.Bindings.{value_of, bound, seen_entries}

module _ {A : Type 0} where
  pub value_of-seen_entries : (name : List ℕ) (entries : List (Vec ℕ × A)) → lookup (λ key. bytes_eq name key.items) entries ≡ value_of name (seen_entries entries)
  value_of-seen_entries name [] = refl
  value_of-seen_entries name (e ∷ es) =
      elim (bytes_eq name e.0.items) as (λ t. cond t (Some e.1) (lookup (λ key. bytes_eq name key.items) es) ≡ (if t then Some e.1 else value_of name (seen_entries es))) [
        | true ↦ refl
        | false ↦ value_of-seen_entries name es
      ]

  pub bound-seen_entries : (name : Vec ℕ) (value : A) (entries : List (Vec ℕ × A))
      → seen_entries (insert_entry (λ (a b : Vec ℕ). bytes_eq a.items b.items) entries name value) ≡ bound name.items value (seen_entries entries)
  bound-seen_entries name value [] = refl
  bound-seen_entries name value (e ∷ es) =
      elim (bytes_eq name.items e.0.items) as (λ t. seen_entries (if t then (e.0, value) ∷ es else e ∷ insert_entry (λ (a b : Vec ℕ). bytes_eq a.items b.items) es name value)
      ≡ (if t then (e.0.items, value) ∷ seen_entries es else (e.0.items, e.1) ∷ bound name.items value (seen_entries es))) [
        | true ↦ refl
        | false ↦ ap (λ t. (e.0.items, e.1) ∷ t) (bound-seen_entries name value es)
      ]
