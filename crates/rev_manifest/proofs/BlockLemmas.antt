-- Bindings under a statement.
use Rattle.std.proofs.Common.{◌≡◌, ℕ, ◌<◌, Bool, true, false, not, ◌&&◌, ◌||◌, cond, List, [], ◌∷◌, ◌++◌, length, Option, Some, None, is_some, bytes_eq, replicate, refl, sym, ap, ◌∙◌, if◌then◌else◌}
use Rattle.std.specs.Borrow.{Bor}
use Rattle.std.specs.Option.{option_copied}
use Rattle.std.specs.List.{find}
use Rattle.std.proofs.lemmas.Bool.{lt-ltb}
use Rattle.std.proofs.lemmas.List.Folds.{list_any-append}
use Rattle.std.proofs.lemmas.Slice.Eq.{bytes_eq-Decides}
use Rattle.rev_scopes.specs.declared.rule_variable.RuleVariable.{RuleVariable}
use Rattle.rev_syntax.specs.Texts.{PieceValue}
use Rattle.rev_syntax.specs.Statements.{BindingValue}
use Rattle.rev_scopes.specs.Bindings.{value_of, bound}
use Rattle.rev_scopes.specs.Expansion.{expanded, is_too_large}
use Rattle.rev_scopes.specs.RuleNames.{name_of, rule_variables, variable_named}
use Rattle.rev_manifest.specs.Blocks.{values_by, values_of, has_large, kept, is_large_above}

found_passes : (name : List ℕ) (variable : RuleVariable) (variables : List RuleVariable) → find (λ v. bytes_eq name (name_of v)) variables ≡ Some variable
    → bytes_eq name (name_of variable) ≡ true
found_passes name variable [] e = cc
found_passes name variable (v ∷ vs) e = by (bytes_eq name (name_of v)) refl (found_passes name variable vs) e
  where
    by : (b : Bool) → bytes_eq name (name_of v) ≡ b → (find (λ v. bytes_eq name (name_of v)) vs ≡ Some variable → bytes_eq name (name_of variable) ≡ true)
        → cond b (Some v) (find (λ v. bytes_eq name (name_of v)) vs) ≡ Some variable → bytes_eq name (name_of variable) ≡ true
    by true h later e = let same : v ≡ variable = cc in ap (λ w. bytes_eq name (name_of w)) (sym same) ∙ h
    by false h later e = later e

-- a variable that is found by a name has that name
pub named_is : (name : List ℕ) (variable : RuleVariable) → variable_named name ≡ Some variable → name ≡ name_of variable
named_is name variable e = (bytes_eq-Decides name (name_of variable)).0 (found_passes name variable rule_variables e)

pub kept-large : (value : List ℕ) → 1048576 < length value → kept value ≡ replicate 4097 120
kept-large value h = ap (λ t. if t then replicate 4097 120 else value) (lt-ltb 1048576 (length value) h)

-- a name that is new goes last
pub bound-new : (name value : List ℕ) (values : List (List ℕ × List ℕ)) → value_of name values ≡ None → bound name value values ≡ values ++ (name, value) ∷ []
bound-new name value [] e = refl
bound-new name value (v ∷ vs) e = by (bytes_eq name v.0) (bound-new name value vs) e
  where
    by : (b : Bool) → (value_of name vs ≡ None → bound name value vs ≡ vs ++ (name, value) ∷ []) → (if b then Some v.1 else value_of name vs) ≡ None
        → (if b then (v.0, value) ∷ vs else v ∷ bound name value vs) ≡ v ∷ (vs ++ (name, value) ∷ [])
    by true later e = cc
    by false later e = ap (λ t. v ∷ t) (later e)

-- whether a name is bound does not depend on the values
is_bound-push : (name other value : List ℕ) (values : List (List ℕ × List ℕ))
    → is_some (value_of name (values ++ (other, value) ∷ [])) ≡ (is_some (value_of name values) || bytes_eq name other)
is_bound-push name other value [] = by (bytes_eq name other)
  where
    by : (b : Bool) → is_some {T = List ℕ} (if b then Some value else None) ≡ b
    by true = refl
    by false = refl
is_bound-push name other value (v ∷ vs) = by (bytes_eq name v.0) (is_bound-push name other value vs)
  where
    by : (b : Bool) → is_some (value_of name (vs ++ (other, value) ∷ [])) ≡ (is_some (value_of name vs) || bytes_eq name other)
        → is_some (if b then Some v.1 else value_of name (vs ++ (other, value) ∷ [])) ≡ (is_some (if b then Some v.1 else value_of name vs) || bytes_eq name other)
    by true later = refl
    by false later = later

pub same_names : (f g : List PieceValue → List ℕ) (bindings : List BindingValue) (name : List ℕ) → is_some (value_of name (values_by f bindings)) ≡ is_some (value_of name (values_by g bindings))
same_names f g [] name = refl
same_names f g (b ∷ bs) name = by (is_some (value_of b.name (values_by f bs))) (is_some (value_of b.name (values_by g bs))) (same_names f g bs b.name) (same_names f g bs name)
  where
    fs : List (List ℕ × List ℕ)
    fs = values_by f bs

    gs : List (List ℕ × List ℕ)
    gs = values_by g bs

    by : (s t : Bool) → s ≡ t → is_some (value_of name fs) ≡ is_some (value_of name gs)
        → is_some (value_of name (if s then fs else fs ++ (b.name, f b.value) ∷ [])) ≡ is_some (value_of name (if t then gs else gs ++ (b.name, g b.value) ∷ []))
    by true true e same = same
    by false false e same = is_bound-push name b.name (f b.value) fs ∙ ap (λ o. o || bytes_eq name b.name) same ∙ sym (is_bound-push name b.name (g b.value) gs)
    by true false e same = cc
    by false true e same = cc

or_false : (b : Bool) → (b || false) ≡ b
or_false true = refl
or_false false = refl

-- whether some value is too large, with one more binding above
pub large_more : (look_up : List ℕ → List ℕ) (g : List PieceValue → List ℕ) (binding : BindingValue) (bindings : List BindingValue)
    → (has_large (values_of look_up bindings) || is_large_above look_up (values_by g bindings) binding) ≡ has_large (values_of look_up (binding ∷ bindings))
large_more look_up g b bs = by (is_some (value_of b.name (values_by g bs))) (is_some (value_of b.name fs)) (same_names g (expanded look_up) bs b.name)
  where
    fs : List (List ℕ × List ℕ)
    fs = values_of look_up bs

    by : (s t : Bool) → s ≡ t → (has_large fs || (not s && is_too_large (expanded look_up b.value))) ≡ has_large (if t then fs else fs ++ (b.name, expanded look_up b.value) ∷ [])
    by true true e = or_false (has_large fs)
    by false false e =
        ap (λ x. has_large fs || x) (sym (or_false (is_too_large (expanded look_up b.value))))
        ∙ sym (list_any-append (λ (v : List ℕ × List ℕ). is_too_large v.1) fs ((b.name, expanded look_up b.value) ∷ []))
    by true false e = cc
    by false true e = cc

-- nothing that is lent is nothing
pub copied_none : (o : Option (Bor (List ℕ))) → false ≡ is_some o → option_copied o ≡ None
copied_none None e = refl
copied_none (Some x) e = cc
