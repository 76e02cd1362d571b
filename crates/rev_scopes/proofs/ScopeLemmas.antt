-- Look-ups through scopes.
use Rattle.std.proofs.Common.{◌≡◌, ℕ, zero, suc, ◌<◌, ◌≤◌, List, length, Option, Some, None, get_or, refl, sym, ap, ◌∙◌, arith}
use Rattle.std.proofs.lemmas.List.{get_or_default, get_or_past}
use Rattle.std.specs.Option.{option_or}
use Rattle.rev_scopes.specs.Scopes.{ScopeValue, empty_scope, scope_at, AreNested, binding_in, find_up, found_in, rule_in}
use Rattle.rev_scopes.specs.Bindings.{value_of}

module _ {A : Type 0} (own : ScopeValue → Option A) (scopes : List ScopeValue) where
  pub find_up-none : (n : ℕ) → find_up own scopes n None ≡ None
  unfolding find_up
  find_up-none zero = refl
  find_up-none (suc n) = refl

  -- what is found in a parent, where there is one
  abbrev pub above : Option ℕ → Option A
  above None = None
  above (Some p) = found_in own scopes p

  module _ (nested : AreNested scopes) where
    up : (n m : ℕ) → ((p : ℕ) → p < length scopes → p < n → p < m → find_up own scopes n (Some p) ≡ find_up own scopes m (Some p))
        → (i : ℕ) → i < length scopes → i ≤ n → i ≤ m → (parent : Option ℕ) → (scope_at scopes i).parent ≡ parent → find_up own scopes n parent ≡ find_up own scopes m parent
    up n m same i within a b None e = find_up-none n ∙ sym (find_up-none m)
    up n m same i within a b (Some p) e =
        let below : p < i = nested i p within e in
        same p (omega arith) (omega arith) (omega arith)

    -- the number of steps makes no difference once it is above the scope's
    enough : (n m i : ℕ) → i < length scopes → i < n → i < m → find_up own scopes n (Some i) ≡ find_up own scopes m (Some i)
    unfolding find_up
    enough zero m i within a b = absurd (omega arith)
    enough (suc n) zero i within a b = absurd (omega arith)
    enough (suc n) (suc m) i within a b =
        ap (option_or (own (scope_at scopes i)))
        (up n m (λ p. enough n m p) i within (omega arith) (omega arith) (scope_at scopes i).parent refl)

    parent_step : (i : ℕ) → i < length scopes → (parent : Option ℕ) → (scope_at scopes i).parent ≡ parent → find_up own scopes i parent ≡ above parent
    parent_step i within None e = find_up-none i
    parent_step i within (Some p) e =
        let below : p < i = nested i p within e in
        enough i (suc p) p (omega arith) below (omega arith)

    -- what is found in a scope is its own, else what is found in its parent
    pub found_in-step : (i : ℕ) → i < length scopes → found_in own scopes i ≡ option_or (own (scope_at scopes i)) (above (scope_at scopes i).parent)
    unfolding find_up
    found_in-step i within = ap (option_or (own (scope_at scopes i))) (parent_step i within (scope_at scopes i).parent refl)

    pub found-own : (i : ℕ) → i < length scopes → (x : A) → own (scope_at scopes i) ≡ Some x → found_in own scopes i ≡ Some x
    found-own i within x e = found_in-step i within ∙ ap (λ o. option_or o (above (scope_at scopes i).parent)) e

    pub found-above : (i p : ℕ) → i < length scopes → own (scope_at scopes i) ≡ None → (scope_at scopes i).parent ≡ Some p → found_in own scopes i ≡ found_in own scopes p
    found-above i p within e at = found_in-step i within ∙ ap (λ o. option_or o (above (scope_at scopes i).parent)) e ∙ ap above at

    pub found-nowhere : (i : ℕ) → i < length scopes → own (scope_at scopes i) ≡ None → (scope_at scopes i).parent ≡ None → found_in own scopes i ≡ None
    found-nowhere i within e at = found_in-step i within ∙ ap (λ o. option_or o (above (scope_at scopes i).parent)) e ∙ ap above at

-- what is read at a number
pub at_number : (scopes : List ScopeValue) (i : ℕ) (here : ScopeValue) → i < length scopes → here ≡ get_or scopes i here → here ≡ scope_at scopes i
at_number scopes i here within is = is ∙ get_or_default scopes i here (empty_scope None) within

-- a scope that is not there has nothing
found-past : {A : Type 0} (own : ScopeValue → Option A) (scopes : List ScopeValue) (i : ℕ) → own (empty_scope None) ≡ None → length scopes ≤ i → found_in own scopes i ≡ None
unfolding find_up
found-past own scopes i none past =
    let empty : scope_at scopes i ≡ empty_scope None = get_or_past scopes i (empty_scope None) past in
    ap (λ scope. option_or (own scope) (find_up own scopes i scope.parent)) empty ∙ ap (λ o. option_or o (find_up own scopes i None)) none ∙ find_up-none own scopes i

pub no_binding : (scopes : List ScopeValue) (i : ℕ) (name : List ℕ) → length scopes ≤ i → binding_in scopes i name ≡ None
no_binding scopes i name past = found-past (λ scope. value_of name scope.variables) scopes i refl past

pub no_rule : (scopes : List ScopeValue) (i : ℕ) (name : List ℕ) → length scopes ≤ i → rule_in scopes i name ≡ None
no_rule scopes i name past = found-past (λ scope. value_of name scope.rules) scopes i refl past
