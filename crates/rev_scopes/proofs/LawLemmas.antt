-- Values at edges.
use Rattle.std.proofs.Common.{◌≡◌, ℕ, zero, suc, ◌<◌, List, [], ◌∷◌, ◌++◌, length, Option, Some, None, refl, sym, ap, ◌∙◌, subst, inl, inr}
use Rattle.rev_syntax.specs.Texts.{PieceValue, Byte, Variable}
use Rattle.rev_scopes.specs.Bindings.{value_of}
use Rattle.std.specs.Option.{option_or}
use Rattle.rev_scopes.specs.Scopes.{ScopeValue, scope_at, AreNested, or_empty, find_up, variable_in}
use Rattle.rev_scopes.specs.Edges.{EdgeEnvValue, paths_named, first_source, source, Known, Needs, HasValue, Given, Expanded, IsExpanded, Nothing, Plain, Named}
use Rattle.rev_scopes.specs.Laws.{parent_variable, own_or, Here, Above, AreSameFrom, Names, LeadsTo, AtOnce, Through, LeadsToALoop}
use Rattle.rev_scopes.specs.Slots.{Waits}
use Rattle.rev_scopes.proofs.SlotLemmas.{no_value}
use Rattle.rev_scopes.proofs.ScopeLemmas.{above, found_in-step}

module _ (edge : EdgeEnvValue) where
  mutual
    pub one_value : {name first second : List ℕ} → HasValue edge name first → HasValue edge name second → first ≡ second
    one_value (Given {value} a) (Given {value = second} b) =
        let same : Known value ≡ Known second = sym a ∙ b in
        cc
    one_value (Given {value} a) (Expanded {text} b given) =
        let none : Known value ≡ Needs text = sym a ∙ b in
        cc
    one_value (Expanded {text} a given) (Given {value} b) =
        let none : Needs text ≡ Known value = sym a ∙ b in
        cc
    one_value (Expanded {text} a given) (Expanded {value = second} {text = other} b also) =
        let same : Needs other ≡ Needs text = sym b ∙ a in
        let texts : other ≡ text = cc in
        one_expansion given (subst (λ (t : List PieceValue). IsExpanded edge t second) texts also)

    pub one_expansion : {text : List PieceValue} {first second : List ℕ} → IsExpanded edge text first → IsExpanded edge text second → first ≡ second
    one_expansion Nothing Nothing = refl
    one_expansion (Plain {b} a) (Plain c) = ap (λ t. b ∷ t) (one_expansion a c)
    one_expansion (Named has rest) (Named also others) = λ i. one_value has also i ++ one_expansion rest others i

module _ {A : Type 0} (own : ScopeValue → Option A) (scopes others : List ScopeValue) where
  -- a look-up through scopes that are the same finds the same
  same_find : (n : ℕ) (scope : Option ℕ) → ((i : ℕ) → scope ≡ Some i → AreSameFrom i scopes others) → find_up own scopes n scope ≡ find_up own others n scope
  unfolding find_up
  same_find zero scope same = refl
  same_find (suc n) None same = refl
  same_find (suc n) (Some i) same =
      let here : scope_at scopes i ≡ scope_at others i = same i refl i Here in
      ap (option_or (own (scope_at scopes i))) (same_find n (scope_at scopes i).parent (λ p e above way. same i refl above (Above e way)))
      ∙ ap (λ scope. option_or (own scope) (find_up own others n scope.parent)) here

same_variable : (scopes others : List ScopeValue) (scope : ℕ) (name : List ℕ) → AreSameFrom scope scopes others → variable_in scopes scope name ≡ variable_in others scope name
same_variable scopes others scope name same =
    ap or_empty (same_find (λ s. value_of name s.variables) scopes others (suc scope) (Some scope) (λ i e. subst (λ (k : ℕ). AreSameFrom k scopes others) (from scope i e) same))
  where
    from : (a b : ℕ) → Some a ≡ Some b → a ≡ b
    from a b e = cc

same_source : (edge : EdgeEnvValue) (others : List ScopeValue) → AreSameFrom edge.scope edge.scopes others → (name : List ℕ) → source (record edge { scopes = others }) name ≡ source edge name
same_source edge others same name =
    ap (first_source (paths_named edge name) (value_of name edge.block) (value_of name edge.rule)) (sym (same_variable edge.scopes others edge.scope name same))

module _ (edge : EdgeEnvValue) (others : List ScopeValue) (same : AreSameFrom edge.scope edge.scopes others) where
  mutual
    pub same_value : {name value : List ℕ} → HasValue edge name value → HasValue (record edge { scopes = others }) name value
    same_value (Given {name} {value} is) = Given (same_source edge others same name ∙ is)
    same_value (Expanded {name} {value} {text} is given) = Expanded (same_source edge others same name ∙ is) (same_expansion given)

    same_expansion : {text : List PieceValue} {value : List ℕ} → IsExpanded edge text value → IsExpanded (record edge { scopes = others }) text value
    same_expansion Nothing = Nothing
    same_expansion (Plain given) = Plain (same_expansion given)
    same_expansion (Named has given) = Named (same_value has) (same_expansion given)

pub variable-step : (scopes : List ScopeValue) (scope : ℕ) (name : List ℕ) → AreNested scopes → scope < length scopes
    → variable_in scopes scope name ≡ own_or (value_of name (scope_at scopes scope).variables) (parent_variable scopes (scope_at scopes scope).parent name)
variable-step scopes scope name nested within =
    ap or_empty (found_in-step own scopes nested scope within) ∙ by (own (scope_at scopes scope)) (scope_at scopes scope).parent
  where
    own : ScopeValue → Option (List ℕ)
    own = λ s. value_of name s.variables

    by : (mine : Option (List ℕ)) (parent : Option ℕ) → or_empty (option_or mine (above own scopes parent)) ≡ own_or mine (parent_variable scopes parent name)
    by (Some value) parent = refl
    by None None = refl
    by None (Some parent) = refl

module _ (edge : EdgeEnvValue) (name : List ℕ) where
  waits_there : (text : List PieceValue) (between : List ℕ) → Names between text → LeadsTo edge between name → Waits (λ n. LeadsTo edge n name) text
  waits_there [] between names leads = absurd names
  waits_there (Byte b ∷ text) between names leads = waits_there text between names leads
  waits_there (Variable other ∷ text) between (inl same) leads = inl (subst (λ (n : List ℕ). LeadsTo edge n name) same leads)
  waits_there (Variable other ∷ text) between (inr names) leads = inr (waits_there text between names leads)

  leads_on : LeadsTo edge name name → (other : List ℕ) → LeadsTo edge other name → (text : List PieceValue) × (source edge other ≡ Needs text) × Waits (λ n. LeadsTo edge n name) text
  leads_on itself other (AtOnce {text} is names) = (text, is, waits_there text name names itself)
  leads_on itself other (Through {between} {text} is names leads) = (text, is, waits_there text between names leads)

  pub needs_itself : (value : List ℕ) → LeadsTo edge name name → HasValue edge name value → ⊥
  needs_itself value itself has = no_value edge (λ n. LeadsTo edge n name) (leads_on itself) has itself

-- what leads to a loop has no value, also where it is on none itself
pub loop_has_none : (edge : EdgeEnvValue) (name : List ℕ) → LeadsToALoop edge name → (value : List ℕ) → HasValue edge name value → ⊥
loop_has_none edge name (other, inl same, itself) value has = needs_itself edge other value itself (subst (λ (n : List ℕ). HasValue edge n value) same has)
loop_has_none edge name (other, inr way, itself) value has = no_value edge (λ n. LeadsTo edge n other) (leads_on edge other itself) has way
