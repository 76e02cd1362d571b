-- A name that has no value leads to one that leads to itself.
use Rattle.std.proofs.Common.{◌≡◌, ℕ, zero, suc, ◌+◌, ◌<◌, ◌≤◌, ◌⊎◌, Bool, true, false, ◌||◌, List, [], ◌∷◌, ◌++◌, length, Some, bytes_eq, if◌then◌else◌, refl, sym, ap, ◌∙◌, subst, inl, inr, arith}
use Rattle.std.specs.List.{IsDistinct, AllByRecursion}
use Rattle.std.specs.Map.{keys_of}
use Rattle.std.specs.Set.{is_member}
use Rattle.std.specs.Cmp.Lexicographic.{nat_list_eq_equiv}
use Rattle.std.proofs.lemmas.Map.Made.{length-le_from_is_member}
use Rattle.std.proofs.lemmas.Slice.Eq.{bytes_eq-Decides}
use Rattle.rev_syntax.specs.Texts.{PieceValue, Byte, Variable}
use Rattle.rev_scopes.specs.Bindings.{value_of}
use Rattle.rev_scopes.specs.Scopes.{RuleValue, variable_in}
use Rattle.rev_scopes.specs.Edges.{EdgeEnvValue, paths_named, source, Source, Known, Needs, HasValue, Given, Expanded, IsExpanded, Nothing, Plain, Named}
use Rattle.rev_scopes.specs.Laws.{Names, LeadsTo, AtOnce, Through, LeadsToALoop}
use Rattle.rev_scopes.proofs.LawLemmas.{loop_has_none}
use Rattle.rev_scopes.proofs.SlotLemmas.{needs-rule}

-- a name that the rule binds is among its names
bound-member : (name : List ℕ) (rule : RuleValue) (text : List PieceValue) → value_of name rule ≡ Some text → is_member bytes_eq (keys_of rule) name ≡ true
bound-member name [] text e = cc
bound-member name (b ∷ rule) text e = by (bytes_eq name b.0) e (bound-member name rule text)
  where
    by : (t : Bool) → (if t then Some b.1 else value_of name rule) ≡ Some text → (value_of name rule ≡ Some text → is_member bytes_eq (keys_of rule) name ≡ true) → (t || is_member bytes_eq (keys_of rule) name) ≡ true
    by true e later = refl
    by false e later = later e

-- a name that is not among others differs from each
apart : (name : List ℕ) (seen : List (List ℕ)) → is_member bytes_eq seen name ≡ false → AllByRecursion (λ other. bytes_eq name other ≡ false) seen
apart name [] e = tt
apart name (s ∷ seen) e = by (bytes_eq name s) refl e (apart name seen)
  where
    by : (t : Bool) → bytes_eq name s ≡ t → (t || is_member bytes_eq seen name) ≡ false → (is_member bytes_eq seen name ≡ false → AllByRecursion (λ other. bytes_eq name other ≡ false) seen)
        → AllByRecursion (λ other. bytes_eq name other ≡ false) (s ∷ seen)
    by true is e later = cc
    by false is e later = (is, later e)

more-distinct : (name : List ℕ) (seen : List (List ℕ)) → is_member bytes_eq seen name ≡ false → IsDistinct bytes_eq seen → IsDistinct bytes_eq (name ∷ seen)
unfolding IsDistinct
more-distinct name seen new distinct = (apart name seen new, distinct)

module _ (edge : EdgeEnvValue) where
  -- one step more
  leads_further : {name between other : List ℕ} {text : List PieceValue} → LeadsTo edge name between → source edge between ≡ Needs text → Names other text → LeadsTo edge name other
  leads_further (AtOnce is names) needs further = Through is names (AtOnce needs further)
  leads_further (Through is names rest) needs further = Through is names (leads_further rest needs further)

  abbrev Outcome : List ℕ → Type 0
  Outcome name = ((value : List ℕ) × HasValue edge name value) ⊎ LeadsToALoop edge name

  abbrev TextOutcome : List PieceValue → Type 0
  TextOutcome text = ((value : List ℕ) × IsExpanded edge text value) ⊎ ((name : List ℕ) × Names name text × LeadsToALoop edge name)

  text_outcome : (text : List PieceValue) → ((name : List ℕ) → Names name text → Outcome name) → TextOutcome text
  text_outcome [] found = inl ([], Nothing)
  text_outcome (Byte b ∷ text) found = with_byte (text_outcome text found)
    where
      with_byte : TextOutcome text → TextOutcome (Byte b ∷ text)
      with_byte (inl (value, given)) = inl (b ∷ value, Plain given)
      with_byte (inr loop) = inr loop
  text_outcome (Variable name ∷ text) found = with_name (found name (inl refl)) (text_outcome text (λ other names. found other (inr names)))
    where
      with_name : Outcome name → TextOutcome text → TextOutcome (Variable name ∷ text)
      with_name (inl (value, has)) (inl (others, given)) = inl (value ++ others, Named has given)
      with_name (inl (value, has)) (inr (other, names, loop)) = inr (other, inr names, loop)
      with_name (inr loop) rest = inr (name, inl refl, loop)

  -- Either a name has a value, or it leads to a loop. `seen` are the names on the way to it, which all lead to it.
  outcome : (fuel : ℕ) (seen : List (List ℕ)) → IsDistinct bytes_eq seen → ((q : List ℕ) → is_member bytes_eq seen q ≡ true → is_member bytes_eq (keys_of edge.rule) q ≡ true)
      → length (keys_of edge.rule) < fuel + length seen → (name : List ℕ) → ((s : List ℕ) → is_member bytes_eq seen s ≡ true → LeadsTo edge s name) → Outcome name
  outcome zero seen distinct within many name leads =
      let few : length seen ≤ length (keys_of edge.rule) = length-le_from_is_member nat_list_eq_equiv seen (keys_of edge.rule) distinct within in
      absurd (omega arith)
  outcome (suc fuel) seen distinct within many name leads = by (source edge name) refl (outcome fuel (name ∷ seen))
    where
      Next : Type 0
      Next =
          IsDistinct bytes_eq (name ∷ seen) → ((q : List ℕ) → is_member bytes_eq (name ∷ seen) q ≡ true → is_member bytes_eq (keys_of edge.rule) q ≡ true)
          → length (keys_of edge.rule) < fuel + length (name ∷ seen) → (other : List ℕ) → ((s : List ℕ) → is_member bytes_eq (name ∷ seen) s ≡ true → LeadsTo edge s other) → Outcome other

      all_within : (text : List PieceValue) → source edge name ≡ Needs text → (q : List ℕ) (b : Bool) → bytes_eq q name ≡ b → (b || is_member bytes_eq seen q) ≡ true → is_member bytes_eq (keys_of edge.rule) q ≡ true
      all_within text is q true same e =
          let rule : value_of name edge.rule ≡ Some text = needs-rule (paths_named edge name) (value_of name edge.block) (value_of name edge.rule) (variable_in edge.scopes edge.scope name) text is in
          ap (is_member bytes_eq (keys_of edge.rule)) ((bytes_eq-Decides q name).0 same) ∙ bound-member name edge.rule text rule
      all_within text is q false other e = within q e

      all_lead : (text : List PieceValue) → source edge name ≡ Needs text → (other : List ℕ) → Names other text → (s : List ℕ) (b : Bool) → bytes_eq s name ≡ b → (b || is_member bytes_eq seen s) ≡ true → LeadsTo edge s other
      all_lead text is other names s true same e =
          subst (λ (n : List ℕ). LeadsTo edge n other) (sym ((bytes_eq-Decides s name).0 same)) (AtOnce is names)
      all_lead text is other names s false differs e = leads_further (leads s e) is names

      finish : (text : List PieceValue) → source edge name ≡ Needs text → TextOutcome text → Outcome name
      finish text is (inl (value, given)) = inl (value, Expanded is given)
      finish text is (inr (between, names, (other, inl same, loop))) = inr (other, inr (AtOnce is (subst (λ (n : List ℕ). Names n text) same names)), loop)
      finish text is (inr (between, names, (other, inr way, loop))) = inr (other, inr (Through is names way), loop)

      here : (text : List PieceValue) → source edge name ≡ Needs text → Next → (b : Bool) → is_member bytes_eq seen name ≡ b → Outcome name
      here text is next true old = inr (name, inl refl, leads name old)
      here text is next false new =
          finish text is (text_outcome text (λ other names.
          next (more-distinct name seen new distinct) (λ q e. all_within text is q (bytes_eq q name) refl e) (omega arith) other (λ s e. all_lead text is other names s (bytes_eq s name) refl e)))

      by : (s : Source) → source edge name ≡ s → Next → Outcome name
      by (Known value) is next = inl (value, Given is)
      by (Needs text) is next = here text is next (is_member bytes_eq seen name) refl

  no_names : IsDistinct bytes_eq []
  unfolding IsDistinct
  no_names = tt

  pub no_value_leads : (name : List ℕ) → ((value : List ℕ) → HasValue edge name value → ⊥) → LeadsToALoop edge name
  no_value_leads name none = by (outcome (suc (length (keys_of edge.rule))) [] no_names (λ q e. cc) (omega arith) name (λ s e. cc))
    where
      by : Outcome name → LeadsToALoop edge name
      by (inl (value, has)) = absurd (none value has)
      by (inr loop) = loop

pub no_value_is_a_loop : (edge : EdgeEnvValue) (name : List ℕ)
    → (((value : List ℕ) → HasValue edge name value → ⊥) → LeadsToALoop edge name) × (LeadsToALoop edge name → (value : List ℕ) → HasValue edge name value → ⊥)
no_value_is_a_loop edge name = (no_value_leads edge name, loop_has_none edge name)
