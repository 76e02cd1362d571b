-- Values at the end: what has a derivation has a value within as many texts as the rule has.
use Rattle.std.proofs.Common.{◌≡◌, ℕ, zero, suc, ◌+◌, ◌-◌, ◌<◌, ◌≤◌, Bool, true, false, ◌⊎◌, inl, inr, not, ◌||◌, IsTrue, List, [], ◌∷◌, ◌++◌, length, sum, Option, Some, None, is_some, option_map, nat_eq, bytes_eq, codes, refl, sym, ap, ◌∙◌, subst, arith, if◌then◌else◌}
use Rattle.std.specs.List.{list_any}
use Rattle.std.proofs.lemmas.Bool.{eqb-true, eqb-false, ltb-true, lt-ltb}
use Rattle.std.proofs.lemmas.Slice.Eq.{bytes_eq-Decides}
use Rattle.rev_syntax.specs.Texts.{PieceValue, Byte, Variable}
use Rattle.rev_scopes.specs.Bindings.{value_of}
use Rattle.rev_scopes.specs.Scopes.{variable_in}
use Rattle.rev_scopes.specs.Edges.{EdgeEnvValue, Source, Known, Needs, first_source, paths_named, source, HasValue, Given, Expanded, IsExpanded, Nothing, Plain, Named, AllHaveValues, SomeNeedsItself, SomeIsTooLarge, IsResponseFile, HasPath, IsLarge, HasNone, response_given, given_for}
use Rattle.rev_scopes.specs.declared.edge.EdgeVariables.{EdgeVariables}
use Rattle.rev_scopes.specs.declared.rule_variable.RuleVariable.{RuleVariable}
use Rattle.rev_scopes.specs.declared.rule_variable.RuleVariable.TheVariants.{Command, Depfile, Deps, MsvcDepsPrefix, Description, Generator, Restat, Rspfile, RspfileContent, Pool}
use Rattle.rev_scopes.specs.Expansion.{is_too_large}
use Rattle.rev_scopes.specs.RuleNames.{name_of, is_needed}
use Rattle.rev_manifest.specs.declared.fault.FaultKind.TheVariants.{VariableCycle, TooLarge}
use Rattle.rev_manifest.specs.Held.{path_made, seen_values}
use Rattle.rev_manifest.specs.Ends.{both, text_by, value_by, value_within, value_at, needed, or_empty, response_path, response_made, fault_at_end, values_at_end}

abbrev pub Look : Type 0
Look = List ℕ → Option (List ℕ)

-- what one look-up finds, the other finds
abbrev pub Keeps : Look → Look → Type 0
Keeps f g = (name value : List ℕ) → f name ≡ Some value → g name ≡ Some value

keeps_text : (f g : Look) → Keeps f g → (text : List PieceValue) (value : List ℕ) → text_by f text ≡ Some value → text_by g text ≡ Some value
keeps_text f g more [] value e = e
keeps_text f g more (Byte b ∷ text) value e = by (text_by f text) refl (keeps_text f g more text) e
  where
    by : (o : Option (List ℕ)) → text_by f text ≡ o → ((v : List ℕ) → text_by f text ≡ Some v → text_by g text ≡ Some v)
        → option_map (λ others. b ∷ others) o ≡ Some value → option_map (λ others. b ∷ others) (text_by g text) ≡ Some value
    by None h later e = cc
    by (Some v) h later e = ap (option_map (λ (others : List ℕ). b ∷ others)) (later v h) ∙ e
keeps_text f g more (Variable name ∷ text) value e = by (f name) refl (text_by f text) refl (keeps_text f g more text) e
  where
    by : (o : Option (List ℕ)) → f name ≡ o → (p : Option (List ℕ)) → text_by f text ≡ p → ((v : List ℕ) → text_by f text ≡ Some v → text_by g text ≡ Some v)
        → both o p ≡ Some value → both (g name) (text_by g text) ≡ Some value
    by None h p k later e = cc
    by (Some v) h None k later e = cc
    by (Some v) h (Some w) k later e = (λ i. both (more name v h i) (later w k i)) ∙ e

keeps_source : (f g : Look) → Keeps f g → (s : Source) (value : List ℕ) → value_by f s ≡ Some value → value_by g s ≡ Some value
keeps_source f g more (Known v) value e = e
keeps_source f g more (Needs text) value e = keeps_text f g more text value e

module _ (edge : EdgeEnvValue) where
  -- one more step keeps what is found
  keeps_step : (n : ℕ) → Keeps (value_within n edge) (value_within (suc n) edge)
  unfolding value_within
  keeps_step zero name value e = cc
  keeps_step (suc n) name value e = keeps_source (value_within n edge) (value_within (suc n) edge) (keeps_step n) (source edge name) value e

  next : (m n : ℕ) → suc m + n ≡ suc (m + n)
  next m n = omega arith

  nothing_more : (n : ℕ) → n ≡ 0 + n
  nothing_more n = omega arith

  keeps_more : (m n : ℕ) → Keeps (value_within n edge) (value_within (m + n) edge)
  keeps_more zero n name value e = subst (λ (k : ℕ). value_within k edge name ≡ Some value) (nothing_more n) e
  keeps_more (suc m) n name value e =
      subst (λ (k : ℕ). value_within k edge name ≡ Some value) (sym (next m n)) (keeps_step (m + n) name value (keeps_more m n name value e))

  swap_sum : (m n : ℕ) → m + n ≡ n + m
  swap_sum m n = omega arith

  by_one : (name value : List ℕ) → source edge name ≡ Known value → value_within 1 edge name ≡ Some value
  unfolding value_within
  by_one name value is = ap (value_by (value_within 0 edge)) is

  by_text : (name value : List ℕ) (text : List PieceValue) (n : ℕ) → source edge name ≡ Needs text → text_by (value_within n edge) text ≡ Some value → value_within (suc n) edge name ≡ Some value
  unfolding value_within
  by_text name value text n is e = ap (value_by (value_within n edge)) is ∙ e

  by_named : (name value others : List ℕ) (text : List PieceValue) (m n : ℕ) → value_within m edge name ≡ Some value → text_by (value_within n edge) text ≡ Some others
      → text_by (value_within (m + n) edge) (Variable name ∷ text) ≡ Some (value ++ others)
  by_named name value others text m n e f =
      let left : value_within (m + n) edge name ≡ Some value = subst (λ (k : ℕ). value_within k edge name ≡ Some value) (swap_sum n m) (keeps_more n m name value e) in
      let right : text_by (value_within (m + n) edge) text ≡ Some others = keeps_text (value_within n edge) (value_within (m + n) edge) (keeps_more m n) text others f in
      (λ i. both (left i) (right i))

  -- a derivation is found within some number of steps
  mutual
    reach : {name value : List ℕ} → HasValue edge name value → (n : ℕ) × (value_within n edge name ≡ Some value)
    reach (Given {name} {value} is) = (1, by_one name value is)
    reach (Expanded {name} {value} {text} is given) = let r = reach_text given in (suc (r.0), by_text name value text (r.0) is (r.1))

    reach_text : {text : List PieceValue} {value : List ℕ} → IsExpanded edge text value → (n : ℕ) × (text_by (value_within n edge) text ≡ Some value)
    reach_text Nothing = (0, refl)
    reach_text (Plain {b} rest) = let r = reach_text rest in (r.0, ap (option_map (λ (others : List ℕ). b ∷ others)) (r.1))
    reach_text (Named {name} {value} {others} {text} has rest) =
        let v = reach has in
        let r = reach_text rest in (v.0 + r.0, by_named name value others text (v.0) (r.0) (v.1) (r.1))

  -- two steps that find the same
  abbrev pub Agree : ℕ → Type 0
  Agree n = (name : List ℕ) → value_within n edge name ≡ value_within (suc n) edge name

  agree_next : (n : ℕ) → Agree n → Agree (suc n)
  unfolding value_within
  agree_next n same name = ap (λ (f : Look). value_by f (source edge name)) (λ i other. same other i)

  agree_up : (n : ℕ) → Agree n → (m : ℕ) (name : List ℕ) → value_within n edge name ≡ value_within (m + n) edge name
  agree_up n same zero name = ap (λ (k : ℕ). value_within k edge name) (nothing_more n)
  agree_up n same (suc m) name = agree_up n same m name ∙ agree_at m name ∙ ap (λ (k : ℕ). value_within k edge name) (sym (next m n))
    where
      agree_at : (m : ℕ) → Agree (m + n)
      agree_at zero = subst Agree (nothing_more n) same
      agree_at (suc m) = subst Agree (sym (next m n)) (agree_next (m + n) (agree_at m))

-- how many of a rule's names are found
abbrev pub count : Look → List (List ℕ × List PieceValue) → ℕ
count f [] = 0
count f (binding ∷ bindings) = (if is_some (f binding.0) then 1 else 0) + count f bindings

count_le : (f : Look) (rule : List (List ℕ × List PieceValue)) → count f rule ≤ length rule
count_le f [] = omega arith
count_le f (b ∷ bs) = by (is_some (f b.0)) (count_le f bs)
  where
    by : (t : Bool) → count f bs ≤ length bs → (if t then 1 else 0) + count f bs ≤ length (b ∷ bs)
    by true h = omega arith
    by false h = omega arith

found_too : (o p : Option (List ℕ)) → ((v : List ℕ) → o ≡ Some v → p ≡ Some v) → is_some o ≡ true → is_some p ≡ true
found_too None p more e = cc
found_too (Some v) p more e = ap is_some (more v refl)

count_more : (f g : Look) → Keeps f g → (rule : List (List ℕ × List PieceValue)) → count f rule ≤ count g rule
count_more f g more [] = omega arith
count_more f g more (b ∷ bs) = by (is_some (f b.0)) refl (is_some (g b.0)) refl (count_more f g more bs)
  where
    by : (s : Bool) → is_some (f b.0) ≡ s → (t : Bool) → is_some (g b.0) ≡ t → count f bs ≤ count g bs → (if s then 1 else 0) + count f bs ≤ (if t then 1 else 0) + count g bs
    by true e true h rest = omega arith
    by false e true h rest = omega arith
    by false e false h rest = omega arith
    by true e false h rest = let no : true ≡ false = sym (found_too (f b.0) (g b.0) (more b.0) e) ∙ h in cc

-- where as many are found, the same are found
count_same : (f g : Look) → Keeps f g → (rule : List (List ℕ × List PieceValue)) → count f rule ≡ count g rule → (name : List ℕ) (text : List PieceValue) → value_of name rule ≡ Some text
    → is_some (f name) ≡ is_some (g name)
count_same f g more [] e name text bound = cc
count_same f g more (b ∷ bs) e name text bound =
    by (is_some (f b.0)) refl (is_some (g b.0)) refl (bytes_eq name b.0) refl (count_same f g more bs) (count_more f g more bs) e bound
  where
    by : (s : Bool) → is_some (f b.0) ≡ s → (t : Bool) → is_some (g b.0) ≡ t → (u : Bool) → bytes_eq name b.0 ≡ u
        → (count f bs ≡ count g bs → (name : List ℕ) (text : List PieceValue) → value_of name bs ≡ Some text → is_some (f name) ≡ is_some (g name)) → count f bs ≤ count g bs
        → (if s then 1 else 0) + count f bs ≡ (if t then 1 else 0) + count g bs → (if u then Some b.1 else value_of name bs) ≡ Some text → is_some (f name) ≡ is_some (g name)
    by true p true q true same later le e bound = ap (λ n. is_some (f n)) ((bytes_eq-Decides name b.0).0 same) ∙ p ∙ sym q ∙ sym (ap (λ n. is_some (g n)) ((bytes_eq-Decides name b.0).0 same))
    by false p false q true same later le e bound = ap (λ n. is_some (f n)) ((bytes_eq-Decides name b.0).0 same) ∙ p ∙ sym q ∙ sym (ap (λ n. is_some (g n)) ((bytes_eq-Decides name b.0).0 same))
    by true p true q false same later le e bound = later (omega arith) name text bound
    by false p false q false same later le e bound = later (omega arith) name text bound
    by true p false q u same later le e bound = let no : true ≡ false = sym (found_too (f b.0) (g b.0) (more b.0) p) ∙ q in cc
    by false p true q u same later le e bound = absurd (omega arith)

same_option : (o p : Option (List ℕ)) → ((v : List ℕ) → o ≡ Some v → p ≡ Some v) → is_some o ≡ is_some p → o ≡ p
same_option None None more e = refl
same_option None (Some w) more e = cc
same_option (Some v) p more e = sym (more v refl)

rule_text : (paths block : Option (List ℕ)) (rule : Option (List PieceValue)) (last : List ℕ) (text : List PieceValue) → first_source paths block rule last ≡ Needs text → rule ≡ Some text
rule_text (Some p) block rule last text e = cc
rule_text None (Some v) rule last text e = cc
rule_text None None (Some t) last text e = cc
rule_text None None None last text e = cc

module _ (edge : EdgeEnvValue) where
  -- where a step finds no more names of the rule, it finds no more at all
  agree_count : (n : ℕ) → count (value_within (suc n) edge) edge.rule ≡ count (value_within (suc (suc n)) edge) edge.rule → Agree edge (suc n)
  unfolding value_within
  agree_count n e name = by (source edge name) refl
    where
      by : (s : Source) → source edge name ≡ s → value_within (suc n) edge name ≡ value_within (suc (suc n)) edge name
      by (Known v) is = ap (value_by (value_within n edge)) is ∙ sym (ap (value_by (value_within (suc n) edge)) is)
      by (Needs text) is =
          same_option (value_within (suc n) edge name) (value_within (suc (suc n)) edge name) (keeps_step edge (suc n) name)
          (count_same (value_within (suc n) edge) (value_within (suc (suc n)) edge) (keeps_step edge (suc n)) edge.rule e name text
          (rule_text (paths_named edge name) (value_of name edge.block) (value_of name edge.rule) (variable_in edge.scopes edge.scope name) text is))

  -- after each step either an earlier one found all, or one more name of the rule is found
  progress : (j : ℕ) → ((n : ℕ) × (n < j) × Agree edge (suc n)) ⊎ (j ≤ count (value_within (suc j) edge) edge.rule)
  progress zero = inr (omega arith)
  progress (suc j) = by (progress j) (nat_eq a b) refl
    where
      a : ℕ
      a = count (value_within (suc j) edge) edge.rule

      b : ℕ
      b = count (value_within (suc (suc j)) edge) edge.rule

      by : ((n : ℕ) × (n < j) × Agree edge (suc n)) ⊎ (j ≤ a) → (t : Bool) → nat_eq a b ≡ t → ((n : ℕ) × (n < suc j) × Agree edge (suc n)) ⊎ (suc j ≤ b)
      by (inl before) t h = inl (before.0, omega arith, before.2)
      by (inr le) true h = inl (j, omega arith, agree_count j (eqb-true a b h))
      by (inr le) false h =
          let more : a ≤ b = count_more (value_within (suc j) edge) (value_within (suc (suc j)) edge) (keeps_step edge (suc j)) edge.rule in
          inr (omega (arith, eqb-false a b h))

  -- what is found at all is found within the steps that the rule needs
  settle : (m : ℕ) (name value : List ℕ) → value_within m edge name ≡ Some value → value_at edge name ≡ Some value
  settle m name value e = by (progress (suc (length edge.rule)))
    where
      k : ℕ
      k = length edge.rule

      by : ((n : ℕ) × (n < suc k) × Agree edge (suc n)) ⊎ (suc k ≤ count (value_within (suc (suc k)) edge) edge.rule) → value_within (k + 2) edge name ≡ Some value
      by (inr le) = let few : count (value_within (suc (suc k)) edge) edge.rule ≤ k = count_le (value_within (suc (suc k)) edge) edge.rule in absurd (omega arith)
      by (inl found) =
          let n = found.0 in
          let within : n < suc k = found.1 in
          let late : (k + 2) + m ≡ ((k + 2) + m - suc n) + suc n = omega arith in
          let here : k + 2 ≡ (k + 2 - suc n) + suc n = omega arith in
          ap (λ (j : ℕ). value_within j edge name) here ∙ sym (agree_up edge (suc n) found.2 (k + 2 - suc n) name)
          ∙ agree_up edge (suc n) found.2 ((k + 2) + m - suc n) name ∙ sym (ap (λ (j : ℕ). value_within j edge name) late) ∙ keeps_more edge (k + 2) m name value e

  pub derived : (name value : List ℕ) → HasValue edge name value → value_at edge name ≡ Some value
  derived name value h = let r = reach edge h in settle (r.0) name value (r.1)

-- what is found within some number of texts has a derivation
module _ (edge : EdgeEnvValue) where
  text_derived : (f : Look) → ((name value : List ℕ) → f name ≡ Some value → HasValue edge name value) → (text : List PieceValue) (value : List ℕ) → text_by f text ≡ Some value
      → IsExpanded edge text value
  text_derived f has [] value e = let same : [] ≡ value = cc in subst (IsExpanded edge []) same Nothing
  text_derived f has (Byte b ∷ text) value e = by (text_derived f has text) (text_by f text) refl e
    where
      by : ((v : List ℕ) → text_by f text ≡ Some v → IsExpanded edge text v) → (o : Option (List ℕ)) → text_by f text ≡ o → option_map (λ others. b ∷ others) o ≡ Some value → IsExpanded edge (Byte b ∷ text) value
      by later None h e = cc
      by later (Some v) h e = let same : b ∷ v ≡ value = cc in subst (IsExpanded edge (Byte b ∷ text)) same (Plain (later v h))
  text_derived f has (Variable name ∷ text) value e = by (text_derived f has text) (f name) refl (text_by f text) refl e
    where
      by : ((v : List ℕ) → text_by f text ≡ Some v → IsExpanded edge text v) → (o : Option (List ℕ)) → f name ≡ o → (p : Option (List ℕ)) → text_by f text ≡ p → both o p ≡ Some value → IsExpanded edge (Variable name ∷ text) value
      by later None h p k e = cc
      by later (Some v) h None k e = cc
      by later (Some v) h (Some w) k e = let same : v ++ w ≡ value = cc in subst (IsExpanded edge (Variable name ∷ text)) same (Named (has name v h) (later w k))

  source_derived : (f : Look) → ((name value : List ℕ) → f name ≡ Some value → HasValue edge name value) → (name value : List ℕ) (s : Source) → source edge name ≡ s → value_by f s ≡ Some value
      → HasValue edge name value
  source_derived f has name value (Known v) is e = let same : v ≡ value = cc in Given (is ∙ ap Known same)
  source_derived f has name value (Needs text) is e = Expanded is (text_derived f has text value e)

  value_derived : (n : ℕ) (name value : List ℕ) → value_within n edge name ≡ Some value → HasValue edge name value
  unfolding value_within
  value_derived zero name value e = cc
  value_derived (suc n) name value e = source_derived (value_within n edge) (value_derived n) name value (source edge name) refl e

  pub at_derived : (name value : List ℕ) → value_at edge name ≡ Some value → HasValue edge name value
  at_derived name value e = value_derived (length edge.rule + 2) name value e

  pub none_at : (name : List ℕ) → ((value : List ℕ) → HasValue edge name value → ⊥) → is_some (value_at edge name) ≡ false
  none_at name none = by (value_at edge name) refl
    where
      by : (o : Option (List ℕ)) → value_at edge name ≡ o → is_some o ≡ false
      by None e = refl
      by (Some v) e = absurd (none v (at_derived name v e))

-- whether each of these names has a value, and none of these is too large
abbrev pub AllFound : Look → List (List ℕ) → Type 0
AllFound value [] = Unit {0}
AllFound value (name ∷ names) = ((v : List ℕ) × (value name ≡ Some v)) × AllFound value names

abbrev pub AllSmall : Look → List (List ℕ) → Type 0
AllSmall value [] = Unit {0}
AllSmall value (name ∷ names) = (is_too_large (or_empty (value name)) ≡ false) × AllSmall value names

none_missing : (value : Look) (names : List (List ℕ)) → AllFound value names → list_any (λ name. not (is_some (value name))) names ≡ false
none_missing value [] h = refl
none_missing value (name ∷ names) h = (λ i. not (is_some (h.0.1 i)) || none_missing value names h.1 i)

none_large : (value : Look) (names : List (List ℕ)) → AllSmall value names → list_any (λ name. is_too_large (or_empty (value name))) names ≡ false
none_large value [] h = refl
none_large value (name ∷ names) h = (λ i. h.0 i || none_large value names h.1 i)

later_one : (a b : Bool) → b ≡ true → (a || b) ≡ true
later_one true b h = refl
later_one false b h = h

first_one : (a b : Bool) → a ≡ true → (a || b) ≡ true
first_one a b h = ap (λ t. t || b) h

-- a test that a needed variable passes
any_needed : (p : List ℕ → Bool) (variable : RuleVariable) → IsTrue (is_needed variable) → p (name_of variable) ≡ true → list_any p needed ≡ true
any_needed p Command h e = first_one _ _ e
any_needed p Depfile h e = later_one (p (codes "command")) _ (first_one _ _ e)
any_needed p Deps h e = later_one (p (codes "command")) _ (later_one (p (codes "depfile")) _ (first_one _ _ e))
any_needed p Generator h e = later_one (p (codes "command")) _ (later_one (p (codes "depfile")) _ (later_one (p (codes "deps")) _ (first_one _ _ e)))
any_needed p Restat h e =
    later_one (p (codes "command")) _ (later_one (p (codes "depfile")) _ (later_one (p (codes "deps")) _ (later_one (p (codes "generator")) _ (first_one _ _ e))))
any_needed p RspfileContent h e =
    later_one (p (codes "command")) _ (later_one (p (codes "depfile")) _ (later_one (p (codes "deps")) _ (later_one (p (codes "generator")) _ (later_one (p (codes "restat")) _ (first_one _ _ e)))))
any_needed p Pool h e =
    later_one (p (codes "command")) _ (later_one (p (codes "depfile")) _ (later_one (p (codes "deps")) _ (later_one (p (codes "generator")) _ (later_one (p (codes "restat")) _
    (later_one (p (codes "rspfile_content")) _ (first_one _ _ e))))))
any_needed p MsvcDepsPrefix h e = cc
any_needed p Description h e = cc
any_needed p Rspfile h e = cc

not_larger : (value : List ℕ) → length value ≤ 1048576 → is_too_large value ≡ false
not_larger value h = by (is_too_large value) refl
  where
    by : (b : Bool) → is_too_large value ≡ b → is_too_large value ≡ false
    by true e = let more : 1048576 < length value = ltb-true 1048576 (length value) e in absurd (omega arith)
    by false e = e

module _ (edge : EdgeEnvValue) where
  all_found : AllHaveValues edge → AllFound (value_at edge) needed
  all_found all =
      let at : (variable : RuleVariable) → IsTrue (is_needed variable) → (v : List ℕ) × (value_at edge (name_of variable) ≡ Some v) =
      λ variable h. ((all variable h).0, derived edge (name_of variable) ((all variable h).0) ((all variable h).1)) in
      (at Command refl, (at Depfile refl, (at Deps refl, (at Generator refl, (at Restat refl, (at RspfileContent refl, (at Pool refl, tt)))))))

  pub fault_needs : SomeNeedsItself edge → fault_at_end edge ≡ Some VariableCycle
  fault_needs h =
      ap (λ b. if b then Some VariableCycle else (if list_any (λ name. is_too_large (or_empty (value_at edge name))) needed then Some TooLarge else None))
      (any_needed (λ name. not (is_some (value_at edge name))) h.0 h.1 (ap not (none_at edge (name_of h.0) h.2)))

  pub fault_large : AllHaveValues edge → SomeIsTooLarge edge → fault_at_end edge ≡ Some TooLarge
  fault_large all h =
      let found : value_at edge (name_of h.0) ≡ Some h.1 = derived edge (name_of h.0) h.1 h.3 in
      let large : is_too_large (or_empty (value_at edge (name_of h.0))) ≡ true = ap (λ o. is_too_large (or_empty o)) found ∙ lt-ltb 1048576 (length h.1) h.4 in
      (λ i. if none_missing (value_at edge) needed (all_found all) i then Some VariableCycle
      else (if any_needed (λ name. is_too_large (or_empty (value_at edge name))) h.0 h.2 large i then Some TooLarge else None))

  -- what is given for the response file is its path
  response_is : (path : Option (List ℕ)) → IsResponseFile edge path
      → (response_path (value_at edge (codes "rspfile")) ≡ or_empty path) × (response_made (value_at edge (codes "rspfile")) ≡ path_made path)
  response_is _ (HasPath {path} has within) = (
    ap response_path (derived edge (codes "rspfile") path has) ∙ ap (λ b. if b then [] else path) (not_larger path within),
    ap response_made (derived edge (codes "rspfile") path has) ∙ ap (λ b. if b then 1048576 else length path) (not_larger path within),
  )
  response_is _ (IsLarge {value} has large) = (
    ap response_path (derived edge (codes "rspfile") value has) ∙ ap (λ b. if b then [] else value) (lt-ltb 1048576 (length value) large),
    ap response_made (derived edge (codes "rspfile") value has) ∙ ap (λ b. if b then 1048576 else length value) (lt-ltb 1048576 (length value) large),
  )
  response_is _ (HasNone none) = by (value_at edge (codes "rspfile")) refl
    where
      by : (o : Option (List ℕ)) → value_at edge (codes "rspfile") ≡ o → (response_path o ≡ []) × (response_made o ≡ 0)
      by None e = (refl, refl)
      by (Some v) e = absurd (none v (at_derived edge (codes "rspfile") v e))

  -- what is given for each variable is its value
  module _ (values : EdgeVariables) (right : (variable : RuleVariable) → IsTrue (is_needed variable) → HasValue edge (name_of variable) (given_for variable values))
      (small : (variable : RuleVariable) → length (given_for variable values) ≤ 1048576) (response : IsResponseFile edge (response_given values)) where
    given_at : (variable : RuleVariable) → IsTrue (is_needed variable) → value_at edge (name_of variable) ≡ Some (given_for variable values)
    given_at variable h = derived edge (name_of variable) (given_for variable values) (right variable h)

    small_at : (variable : RuleVariable) → IsTrue (is_needed variable) → is_too_large (or_empty (value_at edge (name_of variable))) ≡ false
    small_at variable h = ap (λ o. is_too_large (or_empty o)) (given_at variable h) ∙ not_larger (given_for variable values) (small variable)

    pub fault_none : fault_at_end edge ≡ None
    fault_none =
        let found : AllFound (value_at edge) needed = all_found (λ variable h. (given_for variable values, right variable h)) in
        let fit : AllSmall (value_at edge) needed =
        (small_at Command refl, (small_at Depfile refl, (small_at Deps refl, (small_at Generator refl, (small_at Restat refl, (small_at RspfileContent refl, (small_at Pool refl, tt))))))) in
        (λ i. if none_missing (value_at edge) needed found i then Some VariableCycle else (if none_large (value_at edge) needed fit i then Some TooLarge else None))

    pub values_are : values_at_end edge ≡ seen_values values
    values_are =
        (λ i. record {
          command = or_empty (given_at Command refl i);
          depfile = or_empty (given_at Depfile refl i);
          deps = or_empty (given_at Deps refl i);
          generator = or_empty (given_at Generator refl i);
          restat = or_empty (given_at Restat refl i);
          rspfile = (response_is (response_given values) response).0 i;
          rspfile_content = or_empty (given_at RspfileContent refl i);
          pool = or_empty (given_at Pool refl i);
          made =
              sum
              (length (or_empty (given_at Command refl i)) ∷ length (or_empty (given_at Depfile refl i)) ∷ length (or_empty (given_at Deps refl i))
              ∷ length (or_empty (given_at Generator refl i)) ∷ length (or_empty (given_at Restat refl i)) ∷ length (or_empty (given_at RspfileContent refl i))
              ∷ length (or_empty (given_at Pool refl i)) ∷ (response_is (response_given values) response).1 i ∷ []);
        })
