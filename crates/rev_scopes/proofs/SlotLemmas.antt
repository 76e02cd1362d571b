-- The texts of a rule with their values so far.
use Rattle.std.proofs.Common.{◌≡◌, ℕ, zero, suc, ◌+◌, ◌<◌, Bool, true, false, List, [], ◌∷◌, ◌++◌, ◌≤◌, length, slice_get, map, Option, Some, None, is_some, cond, option_map, bytes_eq, codes, if◌then◌else◌, refl, sym, ap, ◌∙◌, subst, inl, inr, arith}
use Rattle.std.proofs.lemmas.List.{append-nil}
use Rattle.std.proofs.lemmas.Bool.{ltb-true, ltb-false}
use Rattle.std.proofs.Math.ListN.{set}
use Rattle.rev_syntax.specs.Texts.{PieceValue, Byte, Variable}
use Rattle.rev_scopes.specs.declared.slots.Slot.{Slot}
use Rattle.rev_scopes.specs.Bindings.{value_of}
use Rattle.rev_scopes.specs.RuleNames.{name_of}
use Rattle.rev_scopes.specs.Scopes.{RuleValue, variable_in}
use Rattle.rev_scopes.specs.Expansion.{is_too_large, limited, appended}
use Rattle.rev_scopes.specs.Edges.{EdgeEnvValue, paths_named, first_source, source, Source, Known, Needs, HasValue, Given, Expanded, IsExpanded, Nothing, Plain, Named, IsResponseFile, HasPath, IsLarge, HasNone}
use Rattle.rev_scopes.specs.Slots.{SlotValue, seen_slots, unknown_slot, rule_of, IsRight, AreRight, AreOf, IsWaiting, Waits, AreStuck, IsSettledFor, IsAdded}

-- the rule has the text that the slot of that name has
pub value_of-rule : (name : List ℕ) (slots : List (List ℕ × SlotValue)) → value_of name (rule_of slots) ≡ option_map (λ slot. slot.text) (value_of name slots)
value_of-rule name [] = refl
value_of-rule name (s ∷ slots) =
    elim (bytes_eq name s.0) as (λ t. (if t then Some s.1.text else value_of name (rule_of slots)) ≡ option_map (λ (slot : SlotValue). slot.text) (if t then Some s.1 else value_of name slots)) [
      | true ↦ refl
      | false ↦ value_of-rule name slots
    ]

pub value_of-edge : (edge : EdgeEnvValue) (name : List ℕ) (slots : List (List ℕ × SlotValue)) (slot : Option SlotValue) → rule_of slots ≡ edge.rule → value_of name slots ≡ slot
    → value_of name edge.rule ≡ option_map (λ slot. slot.text) slot
value_of-edge edge name slots slot is e = ap (value_of name) (sym is) ∙ value_of-rule name slots ∙ ap (option_map (λ slot. slot.text)) e

-- a text that can be expanded names nothing that is stuck
module _ (edge : EdgeEnvValue) (waiting : List ℕ → Type 0) (stuck : (name : List ℕ) → waiting name → (text : List PieceValue) × (source edge name ≡ Needs text) × Waits waiting text) where
  mutual
    pub no_value : {name value : List ℕ} → HasValue edge name value → waiting name → ⊥
    no_value (Given {name} {value} is) w =
        let s = stuck name w in
        let no : Known value ≡ Needs s.0 = sym is ∙ s.1 in
        cc
    no_value (Expanded {name} {value} {text} is given) w =
        let s = stuck name w in
        let same : Needs s.0 ≡ Needs text = sym s.1 ∙ is in
        let texts : s.0 ≡ text = cc in
        no_expansion given (subst (λ t. Waits waiting t) texts s.2)

    pub no_expansion : {text : List PieceValue} {value : List ℕ} → IsExpanded edge text value → Waits waiting text → ⊥
    no_expansion Nothing w = w
    no_expansion (Plain given) w = no_expansion given w
    no_expansion (Named value given) (inl w) = no_value value w
    no_expansion (Named value given) (inr w) = no_expansion given w

-- bytes that stand for themselves, before a text
pub expanded-bytes : (edge : EdgeEnvValue) (bytes : List ℕ) (rest : List PieceValue) (others : List ℕ) → IsExpanded edge rest others → IsExpanded edge (map Byte bytes ++ rest) (bytes ++ others)
expanded-bytes edge [] rest others given = given
expanded-bytes edge (b ∷ bytes) rest others given = Plain (expanded-bytes edge bytes rest others given)

-- a text that waits somewhere
pub waits-after : (waiting : List ℕ → Type 0) (first rest : List PieceValue) → Waits waiting rest → Waits waiting (first ++ rest)
waits-after waiting [] rest w = w
waits-after waiting (Byte b ∷ first) rest w = waits-after waiting first rest w
waits-after waiting (Variable name ∷ first) rest w = inr (waits-after waiting first rest w)

pub waits-before : (waiting : List ℕ → Type 0) (first rest : List PieceValue) → Waits waiting first → Waits waiting (first ++ rest)
waits-before waiting [] rest w = absurd w
waits-before waiting (Byte b ∷ first) rest w = waits-before waiting first rest w
waits-before waiting (Variable name ∷ first) rest (inl w) = inl w
waits-before waiting (Variable name ∷ first) rest (inr w) = inr (waits-before waiting first rest w)

-- what is known of a slot is right
pub right-at : (edge : EdgeEnvValue) (name : List ℕ) (slots : List (List ℕ × SlotValue)) (slot : SlotValue) → AreRight edge slots → value_of name slots ≡ Some slot → IsRight edge slot.text slot.value
right-at edge name [] slot right e = cc
right-at edge name (s ∷ slots) slot right e = by (right-at edge name slots slot right.1) (bytes_eq name s.0) e
  where
    by : (value_of name slots ≡ Some slot → IsRight edge slot.text slot.value) → (b : Bool) → (if b then Some s.1 else value_of name slots) ≡ Some slot → IsRight edge slot.text slot.value
    by later true e =
        let same : s.1 ≡ slot = cc in
        subst (λ (t : SlotValue). IsRight edge t.text t.value) same right.0
    by later false e = later e

-- a piece that is added: bytes, or a name that has a value
module _ (edge : EdgeEnvValue) (slots : List (List ℕ × SlotValue)) (pieces : List PieceValue) (old new : Option (List ℕ)) (within : appended new [] ≡ new) where
  pub added-bytes : (bytes : List ℕ) → pieces ≡ map Byte bytes → new ≡ appended old bytes → IsAdded edge slots pieces old true new
  added-bytes bytes e is =
      (bytes, (λ rest others given. subst (λ (p : List PieceValue). IsExpanded edge (p ++ rest) (bytes ++ others)) (sym e) (expanded-bytes edge bytes rest others given)), is, within)

  pub added-name : (name value : List ℕ) → pieces ≡ Variable name ∷ [] → HasValue edge name value → new ≡ appended old value → IsAdded edge slots pieces old true new
  added-name name value e has is =
      (value, (λ rest others given. subst (λ (p : List PieceValue). IsExpanded edge (p ++ rest) (value ++ others)) (sym e) (Named has given)), is, within)

-- what a step has done, by its answer
pub waited : (edge : EdgeEnvValue) (slots : List (List ℕ × SlotValue)) (pieces : List PieceValue) (old new : Option (List ℕ)) (b : Bool) → b ≡ false → IsAdded edge slots pieces old b new → Waits (IsWaiting edge slots) pieces
waited edge slots pieces old new b e added = subst (λ (t : Bool). IsAdded edge slots pieces old t new) e added

pub was_added : (edge : EdgeEnvValue) (slots : List (List ℕ × SlotValue)) (pieces : List PieceValue) (old new : Option (List ℕ)) (b : Bool) → b ≡ true → IsAdded edge slots pieces old b new → IsAdded edge slots pieces old true new
was_added edge slots pieces old new b e added = subst (λ (t : Bool). IsAdded edge slots pieces old t new) e added

-- what waits once no more can be found out has no value
pub stuck_name : (edge : EdgeEnvValue) (slots : List (List ℕ × SlotValue)) → AreStuck edge slots → (name : List ℕ) → IsWaiting edge slots name → (value : List ℕ) → HasValue edge name value → ⊥
stuck_name edge slots stuck name waits value has =
    no_value edge (IsWaiting edge slots) (λ other w. (w.text, w.needs, stuck other w.text w.unknown)) has waits

-- a rule's text that is needed is there
pub needs-rule : (p b : Option (List ℕ)) (r : Option (List PieceValue)) (l : List ℕ) (text : List PieceValue) → first_source p b r l ≡ Needs text → r ≡ Some text
needs-rule (Some x) b r l text e = cc
needs-rule None (Some x) r l text e = cc
needs-rule None None (Some t) l text e = cc
needs-rule None None None l text e = cc

-- what does not wait has a value
pub known_name : (edge : EdgeEnvValue) (slots : List (List ℕ × SlotValue)) (name : List ℕ) → AreOf edge slots → (IsWaiting edge slots name → ⊥) → (value : List ℕ) × HasValue edge name value
known_name edge slots name are known = by (source edge name) refl
  where
    slot : (text : List PieceValue) → source edge name ≡ Needs text → (s : Option SlotValue) → value_of name slots ≡ s → option_map (λ slot. slot.text) s ≡ Some text → (value : List ℕ) × HasValue edge name value
    slot text is None at e = cc
    slot text is (Some s) at e = at_slot s.value refl
      where
        same : s.text ≡ text
        same = cc

        at_slot : (v : Option (Option (List ℕ))) → s.value ≡ v → (value : List ℕ) × HasValue edge name value
        at_slot None none = absurd (known (record { text = text; needs = is; unknown = at ∙ (λ i. Some (record { text = same i; value = none i })) }))
        at_slot (Some v) some =
            let right : IsRight edge s.text (Some v) = subst (λ (o : Option (Option (List ℕ))). IsRight edge s.text o) some (right-at edge name slots s are.right at) in
            (right.0, Expanded is (subst (λ (t : List PieceValue). IsExpanded edge t right.0) same right.1))

    by : (s : Source) → source edge name ≡ s → (value : List ℕ) × HasValue edge name value
    by (Known value) is = (value, Given is)
    by (Needs text) is =
        let rule : value_of name edge.rule ≡ Some text = needs-rule (paths_named edge name) (value_of name edge.block) (value_of name edge.rule) (variable_in edge.scopes edge.scope name) text is in
        slot text is (value_of name slots) refl (sym (value_of-edge edge name slots (value_of name slots) are.rule refl) ∙ rule)

-- the value of a name by itself
no_bytes : (edge : EdgeEnvValue) {value : List ℕ} → IsExpanded edge [] value → value ≡ []
no_bytes edge Nothing = refl

one_name : (edge : EdgeEnvValue) {name value : List ℕ} → IsExpanded edge (Variable name ∷ []) value → HasValue edge name value
one_name edge (Named {name} {value} {others} has rest) =
    subst (λ (v : List ℕ). HasValue edge name v) (sym (ap (λ t. value ++ t) (no_bytes edge rest) ∙ append-nil value)) has

-- a name that has been added by itself
pub name_added : (edge : EdgeEnvValue) (slots : List (List ℕ × SlotValue)) (name : List ℕ) (new : Option (List ℕ)) → IsAdded edge slots (Variable name ∷ []) (Some []) true new
    → (value : List ℕ) × HasValue edge name value × (new ≡ limited value)
name_added edge slots name new (value, given, is, within) =
    (value, subst (λ (v : List ℕ). HasValue edge name v) (append-nil value) (one_name edge (given [] [] Nothing)), is)

-- a name that has not been added by itself waits
pub name_waits : (edge : EdgeEnvValue) (slots : List (List ℕ × SlotValue)) (name : List ℕ) → Waits (IsWaiting edge slots) (Variable name ∷ []) → IsWaiting edge slots name
name_waits edge slots name (inl waits) = waits
name_waits edge slots name (inr none) = absurd none

-- a name that does not wait has been added
pub known_added : (edge : EdgeEnvValue) (slots : List (List ℕ × SlotValue)) (name : List ℕ) (new : Option (List ℕ)) (b : Bool) → (IsWaiting edge slots name → ⊥) → IsAdded edge slots (Variable name ∷ []) (Some []) b new
    → (value : List ℕ) × HasValue edge name value × (new ≡ limited value)
known_added edge slots name new false known (inl waits) = absurd (known waits)
known_added edge slots name new false known (inr none) = absurd none
known_added edge slots name new true known added = name_added edge slots name new added

pub limited-some : (value v : List ℕ) → limited value ≡ Some v → (value ≡ v) × (length v ≤ 1048576)
limited-some value v e = by (is_too_large value) refl e
  where
    by : (b : Bool) → is_too_large value ≡ b → (if b then None else Some value) ≡ Some v → (value ≡ v) × (length v ≤ 1048576)
    by true h e = cc
    by false h e =
        let same : value ≡ v = cc in
        (same, omega (arith, ltb-false 1048576 (length value) h, ap length same))

pub limited-none : (value : List ℕ) → limited value ≡ None → 1048576 < length value
limited-none value e = by (is_too_large value) refl e
  where
    by : (b : Bool) → is_too_large value ≡ b → (if b then None else Some value) ≡ None → 1048576 < length value
    by true h e = ltb-true 1048576 (length value) h
    by false h e = cc

-- the path of a response file, by what was added for `rspfile`
module _ (edge : EdgeEnvValue) (slots : List (List ℕ × SlotValue)) (new : Option (List ℕ)) where
  abbrev pub AddedPath : Bool → Type 0
  AddedPath b = IsAdded edge slots (Variable (codes "rspfile") ∷ []) (Some []) b new

  pub response-none : (b : Bool) → b ≡ false → IsSettledFor (codes "rspfile") edge slots → AddedPath b → IsResponseFile edge (Some [])
  response-none true h settled added = cc
  response-none false h settled added =
      let waits = name_waits edge slots (codes "rspfile") added in HasNone (stuck_name edge slots (settled waits) (codes "rspfile") waits)

  response-some : (b : Bool) → b ≡ true → AddedPath b → (path : List ℕ) → new ≡ Some path → IsResponseFile edge (Some path)
  response-some false h added path e = cc
  response-some true h added path e =
      let given = name_added edge slots (codes "rspfile") new added in
      let same = limited-some given.0 path (sym given.2 ∙ e) in
      HasPath (subst (λ (v : List ℕ). HasValue edge (codes "rspfile") v) same.0 given.1) same.1

  response-large : (b : Bool) → b ≡ true → AddedPath b → new ≡ None → IsResponseFile edge None
  response-large false h added e = cc
  response-large true h added e =
      let given = name_added edge slots (codes "rspfile") new added in
      IsLarge given.1 (limited-none given.0 (sym given.2 ∙ e))

  pub response-known : (b : Bool) → b ≡ true → AddedPath b → (path : Option (List ℕ)) → new ≡ path → IsResponseFile edge path
  response-known b h added None e = response-large b h added e
  response-known b h added (Some path) e = response-some b h added path e

-- what is known where nothing more can be found out
abbrev pub Stuck : (List ℕ → Type 0) → List (List ℕ × SlotValue) → Type 0
Stuck waiting [] = Unit {0}
Stuck waiting (slot ∷ slots) = (slot.1.value ≡ None → Waits waiting slot.1.text) × Stuck waiting slots

pub stuck-push : (waiting : List ℕ → Type 0) (slots : List Slot) (slot : Slot) → Stuck waiting (seen_slots slots) → (slot.value ≡ None → Waits waiting slot.bound.now.text) → Stuck waiting (seen_slots (slots ++ slot ∷ []))
stuck-push waiting [] slot stuck here = (here, tt)
stuck-push waiting (s ∷ slots) slot stuck here = (stuck.0, stuck-push waiting slots slot stuck.1 here)

pub stuck-at : (waiting : List ℕ → Type 0) (slots : List (List ℕ × SlotValue)) → Stuck waiting slots → (name : List ℕ) (text : List PieceValue) → value_of name slots ≡ Some (record { text = text; value = None }) → Waits waiting text
stuck-at waiting [] stuck name text e = cc
stuck-at waiting (s ∷ slots) stuck name text e = by (stuck-at waiting slots stuck.1 name text) (bytes_eq name s.0) e
  where
    by : (value_of name slots ≡ Some (record { text = text; value = None }) → Waits waiting text) → (b : Bool) → (if b then Some s.1 else value_of name slots) ≡ Some (record { text = text; value = None }) → Waits waiting text
    by later true e =
        let same : s.1 ≡ record { text = text; value = None } = cc in
        subst (λ (t : List PieceValue). Waits waiting t) (ap (λ slot. slot.text) same) (stuck.0 (ap (λ slot. slot.value) same))
    by later false e = later e

-- how many values are not known
abbrev pub unknown : List Slot → ℕ
unknown [] = 0
unknown (slot ∷ slots) = cond (is_some slot.value) 0 1 + unknown slots

-- one more value is known
pub settled-at : (edge : EdgeEnvValue) (slots : List Slot) (i : ℕ) (slot : Slot) (v : Option (List ℕ)) → slice_get slots i ≡ Some slot → slot.value ≡ None → IsRight edge slot.bound.now.text (Some v) → AreRight edge (seen_slots slots)
    → (rule_of (seen_slots (set slots i (record { bound = slot.bound; value = Some v }))) ≡ rule_of (seen_slots slots))
    × AreRight edge (seen_slots (set slots i (record { bound = slot.bound; value = Some v })))
    × (unknown (set slots i (record { bound = slot.bound; value = Some v })) < unknown slots)
settled-at edge [] zero slot v e none right are = cc
settled-at edge [] (suc i) slot v e none right are = cc
settled-at edge (s ∷ slots) zero slot v e none right are =
    let same : s ≡ slot = cc in
    let one : cond {A = ℕ} (is_some s.value) 0 1 ≡ 1 = ap (λ (t : Slot). cond {A = ℕ} (is_some t.value) 0 1) same ∙ ap (λ (o : Option (Option (List ℕ))). cond {A = ℕ} (is_some o) 0 1) none in (
      ap (λ (t : Slot). (name_of t.bound.now.variable, t.bound.now.text) ∷ rule_of (seen_slots slots)) (sym same),
      (right, are.1),
      omega (arith, one),
    )
settled-at edge (s ∷ slots) (suc i) slot v e none right are =
    let later = settled-at edge slots i slot v e none right are.1 in
    let fewer : unknown (set slots i (record { bound = slot.bound; value = Some v })) < unknown slots = later.2 in (
      ap (λ t. (name_of s.bound.now.variable, s.bound.now.text) ∷ t) later.0,
      (are.0, later.1),
      omega arith,
    )

rule_of-unknown : (rule : RuleValue) → rule_of (map unknown_slot rule) ≡ rule
rule_of-unknown [] = refl
rule_of-unknown (bound ∷ rule) = ap (λ t. bound ∷ t) (rule_of-unknown rule)

right-unknown : (edge : EdgeEnvValue) (rule : RuleValue) → AreRight edge (map unknown_slot rule)
right-unknown edge [] = tt
right-unknown edge (bound ∷ rule) = (tt, right-unknown edge rule)

-- nothing is known at first, and that is right
pub unknown-are : (edge : EdgeEnvValue) (slots : List (List ℕ × SlotValue)) → slots ≡ map unknown_slot edge.rule → AreOf edge slots
unknown-are edge slots is =
    subst (AreOf edge) (sym is) (record { rule = rule_of-unknown edge.rule; right = right-unknown edge edge.rule })
