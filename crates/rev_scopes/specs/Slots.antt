-- The texts of an edge's rule with their values so far.
use Rattle.std.specs.Prelude.{◌≡◌, ℕ, Bool, true, false, IsTrue, List, [], ◌∷◌, ◌++◌, ◌⊎◌, map, slice_get, Option, None, Some}
use Rattle.rev_syntax.specs.Texts.{PieceValue, Byte, Variable}
use Rattle.rev_scopes.specs.declared.slots.Slot.{Slot}
use Rattle.rev_scopes.specs.declared.rule_variable.RuleVariable.{RuleVariable}
use Rattle.rev_scopes.specs.RuleNames.{name_of, is_needed}
use Rattle.rev_scopes.specs.Bindings.{value_of}
use Rattle.rev_scopes.specs.Scopes.{RuleValue}
use Rattle.rev_scopes.specs.Expansion.{limited, appended}
use Rattle.rev_scopes.specs.declared.edge_values.Found.{Found}
use Rattle.rev_scopes.specs.declared.edge_values.Found.TheVariants.{Paths, Bytes, Value, Waiting}
use Rattle.rev_scopes.specs.Edges.{EdgeEnvValue, joined, source, Known, Needs, IsExpanded}

-- a text and, once it is known, its value, or that this is too large
pub record SlotValue : Type 0 where
  pub text : List PieceValue
  pub value : Option (Option (List ℕ))

abbrev pub seen_slot : Slot → List ℕ × SlotValue
seen_slot slot = (name_of slot.bound.now.variable, record { text = slot.bound.now.text; value = slot.value })

abbrev pub seen_slots : List Slot → List (List ℕ × SlotValue)
seen_slots slots = map seen_slot slots

-- a text of a rule, whose value is not known yet
abbrev pub unknown_slot : List ℕ × List PieceValue → List ℕ × SlotValue
unknown_slot bound = (bound.0, record { text = bound.1; value = None })

-- the rule whose texts they are
abbrev pub rule_of : List (List ℕ × SlotValue) → RuleValue
rule_of slots = map (λ slot. (slot.0, slot.1.text)) slots

-- what is known of a text is right
abbrev pub IsRight : EdgeEnvValue → List PieceValue → Option (Option (List ℕ)) → Type 0
IsRight edge text None = Unit {0}
IsRight edge text (Some known) = (value : List ℕ) × IsExpanded edge text value × (known ≡ limited value)

abbrev pub AreRight : EdgeEnvValue → List (List ℕ × SlotValue) → Type 0
AreRight edge [] = Unit {0}
AreRight edge (slot ∷ slots) = IsRight edge slot.1.text slot.1.value × AreRight edge slots

-- they are the texts of the edge's rule, and what is known of them is right
pub record AreOf (edge : EdgeEnvValue) (slots : List (List ℕ × SlotValue)) : Type 0 where
  pub rule : rule_of slots ≡ edge.rule
  pub right : AreRight edge slots

-- a name that leads to a text whose value is not known yet
pub record IsWaiting (edge : EdgeEnvValue) (slots : List (List ℕ × SlotValue)) (name : List ℕ) : Type 0 where
  pub text : List PieceValue
  pub needs : source edge name ≡ Needs text
  pub unknown : value_of name slots ≡ Some (record { text = text; value = None })

-- a text that names such a name
abbrev pub Waits : (List ℕ → Type 0) → List PieceValue → Type 0
Waits waiting [] = ⊥
Waits waiting (Byte b ∷ text) = Waits waiting text
Waits waiting (Variable name ∷ text) = waiting name ⊎ Waits waiting text

-- no text whose value is not known yet can be expanded
abbrev pub AreStuck : EdgeEnvValue → List (List ℕ × SlotValue) → Type 0
AreStuck edge slots =
    (name : List ℕ) (text : List PieceValue) → value_of name slots ≡ Some (record { text = text; value = None })
    → Waits (IsWaiting edge slots) text

-- what the code finds for a name is what the name leads to
abbrev pub IsFound : EdgeEnvValue → List (List ℕ × SlotValue) → List ℕ → Found → Type 0
IsFound edge slots name (Paths paths by) = source edge name ≡ Known (joined by paths.now)
IsFound edge slots name (Bytes bytes) = source edge name ≡ Known bytes.now
IsFound edge slots name (Value known) =
    (text : List PieceValue) × (source edge name ≡ Needs text)
    × (value_of name slots ≡ Some (record { text = text; value = Some known.now }))
IsFound edge slots name Waiting = IsWaiting edge slots name

-- What a step over a piece of a text has done to the value so far: it has added what the piece stands for, or the piece
-- waits.
abbrev pub IsAdded : EdgeEnvValue → List (List ℕ × SlotValue) → List PieceValue → Option (List ℕ) → Bool
    → Option (List ℕ) → Type 0
IsAdded edge slots piece old false new = Waits (IsWaiting edge slots) piece
IsAdded edge slots piece old true new =
    (value : List ℕ) × ((rest : List PieceValue) (others : List ℕ) → IsExpanded edge rest others
    → IsExpanded edge (piece ++ rest) (value ++ others)) × (new ≡ appended old value) × (appended new [] ≡ new)

-- what is found out of a text: its value, or that it waits
abbrev pub IsTried : EdgeEnvValue → List (List ℕ × SlotValue) → List PieceValue → Option (Option (List ℕ)) → Type 0
IsTried edge slots text None = Waits (IsWaiting edge slots) text
IsTried edge slots text (Some known) = IsRight edge text (Some known)

-- a place at which a value was found out that was not known
abbrev pub IsKnowable : EdgeEnvValue → List Slot → ℕ → Option (List ℕ) → Type 0
IsKnowable edge slots place known =
    (slot : Slot) × (slice_get slots place ≡ Some slot) × (slot.value ≡ None)
    × IsRight edge slot.bound.now.text (Some known)

-- where a name waits, no more can be found out
abbrev pub IsSettledFor : List ℕ → EdgeEnvValue → List (List ℕ × SlotValue) → Type 0
IsSettledFor name edge slots = IsWaiting edge slots name → AreStuck edge slots

-- of the variables that an edge needs none waits, or one does
abbrev pub NoneWaits : EdgeEnvValue → List (List ℕ × SlotValue) → Type 0
NoneWaits edge slots =
    (variable : RuleVariable) → IsTrue (is_needed variable) → IsWaiting edge slots (name_of variable) → ⊥

abbrev pub SomeWaits : EdgeEnvValue → List (List ℕ × SlotValue) → Type 0
SomeWaits edge slots = (variable : RuleVariable) × IsTrue (is_needed variable) × IsWaiting edge slots (name_of variable)
