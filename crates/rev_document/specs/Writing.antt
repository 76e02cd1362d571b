-- What each call of a writer does. A writer that was refused memory stays refused, and what it has counts for nothing.
use Rattle.std.specs.Prelude.{◌≡◌, ℕ, ◌^◌, ◌+◌, ◌-◌, min, Bool, false, ◌||◌, if◌then◌else◌, List, [], ◌∷◌, ◌++◌, Option, Some, None}
use Rattle.std.specs.Borrow.{Bor}
use Rattle.rev_document.specs.declared.level.Level.{Level}
use Rattle.rev_document.specs.declared.level.Shape.{Shape}
use Rattle.rev_document.specs.declared.level.To.{To}
use Rattle.rev_document.specs.declared.level.To.TheVariants as to
use Rattle.rev_document.specs.declared.part.Part.{Part}
use Rattle.rev_document.specs.declared.part.Place.{Place}
use Rattle.rev_document.specs.declared.part.Value.{Value}
use Rattle.rev_document.specs.declared.part.Value.TheVariants as value
use Rattle.rev_document.specs.declared.writer.Writer.{Writer}
use Rattle.rev_document.specs.Levels.{after_part, group_place, inner_level, place_of, said_at}

-- a part as it stands at a level
abbrev pub part_at : Level → Bool → Place → Value → Part
part_at level said place value =
    record { is_said = said; is_detail = level.is_within || level.is_detail; place = place; value = value }

-- a part for somebody
abbrev pub part_for : Level → To → Value → Part
part_for level t value = part_at level (said_at level t) (place_of level t) value

-- Where nothing was refused up to the end of a call, nothing was refused before the call: no call takes a refusal back.
-- Behind the call the parts are those that were there and these, at this level and within these groups.
pub record Becomes (old new : Writer) (more : List Part) (at : Level) (around : List Level) : Type 0 where
  pub latch : old.is_refused ≡ false
  pub parts : new.parts.items ≡ old.parts.items ++ more
  pub level : new.level ≡ at
  pub levels : new.levels.items ≡ around

-- one more part, and all else as it was
abbrev pub Puts : Writer → Writer → Bool → Place → Value → Type 0
Puts old new said place value =
    new.is_refused ≡ false → Becomes old new (part_at old.level said place value ∷ []) old.level old.levels.items

-- one more part for somebody, behind which the group has a part
abbrev pub Adds : Writer → Writer → To → Value → Type 0
Adds old new t value =
    new.is_refused ≡ false
    → Becomes old new (part_for old.level t value ∷ []) (after_part old.level (place_of old.level t)) old.levels.items

-- what is there, or that there is nothing
abbrev pub number_or_null : Option ℕ → Value
number_or_null None = value.Null
number_or_null (Some number) = value.Number number

abbrev pub event_or_null : Option ℕ → Value
event_or_null None = value.Null
event_or_null (Some number) = value.Event number

abbrev pub time_or_null : Option ℕ → Value
time_or_null None = value.Null
time_or_null (Some time) = value.Time time

abbrev pub name_or_null : Option (List ℕ) → Value
name_or_null None = value.Null
name_or_null (Some name) = value.Name name

abbrev pub word_or_null : Option (Bor (List ℕ)) → Value
word_or_null None = value.Null
word_or_null (Some word) = value.Words word

-- the beginning of a group
abbrev pub Begins : Writer → Writer → To → Shape → Type 0
Begins old new t shape =
    let place = group_place old.level t in
    new.is_refused ≡ false
    → Becomes old new (part_at old.level (said_at old.level t) place (value.Open shape) ∷ [])
    (inner_level old.level t place shape) (old.levels.items ++ after_part old.level place ∷ [])

-- the end of a group, as it stands there
abbrev pub end_of : Level → Part
end_of level = part_at level level.is_said level.end (value.Close level.shape)

-- The end of the group that began last. Where no group has begun, nothing changes.
pub record Closes (old new : Writer) : Type 0 where
  pub outside : old.levels.items ≡ [] → Becomes old new [] old.level []
  pub inside : (levels : List Level) (level : Level) → old.levels.items ≡ levels ++ level ∷ []
      → Becomes old new (end_of old.level ∷ []) level levels

abbrev pub Ends : Writer → Writer → Type 0
Ends old new = new.is_refused ≡ false → Closes old new

-- one more of some details, or none; their number has 64 bits
abbrev pub one_more : Bool → ℕ → ℕ
one_more more left = if more then min (left + 1) (2 ^ 64 - 1) else left

-- the beginning of an item, which is or is not a detail
abbrev pub Itemizes : Writer → Writer → Bool → Type 0
Itemizes old new detail =
    new.is_refused ≡ false
    → Becomes old new [] (record old.level { is_detail = detail; left = one_more detail old.level.left }) old.levels.items

-- the level behind items, of whose details none is left to be counted
abbrev pub counted : Level → Level
counted level = record level { is_detail = false; left = 0 }

-- how many details a screen leaves out
abbrev pub Rests : Writer → Writer → Bor (List ℕ) → Bor (List ℕ) → Type 0
Rests old new before after =
    let level = counted old.level in
    new.is_refused ≡ false
    → Becomes old new (part_for level to.Words (value.Rest before old.level.left after) ∷ [])
    (after_part level (place_of level to.Words)) old.levels.items
