-- What is printed of a certificate.
use Rattle.std.specs.Prelude.{◌≡◌, ℕ, nat_eq, Bool, List, ◌++◌, Option, Some, None, codes, if◌then◌else◌}
use Rattle.std.specs.List.{starts_with}
use Rattle.rev_races_text.specs.Counts.{counted}
use Rattle.rev_races_text.specs.Failed.{replayed_lines}
use Rattle.rev_races_text.specs.declared.failed.Replayed.{Replayed}
use Rattle.rev_certainty.specs.declared.certainty.Certainty.{Certainty}

-- IN WORDS
-- `certain: 7 commands; no order that this manifest allows gives any of them other inputs`
abbrev pub certain_words : ℕ → List ℕ
certain_words commands =
    codes "certain: " ++ counted commands (codes "command") (codes "commands")
    ++ codes "; no order that this manifest allows gives any of them other inputs"

-- what is certain, or why it is not
abbrev pub first_words : Option Certainty → List ℕ → Replayed → List ℕ
first_words (Some certainty) why replayed = certain_words certainty.commands ++ codes "\n"
first_words None why replayed = codes "not certain: " ++ why ++ codes "\n" ++ replayed_lines replayed

-- The text says `certain`: it begins with the sentence for it.
abbrev pub says_certain : List ℕ → Bool
says_certain text = starts_with nat_eq text (codes "certain: ")

-- AS JSON
-- what the first object begins with
abbrev pub object_head : Bool → List ℕ
object_head certain =
    if certain then codes "{\"kind\":\"certificate\",\"certain\":true," else codes "{\"kind\":\"certificate\",\"certain\":false,"

-- The objects say `certain`: the first one does.
abbrev pub object_says_certain : List ℕ → Bool
object_says_certain text = starts_with nat_eq text (codes "{\"kind\":\"certificate\",\"certain\":true,")

-- BOTH
-- A text says at once whether it is certain, whatever follows.
abbrev pub SaysFirst : (List ℕ → Bool) → List ℕ → Bool → Type 0
SaysFirst says text certain = (more : List ℕ) → says (text ++ more) ≡ certain
