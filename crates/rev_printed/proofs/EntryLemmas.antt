-- Lines with other fields, and one line more.
use Rattle.std.proofs.Common.{◌≡◌, ◌∙◌, ℕ, ◌+◌, ◌<◌, ◌≤◌, nat_lt, true, false, List, [], ◌∷◌, ◌++◌, Option, None, get_or, length, take, ap, refl, arith, rules, tests}
use Rattle.std.specs.Global.{Vec}
use Rattle.std.specs.List.{cons_option, filter_map}
use Rattle.std.proofs.lemmas.List.{take_more}
use Rattle.std.proofs.lemmas.List.Elements.{filter_map-append}
use Rattle.rev_fields.specs.Parts.{vectors_of}
use Rattle.rev_manifest.specs.Manifest.{BuildValue}
use Rattle.rev_printed.specs.Entries.{EntryValue, entry_in}

abbrev no-entry : Option EntryValue
no-entry = None

below : (a b : ℕ) → nat_lt a b ≡ true → a < b
below a b h = search (tests, rules)

not-below : (a b : ℕ) → nat_lt a b ≡ false → b ≤ a
not-below a b h = search (tests, rules)

fewer : (builds : List BuildValue) (texts : List (Vec ℕ)) → length texts < 5 → no-entry ≡ entry_in builds (vectors_of texts)
fewer builds [] less = refl
fewer builds (a ∷ []) less = refl
fewer builds (a ∷ b ∷ []) less = refl
fewer builds (a ∷ b ∷ c ∷ []) less = refl
fewer builds (a ∷ b ∷ c ∷ d ∷ []) less = refl
fewer builds (a ∷ b ∷ c ∷ d ∷ e ∷ texts) less = absurd (omega (arith, less))

more : (builds : List BuildValue) (texts : List (Vec ℕ)) → 6 ≤ length texts → no-entry ≡ entry_in builds (vectors_of texts)
more builds [] many = absurd (omega (arith, many))
more builds (a ∷ []) many = absurd (omega (arith, many))
more builds (a ∷ b ∷ []) many = absurd (omega (arith, many))
more builds (a ∷ b ∷ c ∷ []) many = absurd (omega (arith, many))
more builds (a ∷ b ∷ c ∷ d ∷ []) many = absurd (omega (arith, many))
more builds (a ∷ b ∷ c ∷ d ∷ e ∷ []) many = absurd (omega (arith, many))
more builds (a ∷ b ∷ c ∷ d ∷ e ∷ f ∷ texts) many = refl

pub fewer-fields : (builds : List BuildValue) (texts : List (Vec ℕ)) → nat_lt (length texts) 5 ≡ true → no-entry ≡ entry_in builds (vectors_of texts)
fewer-fields builds texts h = fewer builds texts (below (length texts) 5 h)

pub more-fields : (builds : List BuildValue) (texts : List (Vec ℕ)) → nat_lt (length texts) 6 ≡ false → no-entry ≡ entry_in builds (vectors_of texts)
more-fields builds texts h = more builds texts (not-below (length texts) 6 h)

pub line-more : (f : List ℕ → Option EntryValue) (lines : List (List ℕ)) (i : ℕ) (d : List ℕ) → i < length lines
    → filter_map f (take (i + 1) lines) ≡ filter_map f (take i lines) ++ cons_option (f (get_or lines i d)) []
line-more f lines i d within = ap (filter_map f) (take_more lines i d within) ∙ filter_map-append f (take i lines) (get_or lines i d ∷ [])
