-- The text that is written says the observation: its lines are those that say it.
use Rattle.std.proofs.Common.{◌≡◌, ◌≢◌, ℕ, zero, suc, ◌+◌, ◌<◌, ◌==◌, ◌^◌, true, false, not, ◌||◌, cond, List, [], ◌∷◌, ◌++◌, length, get_or, map, take, Option, Some, None, inl, inr, refl, sym, ap, subst, ◌∙◌, arith, append_assoc, append-nil, length-append, bytes_eq, ◌≤◌, if◌then◌else◌}
use Rattle.std.specs.Prelude.{All, codes}
use Rattle.std.specs.List.{AllByRecursion, IsDistinct, flat_map, list_all}
use Rattle.std.specs.Char.{is_ascii_digit}
use Rattle.std.specs.Fmt.{decimal}
use Rattle.std.specs.Str.{all_ascii_digits}
use Rattle.std.specs.Str.Parse.{digits_value}
use Rattle.std.proofs.lemmas.Bool.{and_parts, cases_Bool, cases_eq, eq-eqb, eqb-true, false≢true, ne_eqb}
use Rattle.std.proofs.lemmas.Fmt.{decimal_nonempty, digits_decimal}
use Rattle.std.proofs.lemmas.Str.Parse.{IsNumeralModel, numerals_by_value, tells_all_ascii_digits}
use Rattle.std.proofs.lemmas.List.{map-append, take_all, take_more}
use Rattle.std.proofs.lemmas.List.Concat.{flat_map-append}
use Rattle.std.proofs.lemmas.List.Elements.{All-append}
use Rattle.std.proofs.lemmas.List.Splits.{slice_split_none, slice_split_at}
use Rattle.std.proofs.lemmas.Map.Keys.{IsDistinct-head, IsDistinct-tail}
use Rattle.std.proofs.lemmas.Slice.Eq.{bytes_eq-Decides}
use Rattle.rev_fields.specs.Fields.{field_text, letter_of, line_of, spaced, written_as, written_byte}
use Rattle.rev_fields.specs.Lines.{lines_of}
use Rattle.rev_fields.proofs.NumberLemmas.{list_all-digits}
use Rattle.rev_paths.specs.Canonical.{IsCanonical}
use Rattle.rev_observed.specs.declared.command.Uses.{Uses}
use Rattle.rev_observed.specs.declared.path_set.PathRange.{PathRange}
use Rattle.rev_observed.specs.declared.kind.Kind.{Kind}
use Rattle.rev_observed.specs.declared.kind.Kind.TheVariants.{Reads, Stats, Misses, Lists, Writes, Edits, Deletes, Temps, Folders}
use Rattle.rev_observed.specs.CommandValues.{CommandValue}
use Rattle.rev_observed.specs.Observations.{ObservationValue, has_name, outputs_of}
use Rattle.rev_observed.specs.PathSets.{AreRising}
use Rattle.rev_observed.specs.Says.{LinesSay, first_line, statements_of, without_end}
use Rattle.rev_observed.specs.Texts.{AreFresh, IsCommand, IsObservation, IsRange, IsUses, all_texts, command_texts, ended, line_text, observed_text, path_texts, range_text}
use Rattle.rev_observed.specs.Within.{AreWithin, UsesAreWithin}
use Rattle.rev_observed.specs.Words.{kind_text}
use Rattle.rev_observed.proofs.SaysLemmas.{without_end-last}
use Rattle.rev_observed.proofs.TextLemmas.{said-lines-are-read}
use Rattle.rev_observed_text.specs.Writable.{IsWritable, IsWritableUses}

-- LINES HAVE NO LINE FEED
-- a byte that does not end a line
abbrev IsInside : ℕ → Type 0
IsInside b = (b == 10) ≡ false

All-nil : {X : Type 0} (P : X → Type 0) → All P []
All-nil P k d lt = absurd (omega arith)

All-one : {X : Type 0} (P : X → Type 0) (x : X) → P x → All P (x ∷ [])
All-one P x h zero d lt = h
All-one P x h (suc k) d lt = absurd (omega arith)

All-cons : {X : Type 0} (P : X → Type 0) (x : X) (xs : List X) → P x → All P xs → All P (x ∷ xs)
All-cons P x xs h rest zero d lt = h
All-cons P x xs h rest (suc k) d lt = rest k d (omega arith)

-- the letters after backslashes are no line feeds
letter-inside : (b l : ℕ) → letter_of b ≡ Some l → IsInside l
letter-inside b l h =
    elim (cases_Bool (b == 32)) [
      | inl y1 ↦ let e : Some 115 ≡ Some l = sym (ap (λ t. cond t (Some 115) (cond (b == 9) (Some 116) (cond (b == 10) (Some 110) (cond (b == 13) (Some 114) (cond (b == 92) (Some 92) None))))) y1) ∙ h in let f : 115 ≡ l = cc in ap (λ x. x == 10) (sym f)
      | inr n1 ↦
          let h1 : cond (b == 9) (Some 116) (cond (b == 10) (Some 110) (cond (b == 13) (Some 114) (cond (b == 92) (Some 92) None))) ≡ Some l = sym (ap (λ t. cond t (Some 115) (cond (b == 9) (Some 116) (cond (b == 10) (Some 110) (cond (b == 13) (Some 114) (cond (b == 92) (Some 92) None))))) n1) ∙ h in
          elim (cases_Bool (b == 9)) [
            | inl y2 ↦ let e : Some 116 ≡ Some l = sym (ap (λ t. cond t (Some 116) (cond (b == 10) (Some 110) (cond (b == 13) (Some 114) (cond (b == 92) (Some 92) None)))) y2) ∙ h1 in let f : 116 ≡ l = cc in ap (λ x. x == 10) (sym f)
            | inr n2 ↦
                let h2 : cond (b == 10) (Some 110) (cond (b == 13) (Some 114) (cond (b == 92) (Some 92) None)) ≡ Some l = sym (ap (λ t. cond t (Some 116) (cond (b == 10) (Some 110) (cond (b == 13) (Some 114) (cond (b == 92) (Some 92) None)))) n2) ∙ h1 in
                elim (cases_Bool (b == 10)) [
                  | inl y3 ↦ let e : Some 110 ≡ Some l = sym (ap (λ t. cond t (Some 110) (cond (b == 13) (Some 114) (cond (b == 92) (Some 92) None))) y3) ∙ h2 in let f : 110 ≡ l = cc in ap (λ x. x == 10) (sym f)
                  | inr n3 ↦
                      let h3 : cond (b == 13) (Some 114) (cond (b == 92) (Some 92) None) ≡ Some l = sym (ap (λ t. cond t (Some 110) (cond (b == 13) (Some 114) (cond (b == 92) (Some 92) None))) n3) ∙ h2 in
                      elim (cases_Bool (b == 13)) [
                        | inl y4 ↦ let e : Some 114 ≡ Some l = sym (ap (λ t. cond t (Some 114) (cond (b == 92) (Some 92) None)) y4) ∙ h3 in let f : 114 ≡ l = cc in ap (λ x. x == 10) (sym f)
                        | inr n4 ↦
                            let h4 : cond (b == 92) (Some 92) None ≡ Some l = sym (ap (λ t. cond t (Some 114) (cond (b == 92) (Some 92) None)) n4) ∙ h3 in
                            elim (cases_Bool (b == 92)) [
                              | inl y5 ↦ let e : Some 92 ≡ Some l = sym (ap (λ t. cond t (Some 92) None) y5) ∙ h4 in let f : 92 ≡ l = cc in ap (λ x. x == 10) (sym f)
                              | inr n5 ↦ let never : None ≡ Some l = sym (ap (λ t. cond t (Some 92) None) n5) ∙ h4 in absurd (cc)
                            ]
                      ]
                ]
          ]
    ]

plain-inside : (b : ℕ) → letter_of b ≡ None → IsInside b
plain-inside b h =
    elim (cases_Bool (b == 10)) [
      | inl y ↦ let same : b ≡ 10 = eqb-true b 10 y in let never : Some 110 ≡ None = ap letter_of (sym same) ∙ h in absurd (cc)
      | inr n ↦ n
    ]

written-inside : (b : ℕ) (o : Option ℕ) → letter_of b ≡ o → All IsInside (written_as b o)
written-inside b None h = All-one IsInside b (plain-inside b h)
written-inside b (Some l) h = All-cons IsInside 92 (l ∷ []) refl (All-one IsInside l (letter-inside b l h))

bytes-inside : (bs : List ℕ) → All IsInside (flat_map written_byte bs)
bytes-inside [] = All-nil IsInside
bytes-inside (b ∷ bs) = All-append IsInside (written_byte b) (flat_map written_byte bs) (written-inside b (letter_of b) refl) (bytes-inside bs)

field-inside : (text : List ℕ) → All IsInside (field_text text)
field-inside [] = All-cons IsInside 92 (48 ∷ []) refl (All-one IsInside 48 refl)
field-inside (b ∷ bs) = bytes-inside (b ∷ bs)

spaced-inside : (fields : List (List ℕ)) → AllByRecursion (λ f. All IsInside f) fields → All IsInside (flat_map spaced fields)
spaced-inside [] h = All-nil IsInside
spaced-inside (f ∷ fs) h = All-append IsInside (spaced f) (flat_map spaced fs) (All-cons IsInside 32 f refl h.0) (spaced-inside fs h.1)

fields-inside : (texts : List (List ℕ)) → AllByRecursion (λ f. All IsInside f) (map field_text texts)
fields-inside [] = tt
fields-inside (t ∷ ts) = (field-inside t, fields-inside ts)

line-inside : (texts : List (List ℕ)) → All IsInside (line_text texts)
line-inside [] = All-nil IsInside
line-inside (t ∷ ts) = All-append IsInside (field_text t) (flat_map spaced (map field_text ts)) (field-inside t) (spaced-inside (map field_text ts) (fields-inside ts))

lines-inside : (ts : List (List (List ℕ))) → AllByRecursion (λ l. All IsInside l) (map line_text ts)
lines-inside [] = tt
lines-inside (t ∷ ts) = (line-inside t, lines-inside ts)

clear-inside : (bs : List ℕ) → list_all (λ b. not (b == 10)) bs ≡ true → All IsInside bs
clear-inside [] h = All-nil IsInside
clear-inside (b ∷ bs) h =
    let parts = and_parts (not (b == 10)) (list_all (λ b. not (b == 10)) bs) h in
    All-cons IsInside b bs (elim (cases_Bool (b == 10)) [
      | inl y ↦ let never : false ≡ true = sym (ap not y) ∙ parts.0 in absurd (cc)
      | inr n ↦ n
    ]) (clear-inside bs parts.1)

-- THE LINES OF THE TEXT
-- lines with LF between each two
abbrev between : List (List ℕ) → List ℕ
between [] = []
between (l ∷ []) = l
between (l ∷ m ∷ ms) = l ++ 10 ∷ between (m ∷ ms)

ends : (l : List ℕ) (ls : List (List ℕ)) → flat_map ended (l ∷ ls) ≡ between (l ∷ ls) ++ 10 ∷ []
ends l [] = append-nil (l ++ 10 ∷ [])
ends l (m ∷ ms) =
    append_assoc l (10 ∷ []) (flat_map ended (m ∷ ms)) ∙ ap (λ t. l ++ 10 ∷ t) (ends m ms) ∙ sym (append_assoc l (10 ∷ between (m ∷ ms)) (10 ∷ []))

splits : (l : List ℕ) (ls : List (List ℕ)) → AllByRecursion (λ l. All IsInside l) (l ∷ ls) → lines_of (between (l ∷ ls)) ≡ l ∷ ls
splits l [] h = slice_split_none (λ b. b == 10) l h.0
splits l (m ∷ ms) h = slice_split_at (λ b. b == 10) l 10 (between (m ∷ ms)) h.0 refl ∙ ap (λ ls. l ∷ ls) (splits m ms h.1)

lines-again : (l : List ℕ) (ls : List (List ℕ)) → AllByRecursion (λ l. All IsInside l) (l ∷ ls) → statements_of (flat_map ended (l ∷ ls)) ≡ l ∷ ls
lines-again l ls h = ap (λ t. lines_of (without_end t)) (ends l ls) ∙ ap lines_of (without_end-last (between (l ∷ ls)) 10) ∙ splits l ls h

pub text-read : (o : ObservationValue) → IsObservation o → LinesSay (statements_of (observed_text o)) o
text-read o h =
    let P : List (List ℕ) → Type 0 = λ ls. LinesSay ls o in
    subst P (sym (lines-again first_line (map line_text (all_texts o)) (clear-inside first_line refl, lines-inside (all_texts o)))) (said-lines-are-read o h)

-- WHAT IS WRITTEN
pub line-put : (old word : List ℕ) (fields : List (List ℕ)) → ((old ++ word) ++ flat_map spaced fields) ++ 10 ∷ [] ≡ old ++ ended (line_of (word ∷ fields))
line-put old word fields = ap (λ l. l ++ 10 ∷ []) (append_assoc old word (flat_map spaced fields)) ∙ append_assoc old (word ++ flat_map spaced fields) (10 ∷ [])

-- a line of a word and one field
pub line-one : (old word field : List ℕ) → ((old ++ word) ++ spaced field) ++ 10 ∷ [] ≡ old ++ ended (line_of (word ∷ field ∷ []))
line-one old word field = ap (λ f. ((old ++ word) ++ f) ++ 10 ∷ []) (sym (append-nil (spaced field))) ∙ line-put old word (field ∷ [])

-- a line of a word, one field, and further ones
pub line-more : (old word field : List ℕ) (fields : List (List ℕ)) → (((old ++ word) ++ spaced field) ++ flat_map spaced fields) ++ 10 ∷ [] ≡ old ++ ended (line_of (word ∷ field ∷ fields))
line-more old word field fields = ap (λ l. l ++ 10 ∷ []) (append_assoc (old ++ word) (spaced field) (flat_map spaced fields)) ∙ line-put old word (field ∷ fields)

pub head-put : (by more last : List ℕ) → ((((first_line ++ 10 ∷ codes "by") ++ spaced (field_text by)) ++ 10 ∷ []) ++ more) ++ last ≡ ended first_line ++ (ended (line_text (codes "by" ∷ by ∷ [])) ++ (more ++ last))
head-put by more last =
    ap (λ l. (l ++ more) ++ last) (line-one (ended first_line) (codes "by") (field_text by))
    ∙ append_assoc (ended first_line ++ ended (line_text (codes "by" ∷ by ∷ []))) more last ∙ append_assoc (ended first_line) (ended (line_text (codes "by" ∷ by ∷ []))) (more ++ last)

pub text-put : (o : ObservationValue) → ended first_line ++ (ended (line_text (codes "by" ∷ o.by ∷ [])) ++ (flat_map ended (map line_text (map path_texts o.paths)) ++ flat_map ended (map line_text (flat_map command_texts o.commands)))) ≡ observed_text o
text-put o =
    ap (λ l. ended first_line ++ (ended (line_text (codes "by" ∷ o.by ∷ [])) ++ l))
    (sym (flat_map-append ended (map line_text (map path_texts o.paths)) (map line_text (flat_map command_texts o.commands)))
    ∙ ap (flat_map ended) (sym (map-append line_text (map path_texts o.paths) (flat_map command_texts o.commands))))

-- WHAT HAS A TEXT
-- one more name among others
has_name-push : (done : List (List ℕ)) (p q : List ℕ) → has_name done q ≡ false → bytes_eq q p ≡ false → has_name (done ++ p ∷ []) q ≡ false
has_name-push [] p q h e = ap (λ b. b || false) e
has_name-push (d ∷ ds) p q h e =
    elim (cases_Bool (bytes_eq q d)) [
      | inl y ↦ let never : true ≡ false = sym (ap (λ b. b || has_name ds q) y) ∙ h in absurd (cc)
      | inr n ↦ ap (λ b. b || has_name (ds ++ p ∷ []) q) n ∙ has_name-push ds p q (sym (ap (λ b. b || has_name ds q) n) ∙ h) e
    ]

-- two texts differ in either order
bytes_eq-other : (p q : List ℕ) → bytes_eq p q ≡ false → bytes_eq q p ≡ false
bytes_eq-other p q apart =
    elim (cases_Bool (bytes_eq q p)) [
      | inl y ↦
          let same : q ≡ p = (bytes_eq-Decides q p).0 y in
          let never : true ≡ false = sym ((bytes_eq-Decides p q).1 (sym same)) ∙ apart in
          absurd (false≢true (sym never))
      | inr n ↦ n
    ]

others-fresh : (done : List (List ℕ)) (p : List ℕ) (ps : List (List ℕ)) → AllByRecursion (λ q. has_name done q ≡ false) ps → AllByRecursion (λ q. bytes_eq p q ≡ false) ps → AllByRecursion (λ q. has_name (done ++ p ∷ []) q ≡ false) ps
others-fresh done p [] a b = tt
others-fresh done p (q ∷ qs) a b = (has_name-push done p q a.0 (bytes_eq-other p q b.0), others-fresh done p qs a.1 b.1)

pub fresh : (done ps : List (List ℕ)) → AllByRecursion (λ q. has_name done q ≡ false) ps → IsDistinct bytes_eq ps → AreFresh done ps
fresh done [] a d = tt
fresh done (p ∷ ps) a d = (a.0, fresh (done ++ p ∷ []) ps (others-fresh done p ps a.1 (IsDistinct-head bytes_eq p ps d)) (IsDistinct-tail bytes_eq p ps d))

pub none-done : (ps : List (List ℕ)) → AllByRecursion (λ q. has_name [] q ≡ false) ps
none-done [] = tt
none-done (p ∷ ps) = (refl, none-done ps)

uses-are : (count : ℕ) (us : List Uses) → AllByRecursion IsWritableUses us → UsesAreWithin count us → AllByRecursion (IsUses count) us
uses-are count [] a w = tt
uses-are count (u ∷ us) a w = let one = a.0 in (record { rising = one.rising; ranges = one.ranges; inside = w.0 }, uses-are count us a.1 w.1)

commands-are : (count : ℕ) (cs : List CommandValue) → AllByRecursion IsWritable cs → AreWithin count cs → AllByRecursion (IsCommand count) cs
commands-are count [] a w = tt
commands-are count (c ∷ cs) a w =
    let one = a.0 in
    (record { canonical = one.canonical; uses = one.uses; inside = uses-are count c.uses one.each w.0; outside = one.outside }, commands-are count cs a.1 w.1)

pub is-observation : (o : ObservationValue) → AllByRecursion IsCanonical o.paths → IsDistinct bytes_eq o.paths → AllByRecursion IsWritable o.commands → AreWithin (length o.paths) o.commands → IsDistinct bytes_eq (outputs_of o.commands)
    → IsObservation o
is-observation o canonical distinct writable within outputs = record {
  canonical = canonical;
  fresh_paths = fresh [] o.paths (none-done o.paths) distinct;
  commands = commands-are (length o.paths) o.commands writable within;
  fresh_outputs = fresh [] (outputs_of o.commands) (none-done (outputs_of o.commands)) outputs;
}

-- STEP BY STEP
-- one more of the things that are written
pub each-more : {X : Type 0} (f : X → List ℕ) (old now new : List ℕ) (xs : List X) (i : ℕ) (d x : X) → i < length xs → get_or xs i d ≡ x → now ≡ old ++ flat_map f (take i xs) → new ≡ now ++ f x → new ≡ old ++ flat_map f (take (i + 1) xs)
each-more f old now new xs i d x within at before more =
    more ∙ ap (λ l. l ++ f x) before ∙ append_assoc old (flat_map f (take i xs)) (f x)
    ∙ ap (λ l. old ++ l) (ap (λ y. flat_map f (take i xs) ++ f y) (sym at) ∙ ap (λ l. flat_map f (take i xs) ++ l) (sym (append-nil (f (get_or xs i d))))
    ∙ sym (flat_map-append f (take i xs) (get_or xs i d ∷ [])) ∙ ap (flat_map f) (sym (take_more xs i d within)))

pub each-known : {X : Type 0} (P : X → Type 0) (xs : List X) (i : ℕ) (x : X) → ((d : X) → get_or xs i d ≡ x) → P x → ((k : ℕ) (d : X) → k < i → P (get_or xs k d)) → (k : ℕ) (d : X) → k < i + 1 → P (get_or xs k d)
each-known P xs i x at here before k d lt = elim (cases_eq k i) [
  | inl same ↦ subst P (sym (ap (λ j. get_or xs j d) same ∙ at d)) here
  | inr other ↦ before k d (omega (arith, lt, other))
]

all-each : {X : Type 0} (P : X → Type 0) (xs : List X) → ((k : ℕ) (d : X) → k < length xs → P (get_or xs k d)) → AllByRecursion P xs
all-each P [] h = tt
all-each P (x ∷ xs) h = (h 0 x (omega arith), all-each P xs (λ k d lt. h (suc k) d (omega (arith, lt))))

pub all-known : {X : Type 0} (P : X → Type 0) (xs : List X) (n : ℕ) → length xs ≤ n → ((k : ℕ) (d : X) → k < n → P (get_or xs k d)) → AllByRecursion P xs
all-known P xs n past h = all-each P xs (λ k d lt. h k d (omega (arith, past, lt)))

pub lines-each : {X : Type 0} (f : X → List (List ℕ)) (xs : List X) → flat_map (λ x. ended (line_text (f x))) xs ≡ flat_map ended (map line_text (map f xs))
lines-each f [] = refl
lines-each f (x ∷ xs) = ap (λ l. ended (line_text (f x)) ++ l) (lines-each f xs)

pub commands-each : (cs : List CommandValue) → flat_map (λ (c : CommandValue). flat_map ended (map line_text (command_texts c))) cs ≡ flat_map ended (map line_text (flat_map command_texts cs))
commands-each [] = refl
commands-each (c ∷ cs) =
    ap (λ l. flat_map ended (map line_text (command_texts c)) ++ l) (commands-each cs)
    ∙ sym (flat_map-append ended (map line_text (command_texts c)) (map line_text (flat_map command_texts cs))) ∙ ap (flat_map ended) (sym (map-append line_text (command_texts c) (flat_map command_texts cs)))

pub fields-each : {X : Type 0} (f : X → List ℕ) (xs : List X) → flat_map (λ x. spaced (field_text (f x))) xs ≡ flat_map spaced (map field_text (map f xs))
fields-each f [] = refl
fields-each f (x ∷ xs) = ap (λ l. spaced (field_text (f x)) ++ l) (fields-each f xs)

-- all of them
pub all-put : {X : Type 0} (f : X → List ℕ) (old now whole : List ℕ) (xs : List X) (n : ℕ) → length xs ≤ n → flat_map f xs ≡ whole → now ≡ old ++ flat_map f (take n xs) → now ≡ old ++ whole
all-put f old now whole xs n past is before = before ∙ ap (λ l. old ++ flat_map f l) (take_all n xs past) ∙ ap (λ l. old ++ l) is

-- further fields
pub fields-more : (old now new : List ℕ) (xs ys : List (List ℕ)) → now ≡ old ++ flat_map spaced (map field_text xs) → new ≡ now ++ flat_map spaced (map field_text ys) → new ≡ old ++ flat_map spaced (map field_text (xs ++ ys))
fields-more old now new xs ys before more =
    more ∙ ap (λ l. l ++ flat_map spaced (map field_text ys)) before ∙ append_assoc old (flat_map spaced (map field_text xs)) (flat_map spaced (map field_text ys))
    ∙ ap (λ l. old ++ l) (sym (flat_map-append spaced (map field_text xs) (map field_text ys)) ∙ ap (flat_map spaced) (sym (map-append field_text xs ys)))

-- RANGES
abbrev own : IsNumeralModel (λ ds. all_ascii_digits ds ≡ true) (digits_value 10)
own = numerals_by_value (λ ds. all_ascii_digits ds ≡ true) tells_all_ascii_digits

digits-of : (n : ℕ) → n < 2 ^ 64 → list_all is_ascii_digit (decimal n) ≡ true
digits-of n h = sym (list_all-digits (decimal n)) ∙ digits_decimal own n h

-- a text of bytes that stand for themselves is its own field
abbrev IsPlain : ℕ → Type 0
IsPlain b = letter_of b ≡ None

plain-bytes : (bs : List ℕ) → All IsPlain bs → flat_map written_byte bs ≡ bs
plain-bytes [] all = refl
plain-bytes (b ∷ bs) all =
    ap (λ o. written_as b o ++ flat_map written_byte bs) (all 0 0 (omega arith)) ∙ ap (λ l. b ∷ l) (plain-bytes bs (λ k d lt. all (suc k) d (omega arith)))

plain-field : (bs : List ℕ) → 0 < length bs → All IsPlain bs → field_text bs ≡ bs
plain-field [] some all = absurd (omega arith)
plain-field (b ∷ bs) some all = plain-bytes (b ∷ bs) all

digit-other : (b x : ℕ) → is_ascii_digit x ≡ false → is_ascii_digit b ≡ true → (b == x) ≡ false
digit-other b x none h =
    elim (cases_Bool (b == x)) [
      | inl same ↦ let e : b ≡ x = eqb-true b x same in let never : false ≡ true = sym none ∙ sym (ap is_ascii_digit e) ∙ h in absurd (false≢true never)
      | inr other ↦ other
    ]

digit-plain : (b : ℕ) → is_ascii_digit b ≡ true → IsPlain b
digit-plain b h =
    ap (λ t. cond t (Some 115) (cond (b == 9) (Some 116) (cond (b == 10) (Some 110) (cond (b == 13) (Some 114) (cond (b == 92) (Some 92) None))))) (digit-other b 32 refl h)
    ∙ ap (λ t. cond t (Some 116) (cond (b == 10) (Some 110) (cond (b == 13) (Some 114) (cond (b == 92) (Some 92) None)))) (digit-other b 9 refl h)
    ∙ ap (λ t. cond t (Some 110) (cond (b == 13) (Some 114) (cond (b == 92) (Some 92) None))) (digit-other b 10 refl h)
    ∙ ap (λ t. cond t (Some 114) (cond (b == 92) (Some 92) None)) (digit-other b 13 refl h) ∙ ap (λ t. cond t (Some 92) None) (digit-other b 92 refl h)

digits-plain : (ds : List ℕ) → list_all is_ascii_digit ds ≡ true → All IsPlain ds
digits-plain [] h = All-nil IsPlain
digits-plain (d ∷ ds) h =
    let parts = and_parts (is_ascii_digit d) (list_all is_ascii_digit ds) h in
    All-cons IsPlain d ds (digit-plain d parts.0) (digits-plain ds parts.1)

pub number-field : (n : ℕ) → n < 2 ^ 64 → field_text (decimal n) ≡ decimal n
number-field n h = plain-field (decimal n) (decimal_nonempty n h) (digits-plain (decimal n) (digits-of n h))

pub two-field : (m n : ℕ) → m < 2 ^ 64 → n < 2 ^ 64 → field_text (decimal m ++ 45 ∷ decimal n) ≡ decimal m ++ 45 ∷ decimal n
two-field m n hm hn =
    plain-field (decimal m ++ 45 ∷ decimal n) (omega (arith, length-append (decimal m) (45 ∷ decimal n), decimal_nonempty m hm))
    (All-append IsPlain (decimal m) (45 ∷ decimal n) (digits-plain (decimal m) (digits-of m hm)) (All-cons IsPlain 45 (decimal n) refl (digits-plain (decimal n) (digits-of n hn))))

-- a range of one number, and one of two
pub range-one : (r : PathRange) → r.first ≡ r.last → r.first < 2 ^ 32 → decimal r.first ≡ field_text (range_text r)
range-one r same short =
    sym (ap (λ b. field_text (if b then decimal r.first else decimal r.first ++ 45 ∷ decimal r.last)) (eq-eqb r.first r.last same) ∙ number-field r.first (omega (arith, short)))

pub range-two : (r : PathRange) → r.first ≢ r.last → r.first < 2 ^ 32 → r.last < 2 ^ 32 → decimal r.first ++ 45 ∷ decimal r.last ≡ field_text (range_text r)
range-two r apart first last =
    sym (ap (λ b. field_text (if b then decimal r.first else decimal r.first ++ 45 ∷ decimal r.last)) (ne_eqb r.first r.last apart) ∙ two-field r.first r.last (omega (arith, first)) (omega (arith, last)))

-- a range as it is written: its numbers, as they are held in 64 bits, with `-` between them where they differ
pub one-put : (old new : List ℕ) (r : PathRange) (first last : ℕ) → first ≡ r.first → last ≡ r.last → r.first < 2 ^ 32 → first ≡ last → new ≡ old ++ spaced (decimal first) → new ≡ old ++ spaced (field_text (range_text r))
one-put old new r first last is_first is_last short same put =
    put ∙ ap (λ n. old ++ spaced (decimal n)) is_first ∙ ap (λ f. old ++ spaced f) (range-one r (sym is_first ∙ same ∙ is_last) short)

pub two-put : (old new : List ℕ) (r : PathRange) (first last : ℕ) → first ≡ r.first → last ≡ r.last → r.first < 2 ^ 32 → r.last < 2 ^ 32 → first ≢ last → new ≡ ((old ++ spaced (decimal first)) ++ 45 ∷ []) ++ decimal last
    → new ≡ old ++ spaced (field_text (range_text r))
two-put old new r first last is_first is_last short_first short_last apart put =
    let differ : r.first ≢ r.last = λ e. apart (is_first ∙ e ∙ sym is_last) in
    put ∙ ap (λ n. ((old ++ spaced (decimal n)) ++ 45 ∷ []) ++ decimal last) is_first ∙ ap (λ n. ((old ++ spaced (decimal r.first)) ++ 45 ∷ []) ++ decimal n) is_last
    ∙ append_assoc (old ++ spaced (decimal r.first)) (45 ∷ []) (decimal r.last) ∙ append_assoc old (spaced (decimal r.first)) (45 ∷ decimal r.last)
    ∙ ap (λ f. old ++ spaced f) (range-two r differ short_first short_last)

ranges-are : (rs : List PathRange) → AreRising rs → AllByRecursion (λ (r : PathRange). r.last < 2 ^ 32) rs → AllByRecursion IsRange rs
ranges-are [] a b = tt
ranges-are (r ∷ rs) a b = (record { order = a.0; short = b.0 }, ranges-are rs a.2 b.1)

pub uses-writable : (u : Uses) → AreRising u.paths → AllByRecursion (λ (r : PathRange). r.last < 2 ^ 32) u.paths → IsWritableUses u
uses-writable u rising short = record { rising = rising; ranges = ranges-are u.paths rising short }

pub kind-field : (kind : Kind) → kind_text kind ≡ field_text (kind_text kind)
kind-field Reads = refl
kind-field Stats = refl
kind-field Misses = refl
kind-field Lists = refl
kind-field Writes = refl
kind-field Edits = refl
kind-field Deletes = refl
kind-field Temps = refl
kind-field Folders = refl
