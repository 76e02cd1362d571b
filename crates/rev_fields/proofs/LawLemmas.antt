-- Written lines and numbers, read again.
use Rattle.std.proofs.Common.{◌≡◌, ℕ, zero, suc, ◌<◌, ◌≤◌, ◌^◌, ◌==◌, true, false, not, ◌&&◌, cond, nat_lt, List, [], ◌∷◌, ◌++◌, length, get_or, map, refl, sym, ap, ◌∙◌, arith, inl, inr, ◌⊎◌, Option, Some, None, Ok, Err, append-nil, length-append}
use Rattle.std.proofs.lemmas.Bool.{cases_Bool, false≢true, lt-ltb, ne_eqb, eqb-true, and_parts, and_from, cases_lt, cases_eq}
use Rattle.std.proofs.lemmas.List.Splits.{slice_split_none, slice_split_at}
use Rattle.std.proofs.lemmas.List.Elements.{All-append}
use Rattle.std.proofs.lemmas.Fmt.{decimal_is_IsNumeral, digits_decimal, decimal_nonempty, first_decimal, decimal_digit}
use Rattle.std.proofs.lemmas.Str.Parse.{IsNumeralModel, numerals_by_value, tells_all_ascii_digits}
use Rattle.std.specs.Char.{is_ascii_digit}
use Rattle.std.specs.Fmt.{decimal}
use Rattle.std.specs.Str.{all_ascii_digits}
use Rattle.std.specs.Str.Parse.{digits_value}
use Rattle.std.specs.List.{All, slice_split, flat_map, list_all}
use Rattle.rev_fields.specs.declared.faults.FaultKind.{FaultKind}
use Rattle.rev_fields.specs.declared.faults.FaultKind.TheVariants.{Number}
use Rattle.rev_fields.specs.Faults.{◌>>=◌, each_of}
use Rattle.rev_fields.specs.Fields.{letter_of, written_as, written_byte, field_text, all_texts, before_texts, line_of}
use Rattle.rev_fields.specs.Numbers.{is_decimal, number_below, numbers_text}
use Rattle.rev_fields.specs.Laws.{LinesAreRead, OneField, NumbersAreRead, NumberListsAreRead}
use Rattle.rev_fields.proofs.InverseLemmas.{text_of-field_text, field_text-text_of}
use Rattle.rev_fields.proofs.NumberLemmas.{number_below-above, list_all-digits}

pub one-field : OneField
one-field = field_text-text_of

-- a byte that does not part fields
abbrev IsInside : ℕ → Type 0
IsInside b = (b == 32) ≡ false

All-nil : {X : Type 0} (P : X → Type 0) → All P []
All-nil P k d lt = absurd (omega arith)

All-one : {X : Type 0} (P : X → Type 0) (x : X) → P x → All P (x ∷ [])
All-one P x h zero d lt = h
All-one P x h (suc k) d lt = absurd (omega arith)

All-cons : {X : Type 0} (P : X → Type 0) (x : X) (xs : List X) → P x → All P xs → All P (x ∷ xs)
All-cons P x xs h rest zero d lt = h
All-cons P x xs h rest (suc k) d lt = rest k d (omega arith)

-- the letters after backslashes are no spaces
letter-inside : (b l : ℕ) → letter_of b ≡ Some l → IsInside l
letter-inside b l h =
    elim (cases_Bool (b == 32)) [
      | inl y1 ↦ let e : Some 115 ≡ Some l = sym (ap (λ t. cond t (Some 115) (cond (b == 9) (Some 116) (cond (b == 10) (Some 110) (cond (b == 13) (Some 114) (cond (b == 92) (Some 92) None))))) y1) ∙ h in let f : 115 ≡ l = cc in ap (λ x. x == 32) (sym f)
      | inr n1 ↦
          let h1 : cond (b == 9) (Some 116) (cond (b == 10) (Some 110) (cond (b == 13) (Some 114) (cond (b == 92) (Some 92) None))) ≡ Some l = sym (ap (λ t. cond t (Some 115) (cond (b == 9) (Some 116) (cond (b == 10) (Some 110) (cond (b == 13) (Some 114) (cond (b == 92) (Some 92) None))))) n1) ∙ h in
          elim (cases_Bool (b == 9)) [
            | inl y2 ↦ let e : Some 116 ≡ Some l = sym (ap (λ t. cond t (Some 116) (cond (b == 10) (Some 110) (cond (b == 13) (Some 114) (cond (b == 92) (Some 92) None)))) y2) ∙ h1 in let f : 116 ≡ l = cc in ap (λ x. x == 32) (sym f)
            | inr n2 ↦
                let h2 : cond (b == 10) (Some 110) (cond (b == 13) (Some 114) (cond (b == 92) (Some 92) None)) ≡ Some l = sym (ap (λ t. cond t (Some 116) (cond (b == 10) (Some 110) (cond (b == 13) (Some 114) (cond (b == 92) (Some 92) None)))) n2) ∙ h1 in
                elim (cases_Bool (b == 10)) [
                  | inl y3 ↦ let e : Some 110 ≡ Some l = sym (ap (λ t. cond t (Some 110) (cond (b == 13) (Some 114) (cond (b == 92) (Some 92) None))) y3) ∙ h2 in let f : 110 ≡ l = cc in ap (λ x. x == 32) (sym f)
                  | inr n3 ↦
                      let h3 : cond (b == 13) (Some 114) (cond (b == 92) (Some 92) None) ≡ Some l = sym (ap (λ t. cond t (Some 110) (cond (b == 13) (Some 114) (cond (b == 92) (Some 92) None))) n3) ∙ h2 in
                      elim (cases_Bool (b == 13)) [
                        | inl y4 ↦ let e : Some 114 ≡ Some l = sym (ap (λ t. cond t (Some 114) (cond (b == 92) (Some 92) None)) y4) ∙ h3 in let f : 114 ≡ l = cc in ap (λ x. x == 32) (sym f)
                        | inr n4 ↦
                            let h4 : cond (b == 92) (Some 92) None ≡ Some l = sym (ap (λ t. cond t (Some 114) (cond (b == 92) (Some 92) None)) n4) ∙ h3 in
                            elim (cases_Bool (b == 92)) [
                              | inl y5 ↦ let e : Some 92 ≡ Some l = sym (ap (λ t. cond t (Some 92) None) y5) ∙ h4 in let f : 92 ≡ l = cc in ap (λ x. x == 32) (sym f)
                              | inr n5 ↦ let never : None ≡ Some l = sym (ap (λ t. cond t (Some 92) None) n5) ∙ h4 in absurd (cc)
                            ]
                      ]
                ]
          ]
    ]

plain-inside : (b : ℕ) → letter_of b ≡ None → IsInside b
plain-inside b h =
    elim (cases_Bool (b == 32)) [
      | inl y ↦ let never : Some 115 ≡ None = sym (ap (λ t. cond t (Some 115) (cond (b == 9) (Some 116) (cond (b == 10) (Some 110) (cond (b == 13) (Some 114) (cond (b == 92) (Some 92) None))))) y) ∙ h in absurd (cc)
      | inr n ↦ n
    ]

written-inside : (b : ℕ) (o : Option ℕ) → letter_of b ≡ o → All IsInside (written_as b o)
written-inside b None h = All-one IsInside b (plain-inside b h)
written-inside b (Some l) h = All-cons IsInside 92 (l ∷ []) refl (All-one IsInside l (letter-inside b l h))

bytes-inside : (bs : List ℕ) → All IsInside (flat_map written_byte bs)
bytes-inside [] = All-nil IsInside
bytes-inside (b ∷ bs) = All-append IsInside (written_byte b) (flat_map written_byte bs) (written-inside b (letter_of b) refl) (bytes-inside bs)

field-inside : (text : List ℕ) → All IsInside (field_text text)
field-inside [] = All-cons IsInside 92 (48 ∷ []) refl (All-one IsInside 48 refl)
field-inside (b ∷ bs) = bytes-inside (b ∷ bs)

-- a line is parted into the fields that were written
split-line : (text : List ℕ) (texts : List (List ℕ)) → slice_split (λ b. b == 32) (line_of (map field_text (text ∷ texts))) ≡ map field_text (text ∷ texts)
split-line text [] =
    ap (slice_split (λ b. b == 32)) (append-nil (field_text text)) ∙ slice_split_none (λ b. b == 32) (field_text text) (field-inside text)
split-line text (next ∷ texts) =
    slice_split_at (λ b. b == 32) (field_text text) 32 (line_of (map field_text (next ∷ texts))) (field-inside text) refl ∙ ap (λ l. field_text text ∷ l) (split-line next texts)

pub all_texts-written : (texts : List (List ℕ)) → all_texts (map field_text texts) ≡ Some texts
all_texts-written [] = refl
all_texts-written (text ∷ texts) =
    ap (λ o. before_texts o (all_texts (map field_text texts))) (text_of-field_text text) ∙ ap (before_texts (Some text)) (all_texts-written texts)

pub lines-are-read : LinesAreRead
lines-are-read [] some = absurd (omega arith)
lines-are-read (text ∷ texts) some = ap all_texts (split-line text texts) ∙ all_texts-written (text ∷ texts)

-- decimal digits
abbrev own : IsNumeralModel (λ ds. all_ascii_digits ds ≡ true) (digits_value 10)
own = numerals_by_value (λ ds. all_ascii_digits ds ≡ true) tells_all_ascii_digits

digits-of : (n : ℕ) → n < 2 ^ 64 → list_all is_ascii_digit (decimal n) ≡ true
digits-of n h = sym (list_all-digits (decimal n)) ∙ digits_decimal own n h

decimal-from : (ds : List ℕ) → 0 < length ds → list_all is_ascii_digit ds ≡ true → (48 < get_or ds 0 0) ⊎ (length ds ≡ 1) → is_decimal ds ≡ true
decimal-from [] some digits first = absurd (omega arith)
decimal-from (d ∷ []) some digits first = (and_parts (is_ascii_digit d) true digits).0
decimal-from (d ∷ e ∷ ds) some digits (inl above) =
    and_from (not (d == 48)) (list_all is_ascii_digit (d ∷ e ∷ ds)) (ap not (ne_eqb d 48 (λ same. omega arith))) digits
decimal-from (d ∷ e ∷ ds) some digits (inr one) = absurd (omega arith)

is_decimal-decimal : (n : ℕ) → n < 2 ^ 64 → is_decimal (decimal n) ≡ true
is_decimal-decimal n h =
    elim (cases_eq n 0) [
      | inl e ↦ ap is_decimal (ap decimal e ∙ decimal_digit 0 (omega arith))
      | inr ne ↦ decimal-from (decimal n) (decimal_nonempty n h) (digits-of n h) (inl (first_decimal n (omega arith) h))
    ]

number-read : (limit : ℕ) (text : List ℕ) (n : ℕ) → is_decimal text ≡ true → digits_value 10 text ≡ n → n < limit → number_below limit text ≡ Ok n
number-read limit text n decimal value lt =
    let v = digits_value 10 text in
    let within : nat_lt v limit ≡ true = lt-ltb v limit (omega arith) in
    ap (λ b. cond (b && nat_lt v limit) (Ok v) (Err Number)) decimal ∙ ap (λ b. cond b (Ok v) (Err Number)) within ∙ ap Ok value

pub numbers-are-read : NumbersAreRead
numbers-are-read limit n le lt =
    let h : n < 2 ^ 64 = omega arith in
    number-read limit (decimal n) n (is_decimal-decimal n h) ((decimal_is_IsNumeral n h).1) lt

-- digits are no commas
abbrev NoComma : ℕ → Type 0
NoComma b = (b == 44) ≡ false

no-comma : (b : ℕ) → is_ascii_digit b ≡ true → NoComma b
no-comma b h =
    elim (cases_Bool (b == 44)) [
      | inl same ↦ let e : b ≡ 44 = eqb-true b 44 same in let never : false ≡ true = sym (ap is_ascii_digit e) ∙ h in absurd (false≢true never)
      | inr other ↦ other
    ]

digits-no-comma : (ds : List ℕ) → list_all is_ascii_digit ds ≡ true → All NoComma ds
digits-no-comma [] h = All-nil NoComma
digits-no-comma (d ∷ ds) h =
    let parts = and_parts (is_ascii_digit d) (list_all is_ascii_digit ds) h in
    All-cons NoComma d ds (no-comma d parts.0) (digits-no-comma ds parts.1)

split-numbers : (n : ℕ) (ns : List ℕ) → n < 2 ^ 64 → All (λ m. m < 2 ^ 64) ns → slice_split (λ b. b == 44) (numbers_text (n ∷ ns)) ≡ map decimal (n ∷ ns)
split-numbers n [] h all =
    ap (slice_split (λ b. b == 44)) (append-nil (decimal n)) ∙ slice_split_none (λ b. b == 44) (decimal n) (digits-no-comma (decimal n) (digits-of n h))
split-numbers n (m ∷ ns) h all =
    slice_split_at (λ b. b == 44) (decimal n) 44 (numbers_text (m ∷ ns)) (digits-no-comma (decimal n) (digits-of n h)) refl
    ∙ ap (λ l. decimal n ∷ l) (split-numbers m ns (all 0 0 (omega arith)) (λ k d lt. all (suc k) d (omega arith)))

each-read : (limit : ℕ) (ns : List ℕ) → limit ≤ 2 ^ 64 → All (λ n. n < limit) ns → each_of (number_below limit) (map decimal ns) ≡ Ok ns
each-read limit [] le all = refl
each-read limit (n ∷ ns) le all =
    ap (λ r. r >>= λ b. each_of (number_below limit) (map decimal ns) >>= λ bs. Ok (b ∷ bs)) (numbers-are-read limit n le (all 0 0 (omega arith)))
    ∙ ap (λ r. r >>= λ bs. Ok (n ∷ bs)) (each-read limit ns le (λ k d lt. all (suc k) d (omega arith)))

pub number-lists-are-read : NumberListsAreRead
number-lists-are-read limit [] le some all = absurd (omega arith)
number-lists-are-read limit (n ∷ ns) le some all =
    let first : n < 2 ^ 64 = omega (arith, all 0 0 (omega arith)) in
    let further : All (λ m. m < 2 ^ 64) ns = λ k d lt. omega (arith, all (suc k) d (omega arith)) in
    ap (each_of (number_below limit)) (split-numbers n ns first further) ∙ each-read limit (n ∷ ns) le all

-- numbers written are numbers between commas
pub numbers_text-first : (ns rest : List ℕ) (n : ℕ) → ns ≡ n ∷ rest → decimal n ++ flat_map (λ m. 44 ∷ decimal m) rest ≡ numbers_text ns
numbers_text-first ns rest n e = ap numbers_text (sym e)

-- what is no number within a wide limit is none within a narrower one
pub number_below-narrow : (wide narrow : ℕ) (text : List ℕ) (kind : FaultKind) → narrow ≤ wide → number_below wide text ≡ Err kind → number_below narrow text ≡ Err kind
number_below-narrow wide narrow text kind le h =
    let v = digits_value 10 text in
    elim (cases_Bool (is_decimal text)) [
      | inl known ↦
          elim (cases_lt v wide) [
            | inl lt ↦ let never : Ok v ≡ Err kind = sym (number-read wide text v known refl lt) ∙ h in absurd (cc)
            | inr ge ↦ number_below-above narrow text (λ below. absurd (omega arith)) ∙ sym (number_below-above wide text (λ below. absurd (omega arith))) ∙ h
          ]
      | inr other ↦
          ap (λ b. cond (b && nat_lt v narrow) (Ok v) (Err Number)) other ∙ sym (ap (λ b. cond (b && nat_lt v wide) (Ok v) (Err Number)) other) ∙ h
    ]

-- a text of bytes that stand for themselves is its own field
abbrev IsPlain : ℕ → Type 0
IsPlain b = letter_of b ≡ None

plain-bytes : (bs : List ℕ) → All IsPlain bs → flat_map written_byte bs ≡ bs
plain-bytes [] all = refl
plain-bytes (b ∷ bs) all =
    ap (λ o. written_as b o ++ flat_map written_byte bs) (all 0 0 (omega arith)) ∙ ap (λ l. b ∷ l) (plain-bytes bs (λ k d lt. all (suc k) d (omega arith)))

plain-field : (bs : List ℕ) → 0 < length bs → All IsPlain bs → field_text bs ≡ bs
plain-field [] some all = absurd (omega arith)
plain-field (b ∷ bs) some all = plain-bytes (b ∷ bs) all

digit-other : (b x : ℕ) → is_ascii_digit x ≡ false → is_ascii_digit b ≡ true → (b == x) ≡ false
digit-other b x none h =
    elim (cases_Bool (b == x)) [
      | inl same ↦ let e : b ≡ x = eqb-true b x same in let never : false ≡ true = sym none ∙ sym (ap is_ascii_digit e) ∙ h in absurd (false≢true never)
      | inr other ↦ other
    ]

digit-plain : (b : ℕ) → is_ascii_digit b ≡ true → IsPlain b
digit-plain b h =
    ap (λ t. cond t (Some 115) (cond (b == 9) (Some 116) (cond (b == 10) (Some 110) (cond (b == 13) (Some 114) (cond (b == 92) (Some 92) None))))) (digit-other b 32 refl h)
    ∙ ap (λ t. cond t (Some 116) (cond (b == 10) (Some 110) (cond (b == 13) (Some 114) (cond (b == 92) (Some 92) None)))) (digit-other b 9 refl h)
    ∙ ap (λ t. cond t (Some 110) (cond (b == 13) (Some 114) (cond (b == 92) (Some 92) None))) (digit-other b 10 refl h)
    ∙ ap (λ t. cond t (Some 114) (cond (b == 92) (Some 92) None)) (digit-other b 13 refl h) ∙ ap (λ t. cond t (Some 92) None) (digit-other b 92 refl h)

digits-plain : (ds : List ℕ) → list_all is_ascii_digit ds ≡ true → All IsPlain ds
digits-plain [] h = All-nil IsPlain
digits-plain (d ∷ ds) h =
    let parts = and_parts (is_ascii_digit d) (list_all is_ascii_digit ds) h in
    All-cons IsPlain d ds (digit-plain d parts.0) (digits-plain ds parts.1)

-- the digits of a number are their own field
pub number-field : (n : ℕ) → n < 2 ^ 64 → field_text (decimal n) ≡ decimal n
number-field n h = plain-field (decimal n) (decimal_nonempty n h) (digits-plain (decimal n) (digits-of n h))

further-plain : (ns : List ℕ) → All (λ m. m < 2 ^ 64) ns → All IsPlain (flat_map (λ m. 44 ∷ decimal m) ns)
further-plain [] all = All-nil IsPlain
further-plain (n ∷ ns) all =
    All-append IsPlain (44 ∷ decimal n) (flat_map (λ m. 44 ∷ decimal m) ns)
    (All-cons IsPlain 44 (decimal n) refl (digits-plain (decimal n) (digits-of n (all 0 0 (omega arith)))))
    (further-plain ns (λ k d lt. all (suc k) d (omega arith)))

-- and so are numbers with commas between them, where there are any
pub numbers-field : (ns : List ℕ) → 0 < length ns → All (λ m. m < 2 ^ 64) ns → field_text (numbers_text ns) ≡ numbers_text ns
numbers-field [] some all = absurd (omega arith)
numbers-field (n ∷ ns) some all =
    let h : n < 2 ^ 64 = all 0 0 (omega arith) in
    plain-field (numbers_text (n ∷ ns)) (omega (arith, length-append (decimal n) (flat_map (λ m. 44 ∷ decimal m) ns), decimal_nonempty n h))
    (All-append IsPlain (decimal n) (flat_map (λ m. 44 ∷ decimal m) ns) (digits-plain (decimal n) (digits-of n h)) (further-plain ns (λ k d lt. all (suc k) d (omega arith))))
