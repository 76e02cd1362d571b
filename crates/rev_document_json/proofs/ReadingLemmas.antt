-- Names and texts are had back from their strings.
use Rattle.std.proofs.Common.{◌≡◌, ℕ, ◌<◌, ◌≤◌, ◌+◌, ◌*◌, ◌/◌, ◌%◌, ◌==◌, ◌||◌, ◌&&◌, Bool, true, false, List, [], ◌∷◌, ◌++◌, Option, Some, None, inl, inr, refl, sym, ap, subst, ◌∙◌, arith, append_assoc, if◌then◌else◌}
use Rattle.std.specs.Prelude.{◌≢◌, nat_lt}
use Rattle.std.specs.List.{AllByRecursion, flat_map}
use Rattle.std.specs.Option.{option_map}
use Rattle.std.proofs.lemmas.Bool.{cases_eq, cases_lt, and_parts, ne_eqb, lt-ltb, le-leb, le-ltb, ltb-true, true≢false}
use Rattle.rev_fields.specs.Fields.{letter_of}
use Rattle.rev_document_words.specs.Escape.{hex_byte, hex_digit, is_visible, name_by, name_byte, name_words, text_byte, text_words}
use Rattle.rev_document_json.specs.Strings.{inside, inside_byte, is_plain, json_string}
use Rattle.rev_document_json.specs.Reading.{IsByte, NamesAreRead, State, State.Plain, State.Slash, State.Hex, State.Digit, TextsAreRead, behind, bytes_from, digit_value, letter_value, read_bytes, read_inside, read_string}

-- a test that fails
otherwise : {A : Type 0} (t : Bool) (x y : A) → t ≡ false → (if t then x else y) ≡ y
otherwise true x y h = absurd (true≢false h)
otherwise false x y h = refl

-- a test that does not
then_so : {A : Type 0} (t : Bool) (x y : A) → t ≡ true → (if t then x else y) ≡ x
then_so true x y h = refl
then_so false x y h = absurd (true≢false (sym h))

plain-between : (b : ℕ) → 32 ≤ b → b < 127 → is_plain b ≡ true
plain-between b low high = ap (λ t. t && nat_lt b 127) (le-leb 32 b low) ∙ lt-ltb b 127 high

abbrev Pair : Type 0
Pair = List ℕ × List ℕ

-- WHAT STANDS BETWEEN THE QUOTES
-- a byte that a string has is read as it is
inside-byte-is : (b : ℕ) → is_plain b ≡ true → (t words rest : List ℕ) → read_inside false t ≡ Some (words, rest)
    → read_inside false (inside_byte b ++ t) ≡ Some (b ∷ words, rest)
inside-byte-is b plain t words rest h =
    elim (cases_eq b 34) [
      | inl e ↦
          let P : ℕ → Type 0 = λ n. read_inside false (inside_byte n ++ t) ≡ Some (n ∷ words, rest) in
          subst P (sym e) (ap (λ r. behind 34 r) h)
      | inr a ↦ elim (cases_eq b 92) [
        | inl e ↦
            let P : ℕ → Type 0 = λ n. read_inside false (inside_byte n ++ t) ≡ Some (n ∷ words, rest) in
            subst P (sym e) (ap (λ r. behind 92 r) h)
        | inr c ↦
            let is : inside_byte b ≡ b ∷ [] =
            otherwise (b == 34) _ _ (ne_eqb b 34 a) ∙ otherwise (b == 92) _ _ (ne_eqb b 92 c) ∙ then_so (is_plain b) _ _ plain in
            ap (λ x. read_inside false (x ++ t)) is
            ∙ otherwise (b == 34) (Some ([], t)) _ (ne_eqb b 34 a) ∙ otherwise (b == 92) _ _ (ne_eqb b 92 c)
            ∙ then_so (is_plain b) _ _ plain ∙ ap (λ r. behind b r) h
      ]
    ]

abbrev IsPlainByte : ℕ → Type 0
IsPlainByte b = is_plain b ≡ true

inside-is : (words rest : List ℕ) → AllByRecursion IsPlainByte words
    → read_inside false (inside words ++ 34 ∷ rest) ≡ Some (words, rest)
inside-is [] rest all = refl
inside-is (b ∷ bs) rest all =
    ap (λ t. read_inside false t) (append_assoc (inside_byte b) (inside bs) (34 ∷ rest))
    ∙ inside-byte-is b all.0 (inside bs ++ 34 ∷ rest) bs rest (inside-is bs rest all.1)

string-is : (words rest : List ℕ) → AllByRecursion IsPlainByte words
    → read_string (json_string words ++ rest) ≡ Some (words, rest)
string-is words rest all =
    ap (λ t. read_inside false t) (append_assoc (inside words) (34 ∷ []) rest) ∙ inside-is words rest all

-- A NAME'S BYTES
-- digits
digit-is : (n : ℕ) → n < 16 → digit_value (hex_digit n) ≡ n
digit-is n below =
    elim (cases_lt n 10) [
      | inl low ↦
          ap digit_value (then_so (nat_lt n 10) (48 + n) (87 + n) (lt-ltb n 10 low))
          ∙ then_so (nat_lt (48 + n) 58) _ _ (lt-ltb (48 + n) 58 (omega (arith, low))) ∙ omega arith
      | inr high ↦
          ap digit_value (otherwise (nat_lt n 10) (48 + n) (87 + n) (le-ltb n 10 high))
          ∙ otherwise (nat_lt (87 + n) 58) _ _ (le-ltb (87 + n) 58 (omega arith)) ∙ omega arith
    ]

digit-plain : (n : ℕ) → n < 16 → is_plain (hex_digit n) ≡ true
digit-plain n below =
    elim (cases_lt n 10) [
      | inl low ↦ ap is_plain (then_so (nat_lt n 10) (48 + n) (87 + n) (lt-ltb n 10 low)) ∙ plain-between (48 + n) (omega arith) (omega (arith, low))
      | inr high ↦ ap is_plain (otherwise (nat_lt n 10) (48 + n) (87 + n) (le-ltb n 10 high)) ∙ plain-between (87 + n) (omega arith) (omega (arith, below))
    ]

-- what each byte of a name is written as
pub record Written (b : ℕ) (bytes : List ℕ) : Type 0 where
  pub plain : AllByRecursion IsPlainByte bytes
  pub back : (t : List ℕ) → bytes_from Plain (bytes ++ t) ≡ b ∷ bytes_from Plain t

hex-is : (b : ℕ) → b < 256 → Written b (hex_byte b)
hex-is b below = record {
  plain = (refl, (refl, (digit-plain (b / 16) (omega (arith, below)), (digit-plain (b % 16) (omega arith), tt))));
  back = λ t.
      ap (λ n. n ∷ bytes_from Plain t)
      (ap (λ h. 16 * h + digit_value (hex_digit (b % 16))) (digit-is (b / 16) (omega (arith, below)))
      ∙ ap (λ l. 16 * (b / 16) + l) (digit-is (b % 16) (omega arith)) ∙ omega arith);
}

self-is : (b : ℕ) → b ≢ 92 → is_plain b ≡ true → Written b (b ∷ [])
self-is b apart plain = record {
  plain = (plain, tt);
  back = λ t. otherwise (b == 92) _ _ (ne_eqb b 92 apart);
}

visible-plain : (b : ℕ) → is_visible b ≡ true → is_plain b ≡ true
visible-plain b is =
    let both = and_parts (nat_lt 32 b) (nat_lt b 127) is in
    plain-between b (omega (arith, ltb-true 32 b both.0)) (ltb-true b 127 both.1)

unlettered : (b : ℕ) → b < 256 → b ≢ 92 → (v : Bool) → is_visible b ≡ v → Written b (if v then b ∷ [] else hex_byte b)
unlettered b below apart true is = self-is b apart (visible-plain b is)
unlettered b below apart false is = hex-is b below

abbrev NameByteIs : ℕ → Type 0
NameByteIs b = Written b (name_byte b)

name-byte-is : (b : ℕ) → b < 256 → NameByteIs b
name-byte-is b below =
    elim (cases_eq b 32) [
      | inl e ↦ subst NameByteIs (sym e) (record { plain = (refl, (refl, tt)); back = λ t. refl })
      | inr a ↦ elim (cases_eq b 9) [
        | inl e ↦ subst NameByteIs (sym e) (record { plain = (refl, (refl, tt)); back = λ t. refl })
        | inr c ↦ elim (cases_eq b 10) [
          | inl e ↦ subst NameByteIs (sym e) (record { plain = (refl, (refl, tt)); back = λ t. refl })
          | inr d ↦ elim (cases_eq b 13) [
            | inl e ↦ subst NameByteIs (sym e) (record { plain = (refl, (refl, tt)); back = λ t. refl })
            | inr f ↦ elim (cases_eq b 92) [
              | inl e ↦ subst NameByteIs (sym e) (record { plain = (refl, (refl, tt)); back = λ t. refl })
              | inr g ↦
                  let none : letter_of b ≡ None =
                  otherwise (b == 32) _ _ (ne_eqb b 32 a) ∙ otherwise (b == 9) _ _ (ne_eqb b 9 c) ∙ otherwise (b == 10) _ _ (ne_eqb b 10 d)
                  ∙ otherwise (b == 13) _ _ (ne_eqb b 13 f) ∙ otherwise (b == 92) _ _ (ne_eqb b 92 g) in
                  subst (λ (o : Option ℕ). Written b (name_by b o)) (sym none) (unlettered b below g (is_visible b) refl)
            ]
          ]
        ]
      ]
    ]

abbrev TextByteIs : ℕ → Type 0
TextByteIs b = Written b (text_byte b)

text-byte-is : (b : ℕ) → b < 256 → TextByteIs b
text-byte-is b below =
    elim (cases_eq b 32) [
      | inl e ↦ subst TextByteIs (sym e) (record { plain = (refl, tt); back = λ t. refl })
      | inr a ↦
          let is : text_byte b ≡ name_byte b = otherwise (b == 32) _ _ (ne_eqb b 32 a) in
          subst (λ (bytes : List ℕ). Written b bytes) (sym is) (name-byte-is b below)
    ]

-- ALL BYTES
all-append : (P : ℕ → Type 0) (xs ys : List ℕ) → AllByRecursion P xs → AllByRecursion P ys → AllByRecursion P (xs ++ ys)
all-append P [] ys hx hy = hy
all-append P (x ∷ xs) ys hx hy = (hx.0, all-append P xs ys hx.1 hy)

all-is : (f : ℕ → List ℕ) → ((b : ℕ) → b < 256 → Written b (f b)) → (bs : List ℕ) → AllByRecursion IsByte bs
    → AllByRecursion IsPlainByte (flat_map f bs)
all-is f each [] bytes = tt
all-is f each (b ∷ bs) bytes =
    let one = each b bytes.0 in all-append IsPlainByte (f b) (flat_map f bs) one.plain (all-is f each bs bytes.1)

back-is : (f : ℕ → List ℕ) → ((b : ℕ) → b < 256 → Written b (f b)) → (bs : List ℕ) → AllByRecursion IsByte bs
    → bytes_from Plain (flat_map f bs) ≡ bs
back-is f each [] bytes = refl
back-is f each (b ∷ bs) bytes =
    let one = each b bytes.0 in one.back (flat_map f bs) ∙ ap (λ t. b ∷ t) (back-is f each bs bytes.1)

read-is : (f : ℕ → List ℕ) → ((b : ℕ) → b < 256 → Written b (f b)) → (bs rest : List ℕ) → AllByRecursion IsByte bs
    → read_bytes (json_string (flat_map f bs) ++ rest) ≡ Some (bs, rest)
read-is f each bs rest bytes =
    ap (λ r. option_map (λ (p : Pair). (bytes_from Plain p.0, p.1)) r) (string-is (flat_map f bs) rest (all-is f each bs bytes))
    ∙ ap (λ back. Some (back, rest)) (back-is f each bs bytes)

pub names-are-read : NamesAreRead
names-are-read name rest bytes = read-is name_byte name-byte-is name rest bytes

pub texts-are-read : TextsAreRead
texts-are-read text rest bytes = read-is text_byte text-byte-is text rest bytes
