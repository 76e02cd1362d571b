-- Escaped names and words read in XML as they are shown.
use Rattle.std.proofs.Common.{◌≡◌, ℕ, ◌<◌, ◌+◌, ◌/◌, ◌%◌, ◌==◌, ◌||◌, Bool, true, false, List, [], ◌∷◌, ◌++◌, Option, Some, None, inl, inr, refl, sym, ap, subst, ◌∙◌, arith, if◌then◌else◌}
use Rattle.std.specs.Prelude.{◌≢◌, nat_lt, codes}
use Rattle.std.specs.List.{AllByRecursion, flat_map}
use Rattle.std.proofs.lemmas.Bool.{cases_eq, cases_lt, and_parts, ne_eqb, lt-ltb, le-ltb, ltb-true, true≢false}
use Rattle.rev_fields.specs.Fields.{letter_of}
use Rattle.rev_shown.specs.Shown.{hex_byte, hex_digit, is_visible, shown_by, shown_byte}
use Rattle.rev_picture.specs.Escape.{IsByte, IsLetter, NamesAreRead, Reads, Reads.nothing, Reads.letter, Reads.ampersand, Reads.less, Reads.greater, Reads.quote, Reads.apostrophe, WordsAreRead, escaped_byte, word_byte}

-- one text after another
reads-both : (a x b y : List ℕ) → Reads a x → Reads b y → Reads (a ++ b) (x ++ y)
reads-both a x b y nothing h = h
reads-both a x b y (letter c text value is r) h = letter c (text ++ b) (value ++ y) is (reads-both text value b y r h)
reads-both a x b y (ampersand text value r) h = ampersand (text ++ b) (value ++ y) (reads-both text value b y r h)
reads-both a x b y (less text value r) h = less (text ++ b) (value ++ y) (reads-both text value b y r h)
reads-both a x b y (greater text value r) h = greater (text ++ b) (value ++ y) (reads-both text value b y r h)
reads-both a x b y (quote text value r) h = quote (text ++ b) (value ++ y) (reads-both text value b y r h)
reads-both a x b y (apostrophe text value r) h = apostrophe (text ++ b) (value ++ y) (reads-both text value b y r h)

-- byte by byte
reads-all : (f g : ℕ → List ℕ) → ((b : ℕ) → b < 256 → Reads (f b) (g b)) → (bs : List ℕ) → AllByRecursion IsByte bs → Reads (flat_map f bs) (flat_map g bs)
reads-all f g each [] h = nothing
reads-all f g each (b ∷ bs) h = reads-both (f b) (g b) (flat_map f bs) (flat_map g bs) (each b h.0) (reads-all f g each bs h.1)

-- a test that fails
otherwise : {A : Type 0} (t : Bool) (x y : A) → t ≡ false → (if t then x else y) ≡ y
otherwise true x y h = absurd (true≢false h)
otherwise false x y h = refl

one-letter : (b : ℕ) → IsLetter b → Reads (b ∷ []) (b ∷ [])
one-letter b is = letter b [] [] is nothing

-- a byte above all five of XML's own, and a decimal digit
above : (b : ℕ) → 62 < b → b < 127 → IsLetter b
above b low high = record {
  printable = omega (arith, low);
  ascii = high;
  no_ampersand = λ e. omega (arith, low, e);
  no_less = λ e. omega (arith, low, e);
  no_greater = λ e. omega (arith, low, e);
  no_quote = λ e. omega (arith, low, e);
  no_apostrophe = λ e. omega (arith, low, e);
}

digit : (b : ℕ) → 47 < b → b < 58 → IsLetter b
digit b low high = record {
  printable = omega (arith, low);
  ascii = omega (arith, high);
  no_ampersand = λ e. omega (arith, low, e);
  no_less = λ e. omega (arith, high, e);
  no_greater = λ e. omega (arith, high, e);
  no_quote = λ e. omega (arith, low, e);
  no_apostrophe = λ e. omega (arith, low, e);
}

digit-is : (n : ℕ) → n < 16 → IsLetter (hex_digit n)
digit-is n below =
    elim (cases_lt n 10) [
      | inl low ↦ subst IsLetter (sym (ap (λ t. if t then 48 + n else 87 + n) (lt-ltb n 10 low))) (digit (48 + n) (omega arith) (omega (arith, low)))
      | inr high ↦ subst IsLetter (sym (ap (λ t. if t then 48 + n else 87 + n) (le-ltb n 10 high))) (above (87 + n) (omega arith) (omega (arith, below)))
    ]

hex-is : (b : ℕ) → b < 256 → Reads (hex_byte b) (hex_byte b)
hex-is b below =
    let high = hex_digit (b / 16) in
    let low = hex_digit (b % 16) in
    letter 92 (120 ∷ high ∷ low ∷ []) (120 ∷ high ∷ low ∷ []) (above 92 (omega arith) (omega arith))
    (letter 120 (high ∷ low ∷ []) (high ∷ low ∷ []) (above 120 (omega arith) (omega arith))
    (letter high (low ∷ []) (low ∷ []) (digit-is (b / 16) (omega (arith, below)))
    (one-letter low (digit-is (b % 16) (omega arith)))))

-- a byte that is none of XML's own
record IsPlain (b : ℕ) : Type 0 where
  no_ampersand : b ≢ 38
  no_less : b ≢ 60
  no_greater : b ≢ 62
  no_quote : b ≢ 34
  no_apostrophe : b ≢ 39

unlettered : (b : ℕ) → b < 256 → IsPlain b → (v : Bool) → is_visible b ≡ v → Reads (if v then b ∷ [] else hex_byte b) (if v then b ∷ [] else hex_byte b)
unlettered b below plain true is =
    let both = and_parts (nat_lt 32 b) (nat_lt b 127) is in
    one-letter b (record {
      printable = omega (arith, ltb-true 32 b both.0);
      ascii = ltb-true b 127 both.1;
      no_ampersand = plain.no_ampersand;
      no_less = plain.no_less;
      no_greater = plain.no_greater;
      no_quote = plain.no_quote;
      no_apostrophe = plain.no_apostrophe;
    })
unlettered b below plain false is = hex-is b below

abbrev AsShown : ℕ → Type 0
AsShown b = Reads (shown_byte b) (shown_byte b)

lettered : (l : ℕ) → 62 < l → l < 127 → Reads (92 ∷ l ∷ []) (92 ∷ l ∷ [])
lettered l low high = letter 92 (l ∷ []) (l ∷ []) (above 92 (omega arith) (omega arith)) (one-letter l (above l low high))

shown-is : (b : ℕ) → b < 256 → IsPlain b → AsShown b
shown-is b below plain =
    elim (cases_eq b 32) [
      | inl e ↦ subst AsShown (sym e) (lettered 115 (omega arith) (omega arith))
      | inr a ↦ elim (cases_eq b 9) [
        | inl e ↦ subst AsShown (sym e) (lettered 116 (omega arith) (omega arith))
        | inr c ↦ elim (cases_eq b 10) [
          | inl e ↦ subst AsShown (sym e) (lettered 110 (omega arith) (omega arith))
          | inr d ↦ elim (cases_eq b 13) [
            | inl e ↦ subst AsShown (sym e) (lettered 114 (omega arith) (omega arith))
            | inr f ↦ elim (cases_eq b 92) [
              | inl e ↦ subst AsShown (sym e) (lettered 92 (omega arith) (omega arith))
              | inr g ↦
                  let none : letter_of b ≡ None =
                  otherwise (b == 32) _ _ (ne_eqb b 32 a) ∙ otherwise (b == 9) _ _ (ne_eqb b 9 c) ∙ otherwise (b == 10) _ _ (ne_eqb b 10 d)
                  ∙ otherwise (b == 13) _ _ (ne_eqb b 13 f) ∙ otherwise (b == 92) _ _ (ne_eqb b 92 g) in
                  subst (λ (o : Option ℕ). Reads (shown_by b o) (shown_by b o)) (sym none) (unlettered b below plain (is_visible b) refl)
            ]
          ]
        ]
      ]
    ]

abbrev ReadsByte : ℕ → Type 0
ReadsByte b = Reads (escaped_byte b) (shown_byte b)

byte-is : (b : ℕ) → b < 256 → ReadsByte b
byte-is b below =
    elim (cases_eq b 38) [
      | inl e ↦ subst ReadsByte (sym e) (ampersand [] [] nothing)
      | inr a ↦ elim (cases_eq b 60) [
        | inl e ↦ subst ReadsByte (sym e) (less [] [] nothing)
        | inr c ↦ elim (cases_eq b 62) [
          | inl e ↦ subst ReadsByte (sym e) (greater [] [] nothing)
          | inr d ↦ elim (cases_eq b 34) [
            | inl e ↦ subst ReadsByte (sym e) (quote [] [] nothing)
            | inr f ↦ elim (cases_eq b 39) [
              | inl e ↦ subst ReadsByte (sym e) (apostrophe [] [] nothing)
              | inr g ↦
                  let same : escaped_byte b ≡ shown_byte b =
                  otherwise (b == 38) _ _ (ne_eqb b 38 a) ∙ otherwise (b == 60) _ _ (ne_eqb b 60 c) ∙ otherwise (b == 62) _ _ (ne_eqb b 62 d)
                  ∙ otherwise (b == 34) _ _ (ne_eqb b 34 f) ∙ otherwise (b == 39) _ _ (ne_eqb b 39 g) in
                  subst (λ (text : List ℕ). Reads text (shown_byte b)) (sym same)
                  (shown-is b below (record { no_ampersand = a; no_less = c; no_greater = d; no_quote = f; no_apostrophe = g }))
            ]
          ]
        ]
      ]
    ]

pub names-are-read : NamesAreRead
names-are-read name bytes = reads-all escaped_byte shown_byte byte-is name bytes

abbrev ReadsWord : ℕ → Type 0
ReadsWord b = Reads (word_byte escaped_byte b) (word_byte shown_byte b)

space-is : IsLetter 32
space-is = record {
  printable = omega arith;
  ascii = omega arith;
  no_ampersand = λ e. omega (arith, e);
  no_less = λ e. omega (arith, e);
  no_greater = λ e. omega (arith, e);
  no_quote = λ e. omega (arith, e);
  no_apostrophe = λ e. omega (arith, e);
}

word-is : (b : ℕ) → b < 256 → ReadsWord b
word-is b below =
    elim (cases_eq b 32) [
      | inl e ↦ subst ReadsWord (sym e) (one-letter 32 space-is)
      | inr a ↦ elim (cases_eq b 92) [
        | inl e ↦ subst ReadsWord (sym e) (one-letter 92 (above 92 (omega arith) (omega arith)))
        | inr c ↦
            let neither : (b == 32 || b == 92) ≡ false = ap (λ t. t || b == 92) (ne_eqb b 32 a) ∙ ne_eqb b 92 c in
            subst (λ (t : Bool). Reads (if t then b ∷ [] else escaped_byte b) (if t then b ∷ [] else shown_byte b)) (sym neither) (byte-is b below)
      ]
    ]

pub words-are-read : WordsAreRead
words-are-read words bytes = reads-all (word_byte escaped_byte) (word_byte shown_byte) word-is words bytes
