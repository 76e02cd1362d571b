-- Texts, lines and numbers are read as the grammar says.
use Rattle.std.proofs.Common.{◌≡◌, ℕ, zero, suc, ◌<◌, ◌≤◌, ◌^◌, ◌==◌, Bool, true, false, not, ◌&&◌, ◌||◌, cond, nat_lt, List, [], ◌∷◌, length, get_or, map, refl, sym, ap, ◌∙◌, subst, arith, Option, Some, None, Result, Ok, Err}
use Rattle.std.proofs.lemmas.Bool.{false≢true, eqb-true, eq-eqb, ltb-true, and_parts}
use Rattle.std.proofs.lemmas.Fmt.{decimal-digits_value}
use Rattle.std.proofs.lemmas.List.Splits.{slice_split_none, slice_split_at}
use Rattle.std.proofs.lemmas.Str.Parse.{IsNumeralModel, numerals_by_value, tells_all_ascii_digits}
use Rattle.std.specs.Char.{is_ascii_digit}
use Rattle.std.specs.Fmt.{decimal}
use Rattle.std.specs.List.{All, AllByRecursion, list_any, list_all, slice_split, onto_first}
use Rattle.std.specs.Str.{all_ascii_digits}
use Rattle.std.specs.Str.Parse.{digits_value}
use Rattle.rev_fields.specs.declared.faults.FaultKind.{FaultKind}
use Rattle.rev_fields.specs.declared.faults.FaultKind.TheVariants.{Number}
use Rattle.rev_fields.specs.Faults.{◌>>=◌, each_of}
use Rattle.rev_fields.specs.Fields.{field_text, text_of, all_texts, before_texts}
use Rattle.rev_fields.specs.Grammar.{lacks, AreParts, LastPart, OnePart, IsNumber, PartsAreCut, FieldsAreRead, DigitsAreRead, DigitListsAreRead}
use Rattle.rev_fields.specs.Numbers.{is_decimal, number_below}
use Rattle.rev_fields.proofs.InverseLemmas.{field_text-text_of}
use Rattle.rev_fields.proofs.LawLemmas.{all_texts-written, numbers-are-read}
use Rattle.rev_fields.proofs.NumberLemmas.{list_all-digits}

-- parts

lacks-more : (mark b d : ℕ) (bs : List ℕ) → (t : Bool) → (b == mark) ≡ t → not (t || list_any (λ x. x == mark) bs) ≡ true
    → (lacks mark bs ≡ true → (k : ℕ) → k < length bs → (get_or bs k d == mark) ≡ false) → (k : ℕ) → k < length (b ∷ bs) → (get_or (b ∷ bs) k d == mark) ≡ false
lacks-more mark b d bs true e h more k lt = absurd (false≢true h)
lacks-more mark b d bs false e h more zero lt = e
lacks-more mark b d bs false e h more (suc k) lt = more h k (omega arith)

lacks-all : (mark : ℕ) (bs : List ℕ) → lacks mark bs ≡ true → All (λ b. (b == mark) ≡ false) bs
lacks-all mark [] h k d lt = absurd (omega arith)
lacks-all mark (b ∷ bs) h k d lt = lacks-more mark b d bs (b == mark) refl h (λ g j l. lacks-all mark bs g j d l) k lt

pub parts-cut : {mark : ℕ} {bytes : List ℕ} {parts : List (List ℕ)} → AreParts mark bytes parts → slice_split (λ b. b == mark) bytes ≡ parts
parts-cut (LastPart {mark} {part} h) = slice_split_none (λ b. b == mark) part (lacks-all mark part h)
parts-cut (OnePart {mark} {part} {bytes} {parts} h rest) =
    slice_split_at (λ b. b == mark) part mark bytes (lacks-all mark part h) (eq-eqb mark mark refl) ∙ ap (λ l. part ∷ l) (parts-cut rest)

front-part : {mark : ℕ} {bytes : List ℕ} {parts : List (List ℕ)} (b : ℕ) → (b == mark) ≡ false → AreParts mark bytes parts → AreParts mark (b ∷ bytes) (onto_first b parts)
front-part b e (LastPart {mark} {part} h) = LastPart {mark = mark} {part = b ∷ part} (ap (λ t. not (t || list_any (λ x. x == mark) part)) e ∙ h)
front-part b e (OnePart {mark} {part} {bytes} {parts} h rest) =
    OnePart {mark = mark} {part = b ∷ part} {bytes = bytes} {parts = parts} (ap (λ t. not (t || list_any (λ x. x == mark) part)) e ∙ h) rest

parts-more : (mark b : ℕ) (bs : List ℕ) (parts : List (List ℕ)) → AreParts mark bs parts → (t : Bool) → (b == mark) ≡ t → AreParts mark (b ∷ bs) (cond t ([] ∷ parts) (onto_first b parts))
parts-more mark b bs parts are true e =
    let P : ℕ → Type 0 = λ x. AreParts mark (x ∷ bs) ([] ∷ parts) in
    subst P (sym (eqb-true b mark e)) (OnePart {mark = mark} {part = []} refl are)
parts-more mark b bs parts are false e = front-part b e are

parts-are : (mark : ℕ) (bytes : List ℕ) → AreParts mark bytes (slice_split (λ b. b == mark) bytes)
parts-are mark [] = LastPart refl
parts-are mark (b ∷ bs) = parts-more mark b bs (slice_split (λ x. x == mark) bs) (parts-are mark bs) (b == mark) refl

pub parts-are-cut : PartsAreCut
parts-are-cut mark bytes parts =
    (λ h. let P : List (List ℕ) → Type 0 = λ l. AreParts mark bytes l in subst P h (parts-are mark bytes), λ h. parts-cut h)

-- fields

pub before_texts-some : (o : Option (List ℕ)) (rest : Option (List (List ℕ))) (texts : List (List ℕ)) → before_texts o rest ≡ Some texts
    → (t : List ℕ) × (ts : List (List ℕ)) × (o ≡ Some t) × (rest ≡ Some ts) × (texts ≡ t ∷ ts)
before_texts-some None rest texts h = let never : None ≡ Some texts = h in absurd (cc)
before_texts-some (Some t) None texts h = let never : None ≡ Some texts = h in absurd (cc)
before_texts-some (Some t) (Some ts) texts h = let same : Some (t ∷ ts) ≡ Some texts = h in (t, ts, refl, refl, cc)

all-fields : (fields texts : List (List ℕ)) → all_texts fields ≡ Some texts → fields ≡ map field_text texts
all-fields [] texts h = let same : Some [] ≡ Some texts = h in let is : texts ≡ [] = cc in ap (map field_text) (sym is)
all-fields (field ∷ fields) texts h =
    let parts = before_texts-some (text_of field) (all_texts fields) texts h in
    ap (λ f. f ∷ fields) (sym (field_text-text_of field parts.0 parts.2)) ∙ ap (λ l. field_text parts.0 ∷ l) (all-fields fields parts.1 parts.3)
    ∙ ap (map field_text) (sym parts.4)

pub fields-are-read : FieldsAreRead
fields-are-read line texts = (
  λ h. (parts-are-cut 32 line (map field_text texts)).0 (all-fields (slice_split (λ b. b == 32) line) texts h),
  λ h. ap all_texts (parts-cut h) ∙ all_texts-written texts,
)

-- numbers

abbrev own : IsNumeralModel (λ ds. all_ascii_digits ds ≡ true) (digits_value 10)
own = numerals_by_value (λ ds. all_ascii_digits ds ≡ true) tells_all_ascii_digits

one-digit : (text : List ℕ) → is_decimal text ≡ true → get_or text 0 0 ≡ 48 → length text ≡ 1
one-digit [] h e = absurd (false≢true h)
one-digit (d ∷ []) h e = refl
one-digit (d ∷ x ∷ ds) h e =
    let never : false ≡ true = sym (ap (λ (c : ℕ). not (c == 48)) e) ∙ (and_parts (not (d == 48)) (list_all is_ascii_digit (d ∷ x ∷ ds)) h).0 in absurd (false≢true never)

digits-all : (text : List ℕ) → is_decimal text ≡ true → list_all is_ascii_digit text ≡ true
digits-all [] h = absurd (false≢true h)
digits-all (d ∷ []) h = ap (λ t. t && true) h
digits-all (d ∷ x ∷ ds) h = (and_parts (not (d == 48)) (list_all is_ascii_digit (d ∷ x ∷ ds)) h).1

some-digit : (text : List ℕ) → is_decimal text ≡ true → 0 < length text
some-digit [] h = absurd (false≢true h)
some-digit (d ∷ ds) h = omega arith

number-is : (limit : ℕ) (text : List ℕ) (n : ℕ) → limit ≤ 2 ^ 64 → number_below limit text ≡ Ok n → IsNumber limit text n
number-is limit text n le h = by (is_decimal text) refl (nat_lt (digits_value 10 text) limit) refl h
  where
    by : (d : Bool) → is_decimal text ≡ d → (w : Bool) → nat_lt (digits_value 10 text) limit ≡ w → cond (d && w) (Ok (digits_value 10 text)) (Err Number) ≡ Ok n → IsNumber limit text n
    by false e w f h = absurd (let no : ◌≡◌ {A = Result ℕ FaultKind} (Err Number) (Ok n) = h in cc)
    by true e false f h = absurd (let no : ◌≡◌ {A = Result ℕ FaultKind} (Err Number) (Ok n) = h in cc)
    by true e true f h =
        let same : ◌≡◌ {A = Result ℕ FaultKind} (Ok (digits_value 10 text)) (Ok n) = h in
        let is : digits_value 10 text ≡ n = cc in
        let below : digits_value 10 text < limit = ltb-true (digits_value 10 text) limit f in
        let written = decimal-digits_value own text (list_all-digits text ∙ digits-all text e) (some-digit text e) (one-digit text e) (omega (arith, below, le)) in
        (sym written ∙ ap decimal is, omega (arith, below, is))

pub digits-are-read : DigitsAreRead
digits-are-read limit text n le = (number-is limit text n le, λ h. ap (number_below limit) h.0 ∙ numbers-are-read limit n le h.1)

bind_ok : {A B : Type 0} (r : Result A FaultKind) (f : A → Result B FaultKind) (b : B) → (r >>= f) ≡ Ok b → (a : A) × (r ≡ Ok a) × (f a ≡ Ok b)
bind_ok (Ok a) f b h = (a, refl, h)
bind_ok {A} {B} (Err kind) f b h = absurd (let no : ◌≡◌ {A = Result B FaultKind} (Err kind) (Ok b) = h in cc)

each-is : (limit : ℕ) (parts : List (List ℕ)) (ns : List ℕ) → limit ≤ 2 ^ 64 → each_of (number_below limit) parts ≡ Ok ns → (parts ≡ map decimal ns) × AllByRecursion (λ n. n < limit) ns
each-is limit [] ns le h =
    let same : ◌≡◌ {A = Result (List ℕ) FaultKind} (Ok []) (Ok ns) = h in
    let is : [] ≡ ns = cc in
    let P : List ℕ → Type 0 = λ l. ([] ≡ map decimal l) × AllByRecursion (λ n. n < limit) l in
    subst P is (refl, tt)
each-is limit (part ∷ parts) ns le h =
    let first = bind_ok (number_below limit part) (λ b. each_of (number_below limit) parts >>= λ bs. Ok (b ∷ bs)) ns h in
    let rest = bind_ok (each_of (number_below limit) parts) (λ bs. Ok (first.0 ∷ bs)) ns first.2 in
    let one = number-is limit part first.0 le first.1 in
    let others = each-is limit parts rest.0 le rest.1 in
    let same : ◌≡◌ {A = Result (List ℕ) FaultKind} (Ok (first.0 ∷ rest.0)) (Ok ns) = rest.2 in
    let is : first.0 ∷ rest.0 ≡ ns = cc in
    let P : List ℕ → Type 0 = λ l. (part ∷ parts ≡ map decimal l) × AllByRecursion (λ n. n < limit) l in
    subst P is (ap (λ p. p ∷ parts) one.0 ∙ ap (λ l. decimal first.0 ∷ l) others.0, (one.1, others.1))

each-back : (limit : ℕ) (ns : List ℕ) → limit ≤ 2 ^ 64 → AllByRecursion (λ n. n < limit) ns → each_of (number_below limit) (map decimal ns) ≡ Ok ns
each-back limit [] le all = refl
each-back limit (n ∷ ns) le all =
    ap (λ r. r >>= λ b. each_of (number_below limit) (map decimal ns) >>= λ bs. Ok (b ∷ bs)) (numbers-are-read limit n le all.0)
    ∙ ap (λ r. r >>= λ bs. Ok (n ∷ bs)) (each-back limit ns le all.1)

pub digit-lists-are-read : DigitListsAreRead
digit-lists-are-read limit text ns le = (
  λ h. let each = each-is limit (slice_split (λ b. b == 44) text) ns le h in ((parts-are-cut 44 text (map decimal ns)).0 each.0, each.1),
  λ h. ap (each_of (number_below limit)) (parts-cut h.0) ∙ each-back limit ns le h.1,
)
