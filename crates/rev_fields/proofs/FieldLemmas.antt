-- Fields read byte by byte and line by line.
use Rattle.std.proofs.Common.{◌≡◌, ℕ, ◌<◌, ◌+◌, ◌≤◌, Bool, true, false, cond, ◌==◌, List, [], ◌∷◌, ◌++◌, length, get_or, drop, refl, ap, ◌∙◌, sym, Option, Some, None, append_assoc, not, ◌&&◌, IsTrue, bytes_eq, if◌then◌else◌}
use Rattle.std.proofs.lemmas.Bool.{eqb-true}
use Rattle.std.proofs.lemmas.Slice.Eq.{bytes_eq-Decides}
use Rattle.std.specs.List.{list_all}
use Rattle.std.proofs.lemmas.List.{at_drop_more, drop_all, append-nil}
use Rattle.std.specs.Option.{option_map, is_some, is_none}
use Rattle.rev_fields.specs.Fields.{letter_of, byte_of, before_text, before_texts, unescaped, empty_field, text_of, all_texts}

-- what follows, after bytes or texts that are read already
abbrev pub joined : {X : Type 0} → List X → Option (List X) → Option (List X)
joined out rest = option_map (λ t. out ++ t) rest

-- the text of the bytes of a field from some place on, where a backslash may stand before it
abbrev pub rest_of : Bool → List ℕ → Option (List ℕ)
rest_of false bs = unescaped bs
rest_of true [] = None
rest_of true (c ∷ bs) = before_text (byte_of c) (unescaped bs)

pub joined-before : (out : List ℕ) (b : ℕ) (t : Option (List ℕ)) → joined out (before_text (Some b) t) ≡ joined (out ++ b ∷ []) t
joined-before out b None = refl
joined-before out b (Some t) = ap Some (sym (append_assoc out (b ∷ []) t))

pub joined-before_texts : (out : List (List ℕ)) (x : List ℕ) (t : Option (List (List ℕ))) → joined out (before_texts (Some x) t) ≡ joined (out ++ x ∷ []) t
joined-before_texts out x None = refl
joined-before_texts out x (Some t) = ap Some (sym (append_assoc out (x ∷ []) t))

pub joined-empty : {X : Type 0} (t : Option (List X)) → joined [] t ≡ t
joined-empty None = refl
joined-empty (Some t) = refl

pub unescaped-backslash : (bs : List ℕ) → unescaped (92 ∷ bs) ≡ rest_of true bs
unescaped-backslash [] = refl
unescaped-backslash (c ∷ bs) = refl

pub unescaped-plain : (b : ℕ) (bs : List ℕ) → (b == 92) ≡ false → is_some (letter_of b) ≡ false → unescaped (b ∷ bs) ≡ before_text (Some b) (unescaped bs)
unescaped-plain b [] e h = ap (λ t. cond t None (Some (b ∷ []))) h
unescaped-plain b (c ∷ bs) e h =
    ap (λ t. cond t (before_text (byte_of c) (unescaped bs)) (cond (is_some (letter_of b)) None (before_text (Some b) (unescaped (c ∷ bs))))) e ∙ ap (λ t. cond t None (before_text (Some b) (unescaped (c ∷ bs)))) h

pub unescaped-bare : (b : ℕ) (bs : List ℕ) → (b == 92) ≡ false → is_some (letter_of b) ≡ true → unescaped (b ∷ bs) ≡ None
unescaped-bare b [] e h = ap (λ t. cond t None (Some (b ∷ []))) h
unescaped-bare b (c ∷ bs) e h =
    ap (λ t. cond t (before_text (byte_of c) (unescaped bs)) (cond (is_some (letter_of b)) None (before_text (Some b) (unescaped (c ∷ bs))))) e ∙ ap (λ t. cond t None (before_text (Some b) (unescaped (c ∷ bs)))) h

-- a byte that does not stand after a backslash
pub plain_step : (field out : List ℕ) (i : ℕ) → i < length field → (get_or field i 0 == 92) ≡ false → is_some (letter_of (get_or field i 0)) ≡ false → joined out (rest_of false (drop i field)) ≡ unescaped field → joined (out ++ get_or field i 0 ∷ []) (rest_of false (drop (i + 1) field)) ≡ unescaped field
plain_step field out i lt e h inv =
    sym (joined-before out (get_or field i 0) (unescaped (drop (i + 1) field))) ∙ ap (joined out) (sym (unescaped-plain (get_or field i 0) (drop (i + 1) field) e h)) ∙ ap (joined out) (sym (at_drop_more unescaped field i 0 lt)) ∙ inv

pub bare_step : (field out : List ℕ) (i : ℕ) → i < length field → (get_or field i 0 == 92) ≡ false → is_some (letter_of (get_or field i 0)) ≡ true → joined out (rest_of false (drop i field)) ≡ unescaped field → unescaped field ≡ None
bare_step field out i lt e h inv =
    sym inv ∙ ap (joined out) (at_drop_more unescaped field i 0 lt ∙ unescaped-bare (get_or field i 0) (drop (i + 1) field) e h)

pub backslash_step : (field out : List ℕ) (i : ℕ) → i < length field → get_or field i 0 ≡ 92 → joined out (rest_of false (drop i field)) ≡ unescaped field → joined out (rest_of true (drop (i + 1) field)) ≡ unescaped field
backslash_step field out i lt e inv =
    ap (joined out) (sym (unescaped-backslash (drop (i + 1) field)) ∙ ap (λ b. unescaped (b ∷ drop (i + 1) field)) (sym e) ∙ sym (at_drop_more unescaped field i 0 lt)) ∙ inv

pub escaped_step : (field out : List ℕ) (i b : ℕ) → i < length field → byte_of (get_or field i 0) ≡ Some b → joined out (rest_of true (drop i field)) ≡ unescaped field → joined (out ++ b ∷ []) (rest_of false (drop (i + 1) field)) ≡ unescaped field
escaped_step field out i b lt e inv =
    sym (joined-before out b (unescaped (drop (i + 1) field))) ∙ ap (λ o. joined out (before_text o (unescaped (drop (i + 1) field)))) (sym e) ∙ ap (joined out) (sym (at_drop_more (rest_of true) field i 0 lt)) ∙ inv

pub unknown_step : (field out : List ℕ) (i : ℕ) → i < length field → byte_of (get_or field i 0) ≡ None → joined out (rest_of true (drop i field)) ≡ unescaped field → unescaped field ≡ None
unknown_step field out i lt e inv =
    sym inv ∙ ap (joined out) (at_drop_more (rest_of true) field i 0 lt ∙ ap (λ o. before_text o (unescaped (drop (i + 1) field))) e)

-- one more field of a line
pub text_step : (fields out : List (List ℕ)) (i : ℕ) (t : List ℕ) → i < length fields → text_of (get_or fields i []) ≡ Some t → joined out (all_texts (drop i fields)) ≡ all_texts fields → joined (out ++ t ∷ []) (all_texts (drop (i + 1) fields)) ≡ all_texts fields
text_step fields out i t lt e inv =
    sym (joined-before_texts out t (all_texts (drop (i + 1) fields))) ∙ ap (λ o. joined out (before_texts o (all_texts (drop (i + 1) fields)))) (sym e) ∙ ap (joined out) (sym (at_drop_more all_texts fields i [] lt)) ∙ inv

pub no_text_step : (fields out : List (List ℕ)) (i : ℕ) → i < length fields → text_of (get_or fields i []) ≡ None → joined out (all_texts (drop i fields)) ≡ all_texts fields → all_texts fields ≡ None
no_text_step fields out i lt e inv =
    sym inv ∙ ap (joined out) (at_drop_more all_texts fields i [] lt ∙ ap (λ o. before_texts o (all_texts (drop (i + 1) fields))) e)

-- the loop's invariant, at equal values
pub same_read : (field out more : List ℕ) (flag next : Bool) (i : ℕ) → more ≡ out → next ≡ flag → joined out (rest_of flag (drop i field)) ≡ unescaped field → joined more (rest_of next (drop i field)) ≡ unescaped field
same_read field out more flag next i e f inv =
    ap (λ o. joined o (rest_of next (drop i field))) e ∙ ap (λ b. joined out (rest_of b (drop i field))) f ∙ inv

-- where the field ends
pub read_all : (field out : List ℕ) (i : ℕ) → length field ≤ i → joined out (rest_of false (drop i field)) ≡ unescaped field → unescaped field ≡ Some out
read_all field out i h inv = sym inv ∙ ap (λ bs. joined out (unescaped bs)) (drop_all i field h) ∙ ap Some (append-nil out)

pub cut_short : (field out : List ℕ) (i : ℕ) → length field ≤ i → joined out (rest_of true (drop i field)) ≡ unescaped field → unescaped field ≡ None
cut_short field out i h inv = sym inv ∙ ap (λ bs. joined out (rest_of true bs)) (drop_all i field h)

pub all_read : (fields out : List (List ℕ)) (i : ℕ) → length fields ≤ i → joined out (all_texts (drop i fields)) ≡ all_texts fields → all_texts fields ≡ Some out
all_read fields out i h inv = sym inv ∙ ap (λ bs. joined out (all_texts bs)) (drop_all i fields h) ∙ ap Some (append-nil out)

-- a byte that no letter is written for
no-letter : (b : ℕ) → is_none (letter_of b) ≡ true → is_some (letter_of b) ≡ false
no-letter b h = by (letter_of b) h
  where
    by : (o : Option ℕ) → is_none o ≡ true → is_some o ≡ false
    by None h = refl
    by (Some l) h = cc

no-backslash : (b : ℕ) → is_none (letter_of b) ≡ true → (b == 92) ≡ false
no-backslash b h = by (b == 92) refl
  where
    by : (t : Bool) → (b == 92) ≡ t → t ≡ false
    by true e = let no : is_none (letter_of b) ≡ false = ap (λ n. is_none (letter_of n)) (eqb-true b 92 e) in cc
    by false e = refl

both : (p q : Bool) → (p && q) ≡ true → (p ≡ true) × (q ≡ true)
both true true h = (refl, refl)
both true false h = cc
both false q h = cc

-- whether no letter is written for any of these bytes
abbrev pub all_plain : List ℕ → Bool
all_plain bytes = list_all (λ b. is_none (letter_of b)) bytes

unescaped-all : (field : List ℕ) → all_plain field ≡ true → unescaped field ≡ Some field
unescaped-all [] h = refl
unescaped-all (b ∷ bs) h =
    let here = both (is_none (letter_of b)) (all_plain bs) h in
    unescaped-plain b bs (no-backslash b here.0) (no-letter b here.0) ∙ ap (before_text (Some b)) (unescaped-all bs here.1)

-- a field of such bytes writes them
pub own-text : (field : List ℕ) → all_plain field ≡ true → IsTrue (not (length field == 0)) → text_of field ≡ Some field
own-text [] h some = cc
own-text (b ∷ bs) h some = by (bytes_eq (b ∷ bs) empty_field) refl
  where
    by : (t : Bool) → bytes_eq (b ∷ bs) empty_field ≡ t → (if t then Some [] else unescaped (b ∷ bs)) ≡ Some (b ∷ bs)
    by true e =
        let here = both (is_none (letter_of b)) (all_plain bs) h in
        let same : b ∷ bs ≡ empty_field = (bytes_eq-Decides (b ∷ bs) empty_field).0 e in
        let first : b ≡ 92 = cc in
        let yes : is_none (letter_of b) ≡ true = here.0 in
        let no : is_none (letter_of b) ≡ false = ap (λ n. is_none (letter_of n)) first in
        cc
    by false e = unescaped-all (b ∷ bs) h
