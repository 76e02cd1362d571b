-- The texts of a rule, by the place of a name.
use Rattle.std.proofs.Common.{◌≡◌, ℕ, suc, ◌+◌, ◌<◌, Bool, true, false, not, cond, List, [], ◌∷◌, ◌++◌, length, get_or, Some, None, bytes_eq, position, nat_lt, if◌then◌else◌, refl, sym, ap, ◌∙◌, arith}
use Rattle.std.specs.List.{position_or_len}
use Rattle.std.proofs.Math.ListN.{set}
use Rattle.std.proofs.lemmas.Bool.{ltb-true, ltb-false}
use Rattle.std.proofs.lemmas.List.Sums.{prefix_len-le-length}
use Rattle.std.proofs.lemmas.Slice.Eq.{bytes_eq-Decides}
use Rattle.rev_scopes.specs.declared.rule.RuleText.{RuleText}
use Rattle.rev_scopes.specs.RuleNames.{name_of}
use Rattle.rev_scopes.specs.Bindings.{value_of, bound}
use Rattle.rev_scopes.specs.Seen.{seen_text, seen_texts}

abbrev pub is_named : List ℕ → RuleText → Bool
is_named name text = bytes_eq name (name_of text.variable)

pub first_place : {A : Type 0} (p : A → Bool) (xs : List A) (i : ℕ) → position p xs ≡ Some i → (position_or_len p xs ≡ i) × (i < length xs)
first_place p xs i e = by (nat_lt (position_or_len p xs) (length xs)) refl e
  where
    by : (b : Bool) → nat_lt (position_or_len p xs) (length xs) ≡ b → cond b (Some (position_or_len p xs)) None ≡ Some i → (position_or_len p xs ≡ i) × (i < length xs)
    by true h e =
        let at : position_or_len p xs ≡ i = cc in
        let within : position_or_len p xs < length xs = ltb-true (position_or_len p xs) (length xs) h in
        (at, omega arith)
    by false h e = cc

pub no_place : {A : Type 0} (p : A → Bool) (xs : List A) → position p xs ≡ None → position_or_len p xs ≡ length xs
no_place p xs e = by (nat_lt (position_or_len p xs) (length xs)) refl e
  where
    by : (b : Bool) → nat_lt (position_or_len p xs) (length xs) ≡ b → cond b (Some (position_or_len p xs)) None ≡ None → position_or_len p xs ≡ length xs
    by true h e = cc
    by false h e = omega (arith, ltb-false (position_or_len p xs) (length xs) h, prefix_len-le-length (λ x. not (p x)) xs)

one_more : (n : ℕ) → 1 + n ≡ suc n
one_more n = omega arith

-- the text at the first place of a name is what the rule binds it to
pub text_at : (name : List ℕ) (texts : List RuleText) (d : RuleText) → position_or_len (is_named name) texts < length texts
    → value_of name (seen_texts texts) ≡ Some (get_or texts (position_or_len (is_named name) texts) d).text
text_at name [] d h = absurd (omega arith)
text_at name (x ∷ xs) d h = by (is_named name x) (text_at name xs d) h
  where
    n : ℕ
    n = position_or_len (is_named name) xs

    by : (b : Bool) → (n < length xs → value_of name (seen_texts xs) ≡ Some (get_or xs n d).text) → cond (not b) (1 + n) 0 < length (x ∷ xs)
        → (if b then Some x.text else value_of name (seen_texts xs)) ≡ Some (get_or (x ∷ xs) (cond (not b) (1 + n) 0) d).text
    by true later h = refl
    by false later h = later (omega arith) ∙ ap (λ k. Some (get_or (x ∷ xs) k d).text) (sym (one_more n))

-- a name that has no place is bound to nothing
pub no_text : (name : List ℕ) (texts : List RuleText) → position_or_len (is_named name) texts ≡ length texts → value_of name (seen_texts texts) ≡ None
no_text name [] h = refl
no_text name (x ∷ xs) h = by (is_named name x) (no_text name xs) h
  where
    n : ℕ
    n = position_or_len (is_named name) xs

    by : (b : Bool) → (n ≡ length xs → value_of name (seen_texts xs) ≡ None) → cond (not b) (1 + n) 0 ≡ length (x ∷ xs) → (if b then Some x.text else value_of name (seen_texts xs)) ≡ None
    by true later h = absurd (omega arith)
    by false later h = later (omega arith)

-- another text at the first place of a name
pub bound_at : (text : RuleText) (texts : List RuleText) → position_or_len (is_named (name_of text.variable)) texts < length texts
    → seen_texts (set texts (position_or_len (is_named (name_of text.variable)) texts) text) ≡ bound (name_of text.variable) text.text (seen_texts texts)
bound_at text [] h = absurd (omega arith)
bound_at text (x ∷ xs) h = by (is_named name x) refl (bound_at text xs) h
  where
    name : List ℕ
    name = name_of text.variable

    n : ℕ
    n = position_or_len (is_named name) xs

    by : (b : Bool) → is_named name x ≡ b → (n < length xs → seen_texts (set xs n text) ≡ bound name text.text (seen_texts xs)) → cond (not b) (1 + n) 0 < length (x ∷ xs)
        → seen_texts (set (x ∷ xs) (cond (not b) (1 + n) 0) text) ≡ (if b then (name_of x.variable, text.text) ∷ seen_texts xs else seen_text x ∷ bound name text.text (seen_texts xs))
    by true e later h = ap (λ m. (m, text.text) ∷ seen_texts xs) ((bytes_eq-Decides name (name_of x.variable)).0 e)
    by false e later h = ap (λ k. seen_texts (set (x ∷ xs) k text)) (one_more n) ∙ ap (λ t. seen_text x ∷ t) (later (omega arith))

-- a text of a name that has no place goes last
pub bound_new : (text : RuleText) (texts : List RuleText) → position_or_len (is_named (name_of text.variable)) texts ≡ length texts
    → seen_texts (texts ++ text ∷ []) ≡ bound (name_of text.variable) text.text (seen_texts texts)
bound_new text [] h = refl
bound_new text (x ∷ xs) h = by (is_named name x) (bound_new text xs) h
  where
    name : List ℕ
    name = name_of text.variable

    n : ℕ
    n = position_or_len (is_named name) xs

    by : (b : Bool) → (n ≡ length xs → seen_texts (xs ++ text ∷ []) ≡ bound name text.text (seen_texts xs)) → cond (not b) (1 + n) 0 ≡ length (x ∷ xs)
        → seen_text x ∷ seen_texts (xs ++ text ∷ []) ≡ (if b then (name_of x.variable, text.text) ∷ seen_texts xs else seen_text x ∷ bound name text.text (seen_texts xs))
    by true later h = absurd (omega arith)
    by false later h = ap (λ t. seen_text x ∷ t) (later (omega arith))
