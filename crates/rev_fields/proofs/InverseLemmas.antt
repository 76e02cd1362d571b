-- Fields and the texts that they write: each is told by the other.
use Rattle.std.proofs.Common.{◌≡◌, ℕ, true, false, cond, ◌==◌, List, [], ◌∷◌, ◌++◌, refl, ap, ◌∙◌, sym, arith, Option, Some, None, inl, inr, ◌⊎◌}
use Rattle.std.proofs.lemmas.Bool.{cases_Bool, ne_eqb, eqb-true}
use Rattle.std.proofs.lemmas.Bool.Decides.{nat_tests}
use Rattle.std.proofs.lemmas.Slice.Eq.{bytes_eq-Decides}
use Rattle.std.specs.List.{flat_map}
use Rattle.std.specs.Option.{is_some}
use Rattle.std.specs.Str.{bytes_eq}
use Rattle.std.specs.Global.{Vec}
use Rattle.std.specs.Prelude.{Result, Ok, Err}
use Rattle.std.specs.Option.{ok_or}
use Rattle.std.specs.Result.{IfOk}
use Rattle.rev_fields.specs.declared.faults.FaultKind.TheVariants.{Syntax}
use Rattle.rev_fields.specs.declared.faults.LineFault.{LineFault}
use Rattle.rev_fields.specs.Faults.{Answers}
use Rattle.rev_fields.proofs.AnswerLemmas.{some_from_ok_or}
use Rattle.rev_fields.specs.Fields.{letter_of, byte_of, before_text, empty_field, field_text, unescaped, text_of, written_as, written_byte}
use Rattle.rev_fields.proofs.FieldLemmas.{unescaped-plain, unescaped-bare}

byte_of-letter : (b l : ℕ) → letter_of b ≡ Some l → byte_of l ≡ Some b
byte_of-letter b l h = grind (arith, nat_tests)

letter_of-byte : (l b : ℕ) → byte_of l ≡ Some b → letter_of b ≡ Some l
letter_of-byte l b h = grind (arith, nat_tests)

not_backslash : (b : ℕ) → letter_of b ≡ None → (b == 92) ≡ false
not_backslash b h = ne_eqb b 92 (λ e. let never : Some 92 ≡ None = sym (ap letter_of e) ∙ h in cc)

-- a byte as it is written, before others
unescaped-byte : (b : ℕ) (bs : List ℕ) (o : Option ℕ) → letter_of b ≡ o → unescaped (written_as b o ++ bs) ≡ before_text (Some b) (unescaped bs)
unescaped-byte b bs None h = unescaped-plain b bs (not_backslash b h) (ap is_some h)
unescaped-byte b bs (Some l) h = ap (λ o. before_text o (unescaped bs)) (byte_of-letter b l h)

unescaped-written : (text : List ℕ) → unescaped (flat_map written_byte text) ≡ Some text
unescaped-written [] = refl
unescaped-written (b ∷ bs) = unescaped-byte b (flat_map written_byte bs) (letter_of b) refl ∙ ap (before_text (Some b)) (unescaped-written bs)

text_of-unescaped : (field : List ℕ) (b : ℕ) (bs : List ℕ) → unescaped field ≡ Some (b ∷ bs) → text_of field ≡ Some (b ∷ bs)
text_of-unescaped [] b bs h = let never : Some [] ≡ Some (b ∷ bs) = h in cc
text_of-unescaped (c ∷ cs) b bs h =
    elim (cases_Bool (bytes_eq (c ∷ cs) empty_field)) [
      | inl same ↦
          let is = (bytes_eq-Decides (c ∷ cs) empty_field).0 same in
          let never : None ≡ Some (b ∷ bs) = sym (ap unescaped is) ∙ h in cc
      | inr other ↦ ap (λ t. cond t (Some []) (unescaped (c ∷ cs))) other ∙ h
    ]

-- reading a written field gives its text
pub text_of-field_text : (text : List ℕ) → text_of (field_text text) ≡ Some text
text_of-field_text [] = refl
text_of-field_text (b ∷ bs) = text_of-unescaped (flat_map written_byte (b ∷ bs)) b bs (unescaped-written (b ∷ bs))

written_plain : (b : ℕ) → letter_of b ≡ None → written_byte b ≡ b ∷ []
written_plain b h = ap (written_as b) h

none_from_is_some : (o : Option ℕ) → is_some o ≡ false → o ≡ None
none_from_is_some None h = refl
none_from_is_some (Some x) h = let never : true ≡ false = h in cc

before_text-some : (o : Option ℕ) (rest : Option (List ℕ)) (text : List ℕ) → before_text o rest ≡ Some text → (b : ℕ) × (bs : List ℕ) × (o ≡ Some b) × (rest ≡ Some bs) × (text ≡ b ∷ bs)
before_text-some None rest text h = let never : None ≡ Some text = h in absurd (cc)
before_text-some (Some b) None text h = let never : None ≡ Some text = h in absurd (cc)
before_text-some (Some b) (Some bs) text h = let same : Some (b ∷ bs) ≡ Some text = h in (b, bs, refl, refl, cc)

-- a field, one byte at a time
written-step : (b : ℕ) (field : List ℕ) (text : List ℕ) → letter_of b ≡ None → (rest : List ℕ) → flat_map written_byte rest ≡ field → text ≡ b ∷ rest → flat_map written_byte text ≡ b ∷ field
written-step b field text h rest e is = ap (flat_map written_byte) is ∙ ap (λ w. w ++ flat_map written_byte rest) (written_plain b h) ∙ ap (λ l. b ∷ l) e

written-escaped : (b l : ℕ) (field : List ℕ) (text : List ℕ) → letter_of b ≡ Some l → (rest : List ℕ) → flat_map written_byte rest ≡ field → text ≡ b ∷ rest → flat_map written_byte text ≡ 92 ∷ l ∷ field
written-escaped b l field text h rest e is = ap (flat_map written_byte) is ∙ ap (λ o. written_as b o ++ flat_map written_byte rest) h ∙ ap (λ f. 92 ∷ l ∷ f) e

last_byte : (b : ℕ) (text : List ℕ) → unescaped (b ∷ []) ≡ Some text → (is_some (letter_of b) ≡ true) ⊎ (is_some (letter_of b) ≡ false) → flat_map written_byte text ≡ b ∷ []
last_byte b text h (inl bare) = let never : None ≡ Some text = sym (ap (λ t. cond t None (Some (b ∷ []))) bare) ∙ h in absurd (cc)
last_byte b text h (inr stands) =
    let same : Some (b ∷ []) ≡ Some text = sym (ap (λ t. cond t None (Some (b ∷ []))) stands) ∙ h in
    let is : text ≡ b ∷ [] = cc in
    ap (flat_map written_byte) is ∙ ap (λ w. w ++ []) (written_plain b (none_from_is_some (letter_of b) stands))

written-unescaped : (field text : List ℕ) → unescaped field ≡ Some text → flat_map written_byte text ≡ field
written-unescaped [] text h = let same : Some [] ≡ Some text = h in let is : text ≡ [] = cc in ap (flat_map written_byte) is
written-unescaped (b ∷ []) text h = last_byte b text h (cases_Bool (is_some (letter_of b)))
written-unescaped (b ∷ c ∷ cs) text h =
    elim (cases_Bool (b == 92)) [
      | inl backslash ↦
          let parts = before_text-some (byte_of c) (unescaped cs) text (sym (ap (λ t. cond t (before_text (byte_of c) (unescaped cs)) (cond (is_some (letter_of b)) None (before_text (Some b) (unescaped (c ∷ cs))))) backslash) ∙ h) in
          written-escaped parts.0 c cs text (letter_of-byte c parts.0 parts.2) parts.1 (written-unescaped cs parts.1 parts.3) parts.4 ∙ ap (λ x. x ∷ c ∷ cs) (sym (eqb-true b 92 backslash))
      | inr plain ↦
          elim (cases_Bool (is_some (letter_of b))) [
            | inl bare ↦ let never : None ≡ Some text = sym (unescaped-bare b (c ∷ cs) plain bare) ∙ h in absurd (cc)
            | inr stands ↦
                let parts = before_text-some (Some b) (unescaped (c ∷ cs)) text (sym (unescaped-plain b (c ∷ cs) plain stands) ∙ h) in
                let same : Some b ≡ Some parts.0 = parts.2 in
                let first : b ≡ parts.0 = cc in
                written-step b (c ∷ cs) text (none_from_is_some (letter_of b) stands) parts.1 (written-unescaped (c ∷ cs) parts.1 parts.3) (parts.4 ∙ ap (λ x. x ∷ parts.1) (sym first))
          ]
    ]

filled : (b : ℕ) (bs text : List ℕ) → flat_map written_byte text ≡ b ∷ bs → field_text text ≡ b ∷ bs
filled b bs [] h = let never : [] ≡ b ∷ bs = h in absurd (cc)
filled b bs (c ∷ cs) h = h

-- a field that writes a text is the one that is written for it
pub field_text-text_of : (field text : List ℕ) → text_of field ≡ Some text → field_text text ≡ field
field_text-text_of [] text h = let never : None ≡ Some text = h in absurd (cc)
field_text-text_of (b ∷ bs) text h =
    elim (cases_Bool (bytes_eq (b ∷ bs) empty_field)) [
      | inl same ↦
          let is : Some [] ≡ Some text = sym (ap (λ t. cond t (Some []) (unescaped (b ∷ bs))) same) ∙ h in
          let empty : text ≡ [] = cc in
          ap field_text empty ∙ sym ((bytes_eq-Decides (b ∷ bs) empty_field).0 same)
      | inr other ↦ filled b bs text (written-unescaped (b ∷ bs) text (sym (ap (λ t. cond t (Some []) (unescaped (b ∷ bs))) other) ∙ h))
    ]

-- what is read of a field is written as that field
pub only_field : (r : Result (Vec ℕ) LineFault) (field : List ℕ) → Answers r (λ text. text.items) (ok_or (text_of field) Syntax) → IfOk r (λ text. field_text text.items ≡ field)
only_field (Ok text) field said = field_text-text_of field text.items (some_from_ok_or (text_of field) text.items said)
only_field (Err fault) field said = tt
