-- Texts read byte by byte.
use Rattle.std.proofs.Common.{◌≡◌, ℕ, zero, suc, ◌+◌, ◌==◌, Bool, true, false, not, ◌||◌, List, [], ◌∷◌, ◌++◌, cond, Option, Some, None, Result, Ok, Err, length, take, drop, refl, sym, ap, ◌∙◌, arith, if◌then◌else◌}
use Rattle.std.specs.List.{take_while, prefix_len}
use Rattle.rev_syntax.specs.declared.fault.SyntaxKind.{SyntaxKind}
use Rattle.rev_syntax.specs.declared.fault.SyntaxKind.TheVariants.{Syntax, BadEscape}
use Rattle.rev_syntax.specs.Bytes.{is_in_name, is_in_bare_name, after, begins_with}
use Rattle.rev_syntax.specs.Grammar.{is_run}
use Rattle.rev_syntax.specs.Texts.{Byte, Variable, EscapeValue, is_no_text, is_escaped, bare, braced, escape_of, fault_after, text_fault, fault_of}
use Rattle.rev_syntax.proofs.GrammarLemmas.{both, other}
use Rattle.rev_syntax.proofs.RefusalLemmas.{Form, AByte, AName, InBraces, form-of}

-- where a text stands behind some of its bytes: outside of escapes, behind a `$`, behind `${`, or in the name behind it
pub data Escape : Type 0 where
  Outside : Escape
  Dollar : Escape
  Brace : Escape
  Named : Escape

abbrev pub estep : Escape → ℕ → Result Escape SyntaxKind
estep Outside b = if b == 36 then Ok Dollar else (if is_no_text b then Err Syntax else Ok Outside)
estep Dollar b =
    if is_escaped b then Ok Outside else (if b == 123 then Ok Brace else (if is_in_bare_name b then Ok Outside else Err BadEscape))
estep Brace b = if is_in_name b then Ok Named else Err BadEscape
estep Named b = if is_in_name b then Ok Named else (if b == 125 then Ok Outside else Err BadEscape)

abbrev pub tnext : Result Escape SyntaxKind → (Escape → Option SyntaxKind) → Option SyntaxKind
tnext (Ok e) next = next e
tnext (Err kind) next = Some kind

abbrev pub unfinished : Escape → Option SyntaxKind
unfinished Outside = None
unfinished Dollar = Some BadEscape
unfinished Brace = Some BadEscape
unfinished Named = Some BadEscape

-- the fault of a text from there on
abbrev pub tfault : Escape → List ℕ → Option SyntaxKind
tfault e [] = unfinished e
tfault e (b ∷ bs) = tnext (estep e b) (λ next. tfault next bs)

-- names
bare-run : (name rest : List ℕ) → is_run is_in_bare_name name ≡ true → tfault Outside (name ++ rest) ≡ tfault Outside rest
bare-run [] rest h = refl
bare-run (b ∷ bs) rest h =
    let parts = both (is_in_bare_name b) (is_run is_in_bare_name bs) h in
    ap (λ t. tnext (if t then Ok Dollar else (if is_no_text b then Err Syntax else Ok Outside)) (λ next. tfault next (bs ++ rest))) (other b 36 parts.0 refl)
    ∙ (λ i. tnext (if other b 0 parts.0 refl i || other b 13 parts.0 refl i then Err Syntax else Ok Outside) (λ next. tfault next (bs ++ rest)))
    ∙ bare-run bs rest parts.1

named-run : (name rest : List ℕ) → is_run is_in_name name ≡ true → tfault Named (name ++ rest) ≡ tfault Named rest
named-run [] rest h = refl
named-run (b ∷ bs) rest h =
    let parts = both (is_in_name b) (is_run is_in_name bs) h in
    ap (λ t. tnext (if t then Ok Named else (if b == 125 then Ok Outside else Err BadEscape)) (λ next. tfault next (bs ++ rest))) parts.0
    ∙ named-run bs rest parts.1

-- a `$` with an escape behind it
escaped : {bs : List ℕ} {e : EscapeValue} → Form bs e → tfault Dollar bs ≡ tfault Outside (drop e.taken bs)
escaped {bs} {e} (AByte c text h w left is) =
    ap (tfault Dollar) (sym w)
    ∙ ap (λ t. tnext (if t then Ok Outside else (if c == 123 then Ok Brace else (if is_in_bare_name c then Ok Outside else Err BadEscape))) (λ next. tfault next text)) h
    ∙ ap (tfault Outside) (sym left)
escaped {bs} {e} (AName [] text h ends w left is) = cc
escaped {bs} {e} (AName (c ∷ cs) text h ends w left is) =
    let parts = both (is_in_bare_name c) (is_run is_in_bare_name cs) h in
    let more = cs ++ text in
    ap (tfault Dollar) (sym w)
    ∙ (λ i. tnext (if other c 36 parts.0 refl i || other c 32 parts.0 refl i || other c 58 parts.0 refl i then Ok Outside
    else (if other c 123 parts.0 refl i then Ok Brace else (if parts.0 i then Ok Outside else Err BadEscape))) (λ next. tfault next more))
    ∙ bare-run cs text parts.1 ∙ ap (tfault Outside) (sym left)
escaped {bs} {e} (InBraces [] text h w left is) = cc
escaped {bs} {e} (InBraces (c ∷ cs) text h w left is) =
    let parts = both (is_in_name c) (is_run is_in_name cs) h in
    ap (tfault Dollar) (sym w)
    ∙ ap (λ t. tnext (if t then Ok Named else Err BadEscape) (λ next. tfault next (cs ++ 125 ∷ text))) parts.0
    ∙ named-run cs (125 ∷ text) parts.1 ∙ ap (tfault Outside) (sym left)

-- a `$` with none
one-more : (n : ℕ) → 1 + n ≡ suc n
one-more n = omega arith

unclosed : (cs : List ℕ) → begins_with 125 (after is_in_name cs) ≡ false → tfault Named cs ≡ Some BadEscape
unclosed [] h = refl
unclosed (b ∷ bs) h = by (is_in_name b) refl h (unclosed bs)
  where
    by : (t : Bool) → is_in_name b ≡ t → begins_with 125 (drop (cond t (1 + prefix_len is_in_name bs) 0) (b ∷ bs)) ≡ false
        → (begins_with 125 (after is_in_name bs) ≡ false → tfault Named bs ≡ Some BadEscape)
        → tnext (if t then Ok Named else (if b == 125 then Ok Outside else Err BadEscape)) (λ next. tfault next bs) ≡ Some BadEscape
    by true e h rest = rest (sym (ap (λ n. begins_with 125 (drop n (b ∷ bs))) (one-more (prefix_len is_in_name bs))) ∙ h)
    by false e h rest = ap (λ t. tnext (if t then Ok Outside else Err BadEscape) (λ next. tfault next bs)) h

abbrev in_braces : List ℕ → EscapeValue
in_braces name = record { piece = Variable name; taken = length name + 2 }

not-closed : (name rest : List ℕ) (c : ℕ) → braced (c ∷ name) rest ≡ None → begins_with 125 rest ≡ false
not-closed name rest c h = by (begins_with 125 rest) h
  where
    by : (t : Bool) → (if not t then None else Some (in_braces (c ∷ name))) ≡ None → t ≡ false
    by true h = cc
    by false h = refl

no-braces : (cs : List ℕ) → braced (take_while is_in_name cs) (after is_in_name cs) ≡ None → tfault Brace cs ≡ Some BadEscape
no-braces [] h = refl
no-braces (c ∷ cs) h = by (is_in_name c) refl h
  where
    by : (t : Bool) → is_in_name c ≡ t → braced (take (cond t (1 + prefix_len is_in_name cs) 0) (c ∷ cs)) (drop (cond t (1 + prefix_len is_in_name cs) 0) (c ∷ cs)) ≡ None
        → tnext (if t then Ok Named else Err BadEscape) (λ next. tfault next cs) ≡ Some BadEscape
    by true e h =
        let n = prefix_len is_in_name cs in
        unclosed cs (not-closed (take n cs) (drop n cs) c (sym (ap (λ k. braced (take k (c ∷ cs)) (drop k (c ∷ cs))) (one-more n)) ∙ h))
    by false e h = refl

no-bare : (c : ℕ) (cs : List ℕ) → bare (take_while is_in_bare_name (c ∷ cs)) ≡ None → is_in_bare_name c ≡ false
no-bare c cs h = by (is_in_bare_name c) h
  where
    by : (t : Bool) → bare (take (cond t (1 + prefix_len is_in_bare_name cs) 0) (c ∷ cs)) ≡ None → t ≡ false
    by true h = let no = sym (ap (λ k. bare (take k (c ∷ cs))) (one-more (prefix_len is_in_bare_name cs))) ∙ h in cc
    by false h = refl

unescaped : (bs : List ℕ) → escape_of bs ≡ None → tfault Dollar bs ≡ Some BadEscape
unescaped [] h = refl
unescaped (c ∷ cs) h = by (is_escaped c) (c == 123) refl h
  where
    by : (t u : Bool) → (c == 123) ≡ u
        → (if t then Some (record { piece = Byte c; taken = 1 }) else (if u then braced (take_while is_in_name cs) (after is_in_name cs) else bare (take_while is_in_bare_name (c ∷ cs)))) ≡ None
        → tnext (if t then Ok Outside else (if u then Ok Brace else (if is_in_bare_name c then Ok Outside else Err BadEscape))) (λ next. tfault next cs) ≡ Some BadEscape
    by true u e h = cc
    by false true e h = no-braces cs h
    by false false e h = ap (λ t. tnext (if t then Ok Outside else Err BadEscape) (λ next. tfault next cs)) (no-bare c cs h)

-- the first fault of a text is the one that is met byte by byte
first : (b : ℕ) (bs : List ℕ) → ((k : ℕ) → text_fault k bs ≡ tfault Outside (drop k bs)) → text_fault 0 (b ∷ bs) ≡ tfault Outside (b ∷ bs)
first b bs rest = by (b == 36) (is_no_text b)
  where
    dollar : (o : Option EscapeValue) → escape_of bs ≡ o → fault_after o (λ taken. text_fault taken bs) ≡ tfault Dollar bs
    dollar None e = sym (unescaped bs e)
    dollar (Some escape) e = rest escape.taken ∙ sym (escaped (form-of bs escape e))

    by : (t n : Bool) → (if t then fault_after (escape_of bs) (λ taken. text_fault taken bs) else (if n then Some Syntax else fault_of bs))
        ≡ tnext (if t then Ok Dollar else (if n then Err Syntax else Ok Outside)) (λ next. tfault next bs)
    by true n = dollar (escape_of bs) refl
    by false true = refl
    by false false = rest 0

pub text-steps : (k : ℕ) (text : List ℕ) → text_fault k text ≡ tfault Outside (drop k text)
text-steps zero [] = refl
text-steps (suc k) [] = refl
text-steps (suc k) (b ∷ bs) = text-steps k bs
text-steps zero (b ∷ bs) = first b bs (λ k. text-steps k bs)
