-- Texts against their grammar.
use Rattle.std.proofs.Common.{◌≡◌, ℕ, zero, suc, ◌+◌, Bool, true, false, not, ◌&&◌, ◌||◌, ◌==◌, List, [], ◌∷◌, ◌++◌, length, take, drop, Option, Some, None, refl, sym, ap, subst, ◌∙◌, cond, if◌then◌else◌, arith}
use Rattle.std.specs.List.{take_while, prefix_len}
use Rattle.std.proofs.lemmas.Bool.{eqb-true}
use Rattle.std.proofs.lemmas.List.Folds.{length-prefix_len}
use Rattle.rev_syntax.specs.declared.fault.SyntaxKind.TheVariants.{Syntax}
use Rattle.rev_syntax.specs.Bytes.{is_in_name, is_in_bare_name, after, is_empty}
use Rattle.rev_syntax.specs.Texts.{PieceValue, Byte, Variable, EscapeValue, is_no_text, is_escaped, bare, braced, escape_of, fault_after, text_fault, fault_of, pieces_after, pieces_from, pieces_of}
use Rattle.rev_syntax.specs.Grammar.{is_run, is_name, ends_name, ReadsAs, Nothing, Plain, Escaped, Bare, Braced}
use Rattle.rev_syntax.proofs.PieceLemmas.{text_fault-drop, pieces_from-drop, drop-more}

-- tests of bytes
pub both : (a b : Bool) → (a && b) ≡ true → (a ≡ true) × (b ≡ true)
both true b h = (refl, h)
both false b h = cc

pub not_true : (b : Bool) → not b ≡ true → b ≡ false
not_true true h = cc
not_true false h = refl

-- a byte of a name is no byte that is none
pub other : (c k : ℕ) → is_in_bare_name c ≡ true → is_in_bare_name k ≡ false → (c == k) ≡ false
other c k h none = by (c == k) refl
  where
    by : (t : Bool) → (c == k) ≡ t → t ≡ false
    by false e = refl
    by true e = sym h ∙ ap is_in_bare_name (eqb-true c k e) ∙ none

-- runs of bytes
one-more : (n : ℕ) → 1 + n ≡ suc n
one-more n = omega arith

pub run-len : (test : ℕ → Bool) (name text : List ℕ) → is_run test name ≡ true → prefix_len test text ≡ 0 → prefix_len test (name ++ text) ≡ length name
run-len test [] text h stops = stops
run-len test (b ∷ bs) text h stops =
    let parts = both (test b) (is_run test bs) h in
    ap (λ t. cond t (1 + prefix_len test (bs ++ text)) 0) parts.0 ∙ ap (λ n. 1 + n) (run-len test bs text parts.1 stops) ∙ one-more (length bs)

pub take-front : (name text : List ℕ) → take (length name) (name ++ text) ≡ name
take-front [] text = refl
take-front (b ∷ bs) text = ap (λ t. b ∷ t) (take-front bs text)

pub drop-front : (name text : List ℕ) → drop (length name) (name ++ text) ≡ text
drop-front [] text = refl
drop-front (b ∷ bs) text = drop-front bs text

take-while-front : (test : ℕ → Bool) (name text : List ℕ) → is_run test name ≡ true → prefix_len test text ≡ 0 → take_while test (name ++ text) ≡ name
take-while-front test name text h stops = ap (λ n. take n (name ++ text)) (run-len test name text h stops) ∙ take-front name text

run-stops : (text : List ℕ) → ends_name text ≡ true → prefix_len is_in_bare_name text ≡ 0
run-stops [] h = refl
run-stops (b ∷ bs) h = ap (λ t. cond t (1 + prefix_len is_in_bare_name bs) 0) (not_true (is_in_bare_name b) h)

-- what the grammar reads has no fault, and gives these pieces
read-escape : (rest text : List ℕ) (escape : EscapeValue) (pieces : List PieceValue) → escape_of rest ≡ Some escape → drop escape.taken rest ≡ text
    → (fault_of text ≡ None) × (pieces_of text ≡ pieces) → (fault_of (36 ∷ rest) ≡ None) × (pieces_of (36 ∷ rest) ≡ escape.piece ∷ pieces)
read-escape rest text escape pieces is left h = (
  ap (λ e. fault_after e (λ taken. text_fault taken rest)) is ∙ text_fault-drop escape.taken rest ∙ ap fault_of left ∙ h.0,
  ap (λ e. pieces_after e (λ taken. pieces_from taken rest)) is ∙ ap (λ ps. escape.piece ∷ ps) (pieces_from-drop escape.taken rest ∙ ap pieces_of left ∙ h.1),
)

pub bare-escape : (name text : List ℕ) → is_name is_in_bare_name name ≡ true → ends_name text ≡ true → escape_of (name ++ text) ≡ Some (record { piece = Variable name; taken = length name })
bare-escape [] text h e = cc
bare-escape (c ∷ cs) text h e =
    let parts = both (is_in_bare_name c) (is_run is_in_bare_name cs) h in
    let more = cs ++ text in
    let escaped : Option EscapeValue = Some (record { piece = Byte c; taken = 1 }) in
    let in_braces : Option EscapeValue = braced (take_while is_in_name more) (after is_in_name more) in
    let plain : Option EscapeValue = bare (take_while is_in_bare_name (c ∷ more)) in
    let no_escape : is_escaped c ≡ false = (λ i. other c 36 parts.0 refl i || other c 32 parts.0 refl i || other c 58 parts.0 refl i) in
    let no_brace : (c == 123) ≡ false = other c 123 parts.0 refl in
    ap (λ t. if t then escaped else (if c == 123 then in_braces else plain)) no_escape
    ∙ ap (λ t. if t then in_braces else plain) no_brace
    ∙ ap bare (take-while-front is_in_bare_name (c ∷ cs) text h (run-stops text e))

plus-two : (n : ℕ) → n + 2 ≡ suc (suc n)
plus-two n = omega arith

braced-named : (name text : List ℕ) → is_empty name ≡ false → braced name (125 ∷ text) ≡ Some (record { piece = Variable name; taken = length name + 2 })
braced-named [] text h = cc
braced-named (b ∷ bs) text h = refl

pub braced-escape : (name text : List ℕ) → is_name is_in_name name ≡ true → escape_of (123 ∷ name ++ 125 ∷ text) ≡ Some (record { piece = Variable name; taken = length name + 2 })
braced-escape name text h =
    let parts = both (not (is_empty name)) (is_run is_in_name name) h in
    let rest = name ++ 125 ∷ text in
    let len : prefix_len is_in_name rest ≡ length name = run-len is_in_name name (125 ∷ text) parts.1 refl in
    (λ i. braced (take (len i) rest) (drop (len i) rest))
    ∙ (λ i. braced (take-front name (125 ∷ text) i) (drop-front name (125 ∷ text) i))
    ∙ braced-named name text (not_true (is_empty name) parts.0)

given : {raw : List ℕ} {pieces : List PieceValue} → ReadsAs raw pieces → (fault_of raw ≡ None) × (pieces_of raw ≡ pieces)
given Nothing = (refl, refl)
given (Plain {b} {text} {pieces} h r) =
    let parts = both (not (b == 36)) (not (is_no_text b)) h in
    let no_dollar : (b == 36) ≡ false = not_true (b == 36) parts.0 in
    let text_byte : is_no_text b ≡ false = not_true (is_no_text b) parts.1 in
    let rest = given r in (
      ap (λ t. if t then fault_after (escape_of text) (λ taken. text_fault taken text) else (if is_no_text b then Some Syntax else fault_of text)) no_dollar
          ∙ ap (λ t. if t then Some Syntax else fault_of text) text_byte ∙ rest.0,
      ap (λ t. if t then pieces_after (escape_of text) (λ taken. pieces_from taken text) else Byte b ∷ pieces_of text) no_dollar ∙ ap (λ ps. Byte b ∷ ps) rest.1,
    )
given (Escaped {b} {text} {pieces} h r) =
    read-escape (b ∷ text) text (record { piece = Byte b; taken = 1 }) pieces
    (ap (λ t. if t then Some (record { piece = Byte b; taken = 1 })
    else (if b == 123 then braced (take_while is_in_name text) (after is_in_name text) else bare (take_while is_in_bare_name (b ∷ text)))) h) refl (given r)
given (Bare name {text} {pieces} h e r) =
    read-escape (name ++ text) text (record { piece = Variable name; taken = length name }) pieces (bare-escape name text h e) (drop-front name text) (given r)
given (Braced name {text} {pieces} h r) =
    read-escape (123 ∷ name ++ 125 ∷ text) text (record { piece = Variable name; taken = length name + 2 }) pieces (braced-escape name text h)
    (ap (λ n. drop n (123 ∷ name ++ 125 ∷ text)) (plus-two (length name)) ∙ drop-more (length name) 125 (name ++ 125 ∷ text) text (drop-front name (125 ∷ text))) (given r)

-- what has no fault is what the grammar reads
pub take_drop : (n : ℕ) (xs : List ℕ) → take n xs ++ drop n xs ≡ xs
take_drop zero xs = refl
take_drop (suc n) [] = refl
take_drop (suc n) (x ∷ xs) = ap (λ t. x ∷ t) (take_drop n xs)

pub run-of : (test : ℕ → Bool) (xs : List ℕ) → is_run test (take_while test xs) ≡ true
run-of test [] = refl
run-of test (b ∷ bs) = by (test b) refl (run-of test bs)
  where
    by : (t : Bool) → test b ≡ t → is_run test (take (prefix_len test bs) bs) ≡ true → is_run test (take (cond t (1 + prefix_len test bs) 0) (b ∷ bs)) ≡ true
    by true e rest = ap (λ n. is_run test (take n (b ∷ bs))) (one-more (prefix_len test bs)) ∙ (λ i. e i && rest i)
    by false e rest = refl

pub run-ends : (text : List ℕ) → ends_name (drop (prefix_len is_in_bare_name text) text) ≡ true
run-ends [] = refl
run-ends (b ∷ bs) = by (is_in_bare_name b) refl (run-ends bs)
  where
    by : (t : Bool) → is_in_bare_name b ≡ t → ends_name (drop (prefix_len is_in_bare_name bs) bs) ≡ true → ends_name (drop (cond t (1 + prefix_len is_in_bare_name bs) 0) (b ∷ bs)) ≡ true
    by true e rest = ap (λ n. ends_name (drop n (b ∷ bs))) (one-more (prefix_len is_in_bare_name bs)) ∙ rest
    by false e rest = ap not e

abbrev escape_or : EscapeValue → Option EscapeValue → EscapeValue
escape_or e None = e
escape_or e (Some f) = f

pub same : (e f : EscapeValue) → Some e ≡ Some f → e ≡ f
same e f h = ap (escape_or e) h

pub bare-is : (name : List ℕ) (e : EscapeValue) → bare name ≡ Some e → (is_empty name ≡ false) × (record { piece = Variable name; taken = length name } ≡ e)
bare-is [] e h = cc
bare-is (b ∷ bs) e h = (refl, same (record { piece = Variable (b ∷ bs); taken = length (b ∷ bs) }) e h)

pub braced-is : (name rest : List ℕ) (e : EscapeValue) → braced name rest ≡ Some e
    → (text : List ℕ) × (rest ≡ 125 ∷ text) × (is_empty name ≡ false) × (record { piece = Variable name; taken = length name + 2 } ≡ e)
braced-is [] rest e h = cc
braced-is (b ∷ bs) [] e h = cc
braced-is (b ∷ bs) (r ∷ rs) e h = by (r == 125) refl h
  where
    by : (t : Bool) → (r == 125) ≡ t → (if not t then None else Some (record { piece = Variable (b ∷ bs); taken = length (b ∷ bs) + 2 })) ≡ Some e
        → (text : List ℕ) × (r ∷ rs ≡ 125 ∷ text) × (false ≡ false) × (record { piece = Variable (b ∷ bs); taken = length (b ∷ bs) + 2 } ≡ e)
    by true d h = (rs, ap (λ x. x ∷ rs) (eqb-true r 125 d), refl, same (record { piece = Variable (b ∷ bs); taken = length (b ∷ bs) + 2 }) e h)
    by false d h = cc

reads-bare : (bs : List ℕ) (e : EscapeValue) (pieces : List PieceValue) → bare (take_while is_in_bare_name bs) ≡ Some e → ReadsAs (drop e.taken bs) pieces → ReadsAs (36 ∷ bs) (e.piece ∷ pieces)
reads-bare bs e pieces h r =
    let n = prefix_len is_in_bare_name bs in
    let name = take_while is_in_bare_name bs in
    let is = bare-is name e h in
    let left : drop e.taken bs ≡ drop n bs = ap (λ (f : EscapeValue). drop f.taken bs) (sym is.1) ∙ ap (λ k. drop k bs) (length-prefix_len is_in_bare_name bs) in
    let named : is_name is_in_bare_name name ≡ true = (λ i. not (is.0 i) && run-of is_in_bare_name bs i) in
    let read : ReadsAs (36 ∷ name ++ drop n bs) (Variable name ∷ pieces) = Bare name named (run-ends bs) (subst (λ (t : List ℕ). ReadsAs t pieces) left r) in
    subst (λ (t : List ℕ). ReadsAs (36 ∷ t) (e.piece ∷ pieces)) (take_drop n bs) (subst (λ (f : EscapeValue). ReadsAs (36 ∷ name ++ drop n bs) (f.piece ∷ pieces)) is.1 read)

reads-braced : (bs : List ℕ) (e : EscapeValue) (pieces : List PieceValue) → braced (take_while is_in_name bs) (after is_in_name bs) ≡ Some e
    → ReadsAs (drop e.taken (123 ∷ bs)) pieces → ReadsAs (36 ∷ 123 ∷ bs) (e.piece ∷ pieces)
reads-braced bs e pieces h r =
    let n = prefix_len is_in_name bs in
    let name = take_while is_in_name bs in
    let is = braced-is name (after is_in_name bs) e h in
    let text = is.0 in
    let rest : drop n bs ≡ 125 ∷ text = is.1 in
    let left : drop e.taken (123 ∷ bs) ≡ text =
    ap (λ (f : EscapeValue). drop f.taken (123 ∷ bs)) (sym is.3)
    ∙ ap (λ k. drop k (123 ∷ bs)) (ap (λ k. k + 2) (length-prefix_len is_in_name bs) ∙ plus-two n) ∙ drop-more n 125 bs text rest in
    let named : is_name is_in_name name ≡ true = (λ i. not (is.2 i) && run-of is_in_name bs i) in
    let read : ReadsAs (36 ∷ 123 ∷ name ++ 125 ∷ text) (Variable name ∷ pieces) = Braced name named (subst (λ (t : List ℕ). ReadsAs t pieces) left r) in
    subst (λ (t : List ℕ). ReadsAs (36 ∷ 123 ∷ t) (e.piece ∷ pieces)) (ap (λ t. name ++ t) (sym rest) ∙ take_drop n bs)
    (subst (λ (f : EscapeValue). ReadsAs (36 ∷ 123 ∷ name ++ 125 ∷ text) (f.piece ∷ pieces)) is.3 read)

reads-escape : (bs : List ℕ) (e : EscapeValue) (pieces : List PieceValue) → escape_of bs ≡ Some e → ReadsAs (drop e.taken bs) pieces → ReadsAs (36 ∷ bs) (e.piece ∷ pieces)
reads-escape [] e pieces h r = cc
reads-escape (c ∷ cs) e pieces h r = by (is_escaped c) refl (c == 123) refl h
  where
    by : (t : Bool) → is_escaped c ≡ t → (u : Bool) → (c == 123) ≡ u
        → (if t then Some (record { piece = Byte c; taken = 1 })
        else (if u then braced (take_while is_in_name cs) (after is_in_name cs) else bare (take_while is_in_bare_name (c ∷ cs)))) ≡ Some e
        → ReadsAs (36 ∷ c ∷ cs) (e.piece ∷ pieces)
    by true d u v h =
        let is : record { piece = Byte c; taken = 1 } ≡ e = same (record { piece = Byte c; taken = 1 }) e h in
        subst (λ (f : EscapeValue). ReadsAs (36 ∷ c ∷ cs) (f.piece ∷ pieces)) is (Escaped d (subst (λ (f : EscapeValue). ReadsAs (drop f.taken (c ∷ cs)) pieces) (sym is) r))
    by false d true v h =
        let brace : c ≡ 123 = eqb-true c 123 v in
        subst (λ (x : ℕ). ReadsAs (36 ∷ x ∷ cs) (e.piece ∷ pieces)) (sym brace)
        (reads-braced cs e pieces h (subst (λ (x : ℕ). ReadsAs (drop e.taken (x ∷ cs)) pieces) brace r))
    by false d false v h = reads-bare (c ∷ cs) e pieces h r

dollar : (bs : List ℕ) → ((k : ℕ) → text_fault k bs ≡ None → ReadsAs (drop k bs) (pieces_from k bs)) → (e : Option EscapeValue) → escape_of bs ≡ e
    → fault_after e (λ taken. text_fault taken bs) ≡ None → ReadsAs (36 ∷ bs) (pieces_after e (λ taken. pieces_from taken bs))
dollar bs rest None is h = cc
dollar bs rest (Some e) is h = reads-escape bs e (pieces_from e.taken bs) is (rest e.taken h)

plain : (b : ℕ) (bs : List ℕ) → ReadsAs bs (pieces_of bs) → (b == 36) ≡ false → is_no_text b ≡ false → ReadsAs (b ∷ bs) (Byte b ∷ pieces_of bs)
plain b bs r d n = Plain (λ i. not (d i) && not (n i)) r

first : (b : ℕ) (bs : List ℕ) → ((k : ℕ) → text_fault k bs ≡ None → ReadsAs (drop k bs) (pieces_from k bs)) → (t : Bool) → (b == 36) ≡ t → (n : Bool) → is_no_text b ≡ n
    → (if t then fault_after (escape_of bs) (λ taken. text_fault taken bs) else (if n then Some Syntax else fault_of bs)) ≡ None
    → ReadsAs (b ∷ bs) (if t then pieces_after (escape_of bs) (λ taken. pieces_from taken bs) else Byte b ∷ pieces_of bs)
first b bs rest true d n m h =
    subst (λ (x : ℕ). ReadsAs (x ∷ bs) (pieces_after (escape_of bs) (λ taken. pieces_from taken bs))) (sym (eqb-true b 36 d)) (dollar bs rest (escape_of bs) refl h)
first b bs rest false d true m h = cc
first b bs rest false d false m h = plain b bs (rest 0 h) d m

found : (k : ℕ) (text : List ℕ) → text_fault k text ≡ None → ReadsAs (drop k text) (pieces_from k text)
found zero [] h = Nothing
found (suc k) [] h = Nothing
found (suc k) (b ∷ bs) h = found k bs h
found zero (b ∷ bs) h = first b bs (λ k g. found k bs g) (b == 36) refl (is_no_text b) refl h

pub texts-read : (raw : List ℕ) (pieces : List PieceValue)
    → ((fault_of raw ≡ None) × (pieces_of raw ≡ pieces) → ReadsAs raw pieces) × (ReadsAs raw pieces → (fault_of raw ≡ None) × (pieces_of raw ≡ pieces))
texts-read raw pieces = (λ h. subst (λ (ps : List PieceValue). ReadsAs raw ps) h.1 (found 0 raw h.0), λ r. given r)
