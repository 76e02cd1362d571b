-- Texts have their leftmost fault, and only forms are statements.
use Rattle.std.proofs.Common.{◌≡◌, ℕ, zero, suc, ◌+◌, ◌==◌, Bool, true, false, not, ◌&&◌, ◌||◌, List, [], ◌∷◌, ◌++◌, cond, Option, Some, None, Result, Ok, Err, length, take, drop, refl, sym, ap, ◌∙◌, subst, arith, if◌then◌else◌, append_assoc}
use Rattle.std.specs.List.{take_while, prefix_len}
use Rattle.std.proofs.lemmas.List.Folds.{length-prefix_len}
use Rattle.std.proofs.lemmas.Bool.{eqb-true}
use Rattle.rev_syntax.specs.declared.fault.SyntaxFault.{SyntaxFault}
use Rattle.rev_syntax.specs.declared.fault.SyntaxKind.{SyntaxKind}
use Rattle.rev_syntax.specs.declared.fault.SyntaxKind.TheVariants.{Syntax, BadEscape}
use Rattle.rev_syntax.specs.Bytes.{is_in_name, is_in_bare_name, after}
use Rattle.rev_syntax.specs.Texts.{PieceValue, Byte, Variable, EscapeValue, is_no_text, is_escaped, bare, braced, escape_of, fault_after, text_fault, fault_of}
use Rattle.rev_syntax.specs.Grammar.{is_plain, is_run, is_name, ends_name, ReadsAs, Nothing, Plain, Escaped, Bare, Braced}
use Rattle.rev_syntax.specs.Forms.{AreIndented, IsStatement}
use Rattle.rev_syntax.specs.Refusals.{StopsAt, NoText, NoEscape, IsPlace}
use Rattle.rev_syntax.specs.Statements.{StatementValue, Group, statement_of}
use Rattle.rev_syntax.proofs.GrammarLemmas.{both, not_true, other, take_drop, drop-front, run-of, run-ends, bare-escape, braced-escape, bare-is, braced-is, same}
use Rattle.rev_syntax.proofs.PieceLemmas.{text_fault-drop, drop-more}
use Rattle.rev_syntax.proofs.StatementLemmas.{statements-read}

append_nil : (xs : List ℕ) → xs ++ [] ≡ xs
append_nil [] = refl
append_nil (x ∷ xs) = ap (λ ys. x ∷ ys) (append_nil xs)

-- what stops ends a name
stops-name : {kind : SyntaxKind} {rest : List ℕ} → StopsAt kind rest → ends_name rest ≡ true
stops-name (NoText {b} {rest} h) = by (b == 0) refl h
  where
    by : (t : Bool) → (b == 0) ≡ t → (t || b == 13) ≡ true → not (is_in_bare_name b) ≡ true
    by true e h = ap (λ (c : ℕ). not (is_in_bare_name c)) (eqb-true b 0 e)
    by false e h = ap (λ (c : ℕ). not (is_in_bare_name c)) (eqb-true b 13 h)
stops-name (NoEscape h) = refl

ends-more : (text rest : List ℕ) → ends_name text ≡ true → ends_name rest ≡ true → ends_name (text ++ rest) ≡ true
ends-more [] rest h e = e
ends-more (b ∷ bs) rest h e = h

no-dollar : (b : ℕ) → is_no_text b ≡ true → (b == 36) ≡ false
no-dollar b h = by (b == 36) refl
  where
    by : (t : Bool) → (b == 36) ≡ t → t ≡ false
    by false e = refl
    by true e = let no : false ≡ true = sym (ap is_no_text (eqb-true b 36 e)) ∙ h in cc

abbrev head_or : ℕ → List ℕ → ℕ
head_or d [] = d
head_or d (x ∷ xs) = x

abbrev tail_or : List ℕ → List ℕ
tail_or [] = []
tail_or (x ∷ xs) = xs

head-same : (x y : ℕ) (xs ys : List ℕ) → x ∷ xs ≡ y ∷ ys → x ≡ y
head-same x y xs ys e = ap (head_or 0) e

tail-same : (x y : ℕ) (xs ys : List ℕ) → x ∷ xs ≡ y ∷ ys → xs ≡ ys
tail-same x y xs ys e = ap tail_or e

-- which form an escape has
pub data Form (bs : List ℕ) (e : EscapeValue) : Type 0 where
  AByte : (c : ℕ) (text : List ℕ) → is_escaped c ≡ true → c ∷ text ≡ bs → drop e.taken bs ≡ text → Byte c ≡ e.piece → Form bs e
  AName : (name text : List ℕ) → is_name is_in_bare_name name ≡ true → ends_name text ≡ true → name ++ text ≡ bs → drop e.taken bs ≡ text → Variable name ≡ e.piece → Form bs e
  InBraces : (name text : List ℕ) → is_name is_in_name name ≡ true → 123 ∷ name ++ 125 ∷ text ≡ bs → drop e.taken bs ≡ text → Variable name ≡ e.piece → Form bs e

plus-two : (n : ℕ) → n + 2 ≡ suc (suc n)
plus-two n = omega arith

bare-form : (bs : List ℕ) (e : EscapeValue) → bare (take_while is_in_bare_name bs) ≡ Some e → Form bs e
bare-form bs e h =
    let n = prefix_len is_in_bare_name bs in
    let name = take_while is_in_bare_name bs in
    let is = bare-is name e h in
    let left : drop e.taken bs ≡ drop n bs = ap (λ (f : EscapeValue). drop f.taken bs) (sym is.1) ∙ ap (λ k. drop k bs) (length-prefix_len is_in_bare_name bs) in
    AName name (drop n bs) (λ j. not (is.0 j) && run-of is_in_bare_name bs j) (run-ends bs) (take_drop n bs) left (ap (λ (f : EscapeValue). f.piece) is.1)

braced-form : (bs : List ℕ) (e : EscapeValue) → braced (take_while is_in_name bs) (after is_in_name bs) ≡ Some e → Form (123 ∷ bs) e
braced-form bs e h =
    let n = prefix_len is_in_name bs in
    let name = take_while is_in_name bs in
    let is = braced-is name (after is_in_name bs) e h in
    let left : drop e.taken (123 ∷ bs) ≡ is.0 =
    ap (λ (f : EscapeValue). drop f.taken (123 ∷ bs)) (sym is.3)
    ∙ ap (λ k. drop k (123 ∷ bs)) (ap (λ k. k + 2) (length-prefix_len is_in_name bs) ∙ plus-two n) ∙ drop-more n 125 bs is.0 is.1 in
    InBraces name is.0 (λ j. not (is.2 j) && run-of is_in_name bs j) (ap (λ t. 123 ∷ t) (ap (λ t. name ++ t) (sym is.1) ∙ take_drop n bs)) left (ap (λ (f : EscapeValue). f.piece) is.3)

pub form-of : (bs : List ℕ) (e : EscapeValue) → escape_of bs ≡ Some e → Form bs e
form-of [] e h = cc
form-of (c ∷ cs) e h = by (is_escaped c) refl (c == 123) refl h
  where
    by : (t : Bool) → is_escaped c ≡ t → (u : Bool) → (c == 123) ≡ u
        → (if t then Some (record { piece = Byte c; taken = 1 })
        else (if u then braced (take_while is_in_name cs) (after is_in_name cs) else bare (take_while is_in_bare_name (c ∷ cs)))) ≡ Some e
        → Form (c ∷ cs) e
    by true d u v h =
        let is : record { piece = Byte c; taken = 1 } ≡ e = same (record { piece = Byte c; taken = 1 }) e h in
        AByte c cs d refl (ap (λ (f : EscapeValue). drop f.taken (c ∷ cs)) (sym is)) (ap (λ (f : EscapeValue). f.piece) is)
    by false d true v h = subst (λ (x : ℕ). Form (x ∷ cs) e) (sym (eqb-true c 123 v)) (braced-form cs e h)
    by false d false v h = bare-form (c ∷ cs) e h

-- the bytes of one piece
record OnePiece (bs : List ℕ) (piece : PieceValue) : Type 0 where
  front : List ℕ
  behind : List ℕ
  whole : front ++ behind ≡ 36 ∷ bs
  reads : ReadsAs front (piece ∷ [])

one-piece : {bs : List ℕ} {e : EscapeValue} → Form bs e → OnePiece bs e.piece
one-piece {bs} {e} (AByte c text h w left is) =
    record { front = 36 ∷ c ∷ []; behind = text; whole = ap (λ t. 36 ∷ t) w; reads = subst (λ (p : PieceValue). ReadsAs (36 ∷ c ∷ []) (p ∷ [])) is (Escaped h Nothing) }
one-piece {bs} {e} (AName name text h ends w left is) = record {
  front = 36 ∷ name ++ [];
  behind = text;
  whole = ap (λ t. 36 ∷ t) (append_assoc name [] text ∙ w);
  reads = subst (λ (p : PieceValue). ReadsAs (36 ∷ name ++ []) (p ∷ [])) is (Bare name h refl Nothing);
}
one-piece {bs} {e} (InBraces name text h w left is) = record {
  front = 36 ∷ 123 ∷ name ++ 125 ∷ [];
  behind = text;
  whole = ap (λ t. 36 ∷ 123 ∷ t) (append_assoc name (125 ∷ []) text) ∙ ap (λ t. 36 ∷ t) w;
  reads = subst (λ (p : PieceValue). ReadsAs (36 ∷ 123 ∷ name ++ 125 ∷ []) (p ∷ [])) is (Braced name h Nothing);
}

-- where no escape is, no front is a piece
nothing-left : {text : List ℕ} {pieces : List PieceValue} → ReadsAs text pieces → pieces ≡ [] → text ≡ []
nothing-left Nothing e = refl
nothing-left (Plain h r) e = cc
nothing-left (Escaped h r) e = cc
nothing-left (Bare name h ends r) e = cc
nothing-left (Braced name h r) e = cc

name-escapes : (name behind : List ℕ) → is_name is_in_bare_name name ≡ true → escape_of (name ++ behind) ≡ None → ⊥
name-escapes [] behind h none = cc
name-escapes (c ∷ cs) behind h none =
    let parts = both (is_in_bare_name c) (is_run is_in_bare_name cs) h in
    let more = cs ++ behind in
    let escaped : Option EscapeValue = Some (record { piece = Byte c; taken = 1 }) in
    let in_braces : Option EscapeValue = braced (take_while is_in_name more) (after is_in_name more) in
    let plain : Option EscapeValue = bare (take_while is_in_bare_name (c ∷ more)) in
    let no_escape : is_escaped c ≡ false = (λ i. other c 36 parts.0 refl i || other c 32 parts.0 refl i || other c 58 parts.0 refl i) in
    let no_brace : (c == 123) ≡ false = other c 123 parts.0 refl in
    let is : escape_of (c ∷ more) ≡ plain = ap (λ t. if t then escaped else (if c == 123 then in_braces else plain)) no_escape ∙ ap (λ t. if t then in_braces else plain) no_brace in
    let len : 1 + prefix_len is_in_bare_name more ≡ suc (prefix_len is_in_bare_name more) = omega arith in
    let taken : take_while is_in_bare_name (c ∷ more) ≡ c ∷ take (prefix_len is_in_bare_name more) more =
    ap (λ t. take (cond t (1 + prefix_len is_in_bare_name more) 0) (c ∷ more)) parts.0 ∙ ap (λ n. take n (c ∷ more)) len in
    let no = sym (is ∙ ap bare taken) ∙ none in
    cc

no-piece : (bs front behind : List ℕ) {pieces : List PieceValue} (piece : PieceValue) → escape_of bs ≡ None → front ++ behind ≡ 36 ∷ bs → ReadsAs front pieces → pieces ≡ piece ∷ [] → ⊥
no-piece bs front behind piece none e Nothing p = cc
no-piece bs front behind piece none e (Plain {b} {text} h r) p =
    let first : b ≡ 36 = head-same b 36 (text ++ behind) bs e in
    let no : false ≡ true = sym (ap is_plain first) ∙ h in
    cc
no-piece bs front behind piece none e (Escaped {b} {text} h r) p =
    let rest : b ∷ text ++ behind ≡ bs = tail-same 36 36 (b ∷ text ++ behind) bs e in
    let some : escape_of (b ∷ text ++ behind) ≡ Some (record { piece = Byte b; taken = 1 }) =
    ap (λ t. if t then Some (record { piece = Byte b; taken = 1 })
    else (if b == 123 then braced (take_while is_in_name (text ++ behind)) (after is_in_name (text ++ behind)) else bare (take_while is_in_bare_name (b ∷ text ++ behind)))) h in
    let no = sym some ∙ ap escape_of rest ∙ none in
    cc
no-piece bs front behind piece none e (Bare name {text} h ends r) p =
    let rest : name ++ (text ++ behind) ≡ bs = sym (append_assoc name text behind) ∙ tail-same 36 36 ((name ++ text) ++ behind) bs e in
    name-escapes name (text ++ behind) h (ap escape_of rest ∙ none)
no-piece bs front behind piece none e (Braced name {text} h r) p =
    let rest : 123 ∷ name ++ 125 ∷ (text ++ behind) ≡ bs = ap (λ t. 123 ∷ t) (sym (append_assoc name (125 ∷ text) behind)) ∙ tail-same 36 36 (123 ∷ (name ++ 125 ∷ text) ++ behind) bs e in
    let no = sym (braced-escape name (text ++ behind) h) ∙ ap escape_of rest ∙ none in
    cc

-- the fault at a place
stops-fault : {kind : SyntaxKind} {front rest : List ℕ} {pieces : List PieceValue} → ReadsAs front pieces → StopsAt kind rest → fault_of (front ++ rest) ≡ Some kind
stops-fault Nothing (NoText {b} {rest} h) =
    ap (λ t. if t then fault_after (escape_of rest) (λ taken. text_fault taken rest) else (if is_no_text b then Some Syntax else fault_of rest)) (no-dollar b h)
    ∙ ap (λ t. if t then Some Syntax else fault_of rest) h
stops-fault Nothing (NoEscape {rest} h) = by (escape_of rest) refl
  where
    by : (o : Option EscapeValue) → escape_of rest ≡ o → fault_after o (λ taken. text_fault taken rest) ≡ Some BadEscape
    by None e = refl
    by (Some escape) e = let one = one-piece (form-of rest escape e) in absurd (h one.front one.behind escape.piece one.whole one.reads)
stops-fault {rest = rest} (Plain {b} {text} h r) s =
    let parts = both (not (b == 36)) (not (is_no_text b)) h in
    let all = text ++ rest in
    ap (λ t. if t then fault_after (escape_of all) (λ taken. text_fault taken all) else (if is_no_text b then Some Syntax else fault_of all)) (not_true (b == 36) parts.0)
    ∙ ap (λ t. if t then Some Syntax else fault_of all) (not_true (is_no_text b) parts.1) ∙ stops-fault r s
stops-fault {rest = rest} (Escaped {b} {text} h r) s =
    ap (λ t. fault_after (if t then Some (record { piece = Byte b; taken = 1 })
    else (if b == 123 then braced (take_while is_in_name (text ++ rest)) (after is_in_name (text ++ rest)) else bare (take_while is_in_bare_name (b ∷ text ++ rest)))) (λ taken. text_fault taken (b ∷ text ++ rest))) h
    ∙ stops-fault r s
stops-fault {rest = rest} (Bare name {text} h ends r) s =
    let all = text ++ rest in
    ap (λ t. fault_of (36 ∷ t)) (append_assoc name text rest)
    ∙ ap (λ o. fault_after o (λ taken. text_fault taken (name ++ all))) (bare-escape name all h (ends-more text rest ends (stops-name s)))
    ∙ text_fault-drop (length name) (name ++ all) ∙ ap fault_of (drop-front name all) ∙ stops-fault r s
stops-fault {rest = rest} (Braced name {text} h r) s =
    let all = text ++ rest in
    ap (λ t. fault_of (36 ∷ 123 ∷ t)) (append_assoc name (125 ∷ text) rest)
    ∙ ap (λ o. fault_after o (λ taken. text_fault taken (123 ∷ name ++ 125 ∷ all))) (braced-escape name all h)
    ∙ text_fault-drop (length name + 2) (123 ∷ name ++ 125 ∷ all)
    ∙ ap fault_of (ap (λ n. drop n (123 ∷ name ++ 125 ∷ all)) (plus-two (length name)) ∙ drop-more (length name) 125 (name ++ 125 ∷ all) all (drop-front name (125 ∷ all))) ∙ stops-fault r s

-- the place of a fault
front-ends : (front rest text : List ℕ) → front ++ rest ≡ text → ends_name text ≡ true → ends_name front ≡ true
front-ends [] rest text e h = refl
front-ends (b ∷ bs) rest text e h = ap ends_name e ∙ h

later-place : {kind : SyntaxKind} {bs : List ℕ} {e : EscapeValue} → Form bs e → IsPlace kind (drop e.taken bs) → IsPlace kind (36 ∷ bs)
later-place {kind} {bs} {e} (AByte c text h w left is) p = record {
  front = 36 ∷ c ∷ p.front;
  rest = p.rest;
  pieces = Byte c ∷ p.pieces;
  whole = ap (λ t. 36 ∷ t) (ap (λ t. c ∷ t) (p.whole ∙ left) ∙ w);
  reads = Escaped h p.reads;
  stops = p.stops;
}
later-place {kind} {bs} {e} (AName name text h ends w left is) p = record {
  front = 36 ∷ name ++ p.front;
  rest = p.rest;
  pieces = Variable name ∷ p.pieces;
  whole = ap (λ t. 36 ∷ t) (append_assoc name p.front p.rest ∙ ap (λ t. name ++ t) (p.whole ∙ left) ∙ w);
  reads = Bare name h (front-ends p.front p.rest text (p.whole ∙ left) ends) p.reads;
  stops = p.stops;
}
later-place {kind} {bs} {e} (InBraces name text h w left is) p = record {
  front = 36 ∷ 123 ∷ name ++ 125 ∷ p.front;
  rest = p.rest;
  pieces = Variable name ∷ p.pieces;
  whole = ap (λ t. 36 ∷ t) (ap (λ t. 123 ∷ t) (append_assoc name (125 ∷ p.front) p.rest ∙ ap (λ t. name ++ 125 ∷ t) (p.whole ∙ left)) ∙ w);
  reads = Braced name h p.reads;
  stops = p.stops;
}

first-place : (kind : SyntaxKind) (b : ℕ) (bs : List ℕ) → ((k : ℕ) → text_fault k bs ≡ Some kind → IsPlace kind (drop k bs)) → (t : Bool) → (b == 36) ≡ t → (n : Bool) → is_no_text b ≡ n
    → (if t then fault_after (escape_of bs) (λ taken. text_fault taken bs) else (if n then Some Syntax else fault_of bs)) ≡ Some kind → IsPlace kind (b ∷ bs)
first-place kind b bs later true d n m h = subst (λ (x : ℕ). IsPlace kind (x ∷ bs)) (sym (eqb-true b 36 d)) (by (escape_of bs) refl h)
  where
    by : (o : Option EscapeValue) → escape_of bs ≡ o → fault_after o (λ taken. text_fault taken bs) ≡ Some kind → IsPlace kind (36 ∷ bs)
    by None e h =
        let same : BadEscape ≡ kind = cc in
        subst (λ (k : SyntaxKind). IsPlace k (36 ∷ bs)) same
        (record { front = []; rest = 36 ∷ bs; pieces = []; whole = refl; reads = Nothing; stops = NoEscape (λ front behind piece w r. no-piece bs front behind piece e w r refl) })
    by (Some escape) e h = later-place (form-of bs escape e) (later escape.taken h)
first-place kind b bs later false d true m h =
    let same : Syntax ≡ kind = cc in
    subst (λ (k : SyntaxKind). IsPlace k (b ∷ bs)) same (record { front = []; rest = b ∷ bs; pieces = []; whole = refl; reads = Nothing; stops = NoText m })
first-place kind b bs later false d false m h =
    let p = later 0 h in
    record { front = b ∷ p.front; rest = p.rest; pieces = Byte b ∷ p.pieces; whole = ap (λ t. b ∷ t) p.whole; reads = Plain (λ i. not (d i) && not (m i)) p.reads; stops = p.stops }

place-found : (kind : SyntaxKind) (k : ℕ) (text : List ℕ) → text_fault k text ≡ Some kind → IsPlace kind (drop k text)
place-found kind zero [] h = cc
place-found kind (suc k) [] h = cc
place-found kind (suc k) (b ∷ bs) h = place-found kind k bs h
place-found kind zero (b ∷ bs) h = first-place kind b bs (λ k g. place-found kind k bs g) (b == 36) refl (is_no_text b) refl h

pub texts-stop : (kind : SyntaxKind) (raw : List ℕ) → (fault_of raw ≡ Some kind → IsPlace kind raw) × (IsPlace kind raw → fault_of raw ≡ Some kind)
texts-stop kind raw = (place-found kind 0 raw, λ p. ap fault_of (sym p.whole) ∙ stops-fault p.reads p.stops)

-- only forms are statements
pub only-forms : (group : Group) → AreIndented group.block
    → ((fault : SyntaxFault) × (statement_of group ≡ Err fault) → (statement : StatementValue) → IsStatement group statement → ⊥)
    × (((statement : StatementValue) → IsStatement group statement → ⊥) → (fault : SyntaxFault) × (statement_of group ≡ Err fault))
only-forms group all = (λ f statement is. let no : Ok statement ≡ Err f.0 = sym ((statements-read group statement all).1 is) ∙ f.1 in cc, λ none. by (statement_of group) refl none)
  where
    by : (r : Result StatementValue SyntaxFault) → statement_of group ≡ r → ((statement : StatementValue) → IsStatement group statement → ⊥) → (fault : SyntaxFault) × (statement_of group ≡ Err fault)
    by (Ok statement) e none = absurd (none statement ((statements-read group statement all).0 e))
    by (Err fault) e none = (fault, e)
