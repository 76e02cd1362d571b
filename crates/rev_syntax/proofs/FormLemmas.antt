-- The parts of statements: names, bindings, lists behind marks.
use Rattle.std.proofs.Common.{◌≡◌, ℕ, zero, suc, ◌+◌, ◌==◌, Bool, true, false, not, ◌&&◌, ◌||◌, cond, List, [], ◌∷◌, ◌++◌, Option, Some, None, Result, Ok, Err, take, drop, refl, sym, ap, ◌∙◌, subst, arith, if◌then◌else◌}
use Rattle.std.specs.List.{prefix_len}
use Rattle.std.proofs.lemmas.Bool.{eqb-true}
use Rattle.rev_syntax.specs.declared.fault.SyntaxKind.TheVariants.{Syntax, BadEscape}
use Rattle.rev_syntax.specs.declared.fault.SyntaxFault.{SyntaxFault}
use Rattle.rev_syntax.specs.declared.paths.Mark.{Mark}
use Rattle.rev_syntax.specs.declared.paths.Mark.TheVariants.{Bar, TwoBars, BarAt}
use Rattle.rev_syntax.specs.Bytes.{is_in_name, is_empty, begins_with, after, without_spaces}
use Rattle.rev_syntax.specs.Cutting.{spaces}
use Rattle.rev_syntax.specs.Faults.{and_then, finished, closed, stuck, refused}
use Rattle.rev_syntax.specs.Grammar.{is_run, is_name, ReadsAs}
use Rattle.rev_syntax.specs.Lines.{LineValue}
use Rattle.rev_syntax.specs.Paths.{Part, text_of, text_or_fault, after_mark, list_from, list_after}
use Rattle.rev_syntax.specs.Texts.{PieceValue, fault_of, pieces_of}
use Rattle.rev_syntax.specs.Statements.{BindingValue, name_of, after_name, value_of, bound, binding_of}
use Rattle.rev_syntax.specs.Forms.{stops_name, IsBinding, Binding, mark_bytes, stands, Behind, Absent, Present}
use Rattle.rev_syntax.proofs.CutLemmas.{spaces-front, spaces-cut, without-cut, append_nil}
use Rattle.rev_syntax.proofs.GrammarLemmas.{both, not_true, run-len, take-front, drop-front, take_drop, run-of, texts-read}
use Rattle.rev_syntax.proofs.ListLemmas.{lists-read, text-ok}

-- answers that go on
pub record Went {A B : Type 0} (first : Result A SyntaxFault) (next : A → Result B SyntaxFault) (answer : B) : Type 0 where
  pub value : A
  pub first_is : first ≡ Ok value
  pub next_is : next value ≡ Ok answer

pub went : {A B : Type 0} (first : Result A SyntaxFault) (next : A → Result B SyntaxFault) (answer : B) → and_then first next ≡ Ok answer → Went first next answer
went (Ok value) next answer h = record { value = value; first_is = refl; next_is = h }
went (Err fault) next answer h = cc

pub goes : {A B : Type 0} {first : Result A SyntaxFault} (next : A → Result B SyntaxFault) {value : A} → first ≡ Ok value → and_then first next ≡ next value
goes next e = ap (λ r. and_then r next) e

abbrev value-or : {A : Type 0} → A → Result A SyntaxFault → A
value-or x (Ok y) = y
value-or x (Err fault) = x

abbrev pub answered : {A : Type 0} → A → Result A SyntaxFault
answered x = Ok x

pub same-ok : {A : Type 0} (x y : A) → answered x ≡ answered y → x ≡ y
same-ok x y h = ap (value-or x) h

pub finished-ok : {A : Type 0} (line : LineValue) (x y : A) → finished line x ≡ Ok y → (line.ended ≡ true) × (x ≡ y)
finished-ok line x y h = by line.ended refl h
  where
    by : (t : Bool) → line.ended ≡ t → (if t then Ok x else refused line BadEscape) ≡ Ok y → (line.ended ≡ true) × (x ≡ y)
    by true e h = (e, same-ok x y h)
    by false e h = cc

pub is-finished : {A : Type 0} (line : LineValue) (x : A) → line.ended ≡ true → finished line x ≡ Ok x
is-finished line x e = ap (λ t. if t then Ok x else refused line BadEscape) e

pub closed-ok : (line : LineValue) (text : List ℕ) (u : Unit {0}) → closed line text ≡ Ok u → (line.ended ≡ true) × (text ≡ [])
closed-ok line [] u h = ((finished-ok line tt u h).0, refl)
closed-ok line (b ∷ bs) u h = cc

pub closes : {A : Type 0} (line : LineValue) (text : List ℕ) (x : A) → line.ended ≡ true → text ≡ [] → and_then (closed line text) (λ _. Ok x) ≡ Ok x
closes line text x e none = ap (λ t. and_then (closed line t) (λ _. Ok x)) none ∙ ap (λ r. and_then r (λ _. Ok x)) (is-finished line tt e)

-- names
stop-len : (text : List ℕ) → stops_name text ≡ true → prefix_len is_in_name text ≡ 0
stop-len [] h = refl
stop-len (b ∷ bs) h = ap (λ t. cond t (1 + prefix_len is_in_name bs) 0) (not_true (is_in_name b) h)

pub name-front : (name text : List ℕ) → is_run is_in_name name ≡ true → stops_name text ≡ true → (name_of (name ++ text) ≡ name) × (after is_in_name (name ++ text) ≡ text)
name-front name text run stops =
    let len = run-len is_in_name name text run (stop-len text stops) in
    (ap (λ n. take n (name ++ text)) len ∙ take-front name text, ap (λ n. drop n (name ++ text)) len ∙ drop-front name text)

one-more : (n : ℕ) → 1 + n ≡ suc n
one-more n = omega arith

run-stops : (text : List ℕ) → stops_name (after is_in_name text) ≡ true
run-stops [] = refl
run-stops (b ∷ bs) = by (is_in_name b) refl (run-stops bs)
  where
    by : (t : Bool) → is_in_name b ≡ t → stops_name (drop (prefix_len is_in_name bs) bs) ≡ true → stops_name (drop (cond t (1 + prefix_len is_in_name bs) 0) (b ∷ bs)) ≡ true
    by true e rest = ap (λ n. stops_name (drop n (b ∷ bs))) (one-more (prefix_len is_in_name bs)) ∙ rest
    by false e rest = ap not e

pub name-cut : (text : List ℕ) → (name_of text ++ after is_in_name text ≡ text) × (is_run is_in_name (name_of text) ≡ true) × (stops_name (after is_in_name text) ≡ true)
name-cut text = (take_drop (prefix_len is_in_name text) text, run-of is_in_name text, run-stops text)

pub a-name : (name : List ℕ) → is_name is_in_name name ≡ true → (is_empty name ≡ false) × (is_run is_in_name name ≡ true)
a-name name h = let parts = both (not (is_empty name)) (is_run is_in_name name) h in (not_true (is_empty name) parts.0, parts.1)

pub named : (name : List ℕ) → is_empty name ≡ false → is_run is_in_name name ≡ true → is_name is_in_name name ≡ true
named name some run = (λ j. not (some j) && run j)

-- a name is not stuck
pub unstuck : {A : Type 0} (line : LineValue) (name text : List ℕ) (others : Result A SyntaxFault) (answer : A) → (if is_empty name then stuck line text else others) ≡ Ok answer
    → (is_empty name ≡ false) × (others ≡ Ok answer)
unstuck line [] text others answer h = cc
unstuck line (b ∷ bs) text others answer h = (refl, h)

pub spaces-stop : (k : ℕ) (text : List ℕ) → stops_name text ≡ true → stops_name (spaces k ++ text) ≡ true
spaces-stop zero text h = h
spaces-stop (suc k) text h = refl

pub all-spaces : (text : List ℕ) → without_spaces text ≡ [] → (k : ℕ) × (spaces k ≡ text)
all-spaces text h =
    let cut = spaces-cut text in
    (cut.count, sym (append_nil (spaces cut.count)) ∙ ap (λ t. spaces cut.count ++ t) (sym (sym (without-cut cut) ∙ h)) ∙ cut.whole)

pub no-spaces : (k : ℕ) → without_spaces (spaces k) ≡ []
no-spaces k = ap without_spaces (sym (append_nil (spaces k))) ∙ spaces-front k [] refl

-- texts
pub text-read : (line : LineValue) (raw : List ℕ) (value : List PieceValue) → ReadsAs raw value → text_of line raw ≡ Ok value
text-read line raw value r =
    let read = (texts-read raw value).1 r in
    (λ j. text_or_fault line (read.0 j) (read.1 j))

pub text-reads : (line : LineValue) (raw : List ℕ) (value : List PieceValue) → text_of line raw ≡ Ok value → ReadsAs raw value
text-reads line raw value h = (texts-read raw value).0 (text-ok line (fault_of raw) (pieces_of raw) value h)

-- bindings
pub binding-given : (line : LineValue) {text : List ℕ} {binding : BindingValue} → line.ended ≡ true → IsBinding line.number text binding → binding_of line text ≡ Ok binding
binding-given line ended (Binding name k l {raw} {value} is free r) =
    let rest = spaces k ++ 61 ∷ (spaces l ++ raw) in
    let a = a-name name is in
    let front = name-front name rest a.1 (spaces-stop k (61 ∷ (spaces l ++ raw)) refl) in
    let binding : BindingValue = record { name = name; value = value; line = line.number } in
    let valued : value_of line (without_spaces (spaces l ++ raw)) ≡ Ok value =
    ap (value_of line) (spaces-front l raw free) ∙ goes (finished line) (text-read line raw value r) ∙ is-finished line value ended in
    (λ j. if is_empty (front.0 j) then stuck line (name ++ rest) else bound line (front.0 j) (without_spaces (front.1 j)))
    ∙ (λ j. if a.0 j then stuck line (name ++ rest) else bound line name (spaces-front k (61 ∷ (spaces l ++ raw)) refl j))
    ∙ goes (λ value. Ok (record { name = name; value = value; line = line.number })) valued

pub record BindingFound (line : LineValue) (text : List ℕ) (binding : BindingValue) : Type 0 where
  pub ended : line.ended ≡ true
  pub is : IsBinding line.number text binding

pub binding-found : (line : LineValue) (text : List ℕ) (binding : BindingValue) → binding_of line text ≡ Ok binding → BindingFound line text binding
binding-found line text binding h =
    let cut = name-cut text in
    let some = unstuck line (name_of text) text (bound line (name_of text) (after_name text)) binding h in
    by (after_name text) refl some.0 some.1
  where
    by : (rest : List ℕ) → after_name text ≡ rest → is_empty (name_of text) ≡ false → bound line (name_of text) rest ≡ Ok binding → BindingFound line text binding
    by [] e some h = cc
    by (b ∷ bs) e some h = test (b == 61) refl h
      where
        test : (t : Bool) → (b == 61) ≡ t
            → (if t then and_then (value_of line (without_spaces bs)) (λ value. Ok (record { name = name_of text; value = value; line = line.number })) else refused line Syntax) ≡ Ok binding
            → BindingFound line text binding
        test false is h = cc
        test true is h =
            let cut = name-cut text in
            let spaced = spaces-cut (after is_in_name text) in
            let valued = spaces-cut bs in
            let got = went (value_of line (without_spaces bs)) (λ value. Ok (record { name = name_of text; value = value; line = line.number })) binding h in
            let read = went (text_of line (without_spaces bs)) (finished line) got.value got.first_is in
            let done = finished-ok line read.value got.value read.next_is in
            let reads : ReadsAs valued.next got.value =
            subst (λ (v : List PieceValue). ReadsAs valued.next v) done.1 (subst (λ (t : List ℕ). ReadsAs t read.value) (without-cut valued) (text-reads line (without_spaces bs) read.value read.first_is)) in
            let rest : after is_in_name text ≡ spaces spaced.count ++ 61 ∷ (spaces valued.count ++ valued.next) =
            sym spaced.whole ∙ ap (λ t. spaces spaced.count ++ t) (sym (without-cut spaced) ∙ e ∙ (λ j. eqb-true b 61 is j ∷ sym valued.whole j)) in
            let whole : name_of text ++ (spaces spaced.count ++ 61 ∷ (spaces valued.count ++ valued.next)) ≡ text = ap (λ t. name_of text ++ t) (sym rest) ∙ cut.0 in
            let made : IsBinding line.number (name_of text ++ (spaces spaced.count ++ 61 ∷ (spaces valued.count ++ valued.next))) (record { name = name_of text; value = got.value; line = line.number }) =
            Binding (name_of text) spaced.count valued.count (named (name_of text) some cut.1) valued.stops reads in
            record {
              ended = done.0;
              is = subst (λ (v : BindingValue). IsBinding line.number text v) (same-ok _ _ got.next_is) (subst (λ (t : List ℕ). IsBinding line.number t (record { name = name_of text; value = got.value; line = line.number })) whole made);
            }

-- marks
mark-none : (mark : Mark) (text : List ℕ) → stands mark text ≡ false → after_mark mark text ≡ None
mark-none mark [] h = refl
mark-none Bar (b ∷ bs) h = ap (λ t. if t then Some bs else None) h
mark-none TwoBars (b ∷ bs) h = ap (λ t. if t then Some (drop 1 bs) else None) h
mark-none BarAt (b ∷ bs) h = ap (λ t. if t then Some (drop 1 bs) else None) h

mark-some : (mark : Mark) (text : List ℕ) → stands mark (mark_bytes mark ++ text) ≡ true → after_mark mark (mark_bytes mark ++ text) ≡ Some text
mark-some Bar text h = ap (λ t. if t then Some text else None) h
mark-some TwoBars text h = refl
mark-some BarAt text h = refl

-- the bytes of a mark that stands
first-is : (b : ℕ) (text : List ℕ) → begins_with b text ≡ true → b ∷ drop 1 text ≡ text
first-is b [] h = cc
first-is b (x ∷ xs) h = ap (λ y. y ∷ xs) (sym (eqb-true x b h))

mark-is : (mark : Mark) (text rest : List ℕ) → after_mark mark text ≡ Some rest → (stands mark text ≡ true) × (mark_bytes mark ++ rest ≡ text)
mark-is mark [] rest h = cc
mark-is Bar (b ∷ bs) rest h = by (b == 124 && not (begins_with 124 bs || begins_with 64 bs)) refl h
  where
    by : (t : Bool) → (b == 124 && not (begins_with 124 bs || begins_with 64 bs)) ≡ t → (if t then Some bs else None) ≡ Some rest
        → ((b == 124 && not (begins_with 124 bs || begins_with 64 bs)) ≡ true) × (124 ∷ rest ≡ b ∷ bs)
    by true e h =
        let same : bs ≡ rest = cc in
        (e, (λ j. sym (eqb-true b 124 (both (b == 124) (not (begins_with 124 bs || begins_with 64 bs)) e).0) j ∷ sym same j))
    by false e h = cc
mark-is TwoBars (b ∷ bs) rest h = by (b == 124 && begins_with 124 bs) refl h
  where
    by : (t : Bool) → (b == 124 && begins_with 124 bs) ≡ t → (if t then Some (drop 1 bs) else None) ≡ Some rest → ((b == 124 && begins_with 124 bs) ≡ true) × (124 ∷ 124 ∷ rest ≡ b ∷ bs)
    by true e h =
        let same : drop 1 bs ≡ rest = cc in
        let parts = both (b == 124) (begins_with 124 bs) e in
        (e, (λ j. sym (eqb-true b 124 parts.0) j ∷ (ap (λ t. 124 ∷ t) (sym same) ∙ first-is 124 bs parts.1) j))
    by false e h = cc
mark-is BarAt (b ∷ bs) rest h = by (b == 124 && begins_with 64 bs) refl h
  where
    by : (t : Bool) → (b == 124 && begins_with 64 bs) ≡ t → (if t then Some (drop 1 bs) else None) ≡ Some rest → ((b == 124 && begins_with 64 bs) ≡ true) × (124 ∷ 64 ∷ rest ≡ b ∷ bs)
    by true e h =
        let same : drop 1 bs ≡ rest = cc in
        let parts = both (b == 124) (begins_with 64 bs) e in
        (e, (λ j. sym (eqb-true b 124 parts.0) j ∷ (ap (λ t. 64 ∷ t) (sym same) ∙ first-is 64 bs parts.1) j))
    by false e h = cc

mark-absent : (mark : Mark) (text : List ℕ) → after_mark mark text ≡ None → stands mark text ≡ false
mark-absent mark [] h = refl
mark-absent Bar (b ∷ bs) h = none-is (b == 124 && not (begins_with 124 bs || begins_with 64 bs)) bs h
  where
    none-is : (t : Bool) (rest : List ℕ) → (if t then Some rest else None) ≡ None → t ≡ false
    none-is true rest h = cc
    none-is false rest h = refl
mark-absent TwoBars (b ∷ bs) h = none-is (b == 124 && begins_with 124 bs) (drop 1 bs) h
  where
    none-is : (t : Bool) (rest : List ℕ) → (if t then Some rest else None) ≡ None → t ≡ false
    none-is true rest h = cc
    none-is false rest h = refl
mark-absent BarAt (b ∷ bs) h = none-is (b == 124 && begins_with 64 bs) (drop 1 bs) h
  where
    none-is : (t : Bool) (rest : List ℕ) → (if t then Some rest else None) ≡ None → t ≡ false
    none-is true rest h = cc
    none-is false rest h = refl

pub behind-given : (line : LineValue) {mark : Mark} {text rest : List ℕ} {paths : List (List PieceValue)} → Behind mark text paths rest → list_after line mark text ≡ Ok (paths, rest)
behind-given line (Absent {mark} {text} h) = ap (list_from line text) (mark-none mark text h)
behind-given line (Present mark {front} {rest} {paths} h r ends) =
    ap (list_from line (mark_bytes mark ++ (front ++ rest))) (mark-some mark (front ++ rest) h) ∙ (lists-read line (front ++ rest) rest paths).1 (front, refl, r, ends)

pub behind-found : (line : LineValue) (mark : Mark) (text rest : List ℕ) (paths : List (List PieceValue)) → list_after line mark text ≡ Ok (paths, rest) → Behind mark text paths rest
behind-found line mark text rest paths h = by (after_mark mark text) refl h
  where
    by : (o : Option (List ℕ)) → after_mark mark text ≡ o → list_from line text o ≡ Ok (paths, rest) → Behind mark text paths rest
    by None e h =
        let same : ([], text) ≡ (paths, rest) = same-ok ([], text) (paths, rest) h in
        subst (λ (p : Part (List (List PieceValue))). Behind mark text p.0 p.1) same (Absent (mark-absent mark text e))
    by (Some behind) e h =
        let is = mark-is mark text behind e in
        let read = (lists-read line behind rest paths).0 h in
        let whole : mark_bytes mark ++ (read.0 ++ rest) ≡ text = ap (λ t. mark_bytes mark ++ t) (sym read.1) ∙ is.1 in
        subst (λ (t : List ℕ). Behind mark t paths rest) whole (Present mark (ap (stands mark) whole ∙ is.0) read.2 read.3)
