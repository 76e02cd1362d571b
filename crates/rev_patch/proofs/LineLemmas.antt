-- Lines of a text, and edits that are noted one after another.
use Rattle.std.proofs.Common.{◌≡◌, ◌≢◌, ◌<◌, ◌≤◌, ℕ, zero, suc, ◌+◌, ◌-◌, Bool, true, false, not, if◌then◌else◌, ◌==◌, nat_lt, List, [], ◌∷◌, ◌++◌, length, map, set, drop, get_or, Option, Some, None, unwrap_or, refl, ap, sym, ◌∙◌, arith, append_assoc, length-drop}
use Rattle.std.proofs.lemmas.Bool.{eq-eqb, ne_eqb}
use Rattle.std.proofs.lemmas.Bool.Decides.{nat_tests}
use Rattle.std.proofs.lemmas.List.{drop_more, length-map, get_or_default}
use Rattle.std.specs.Option.{is_some, option_copied}
use Rattle.std.specs.Borrow.{Bor}
use Rattle.rev_fields.specs.Parts.{slices_of}
use Rattle.rev_patch.specs.declared.lines.Row.{Row}
use Rattle.rev_patch.specs.Lines.{Edit, Line, line_of, lines_of_parts, with_new, new_at, edited_from}
use Rattle.rev_patch.specs.Noted.{unless_new, noted_at, part_lines}

plain : List ℕ → Bool → Line
plain part ended = record { old = part; new = None; is_ended = ended }

last_part : List ℕ → Bool → List Line
last_part part b = if b then [] else plain part false ∷ []

-- the lines of some parts, by the first of them
parts-cons : (part : List ℕ) (parts : List (List ℕ)) → part_lines (not (length parts == 0)) part ++ lines_of_parts parts ≡ lines_of_parts (part ∷ parts)
unfolding plain last_part
parts-cons part [] =
    let P : Bool → Type 0 = λ b. last_part part b ++ [] ≡ last_part part b in
    elim (length part == 0) as P [ true ↦ refl | false ↦ refl ]
parts-cons part (next ∷ parts) =
    let some : (suc (length parts) == 0) ≡ false = ne_eqb (suc (length parts)) 0 (λ none. absurd (omega arith)) in
    ap (λ b. part_lines (not b) part ++ lines_of_parts (next ∷ parts)) some

parts-more : (lines : List Line) (part : List ℕ) (parts : List (List ℕ)) (ended : Bool) → ended ≡ not (length parts == 0)
    → (lines ++ part_lines ended part) ++ lines_of_parts parts ≡ lines ++ lines_of_parts (part ∷ parts)
parts-more lines part parts ended e =
    append_assoc lines (part_lines ended part) (lines_of_parts parts)
    ∙ ap (λ b. lines ++ (part_lines b part ++ lines_of_parts parts)) e ∙ ap (λ ls. lines ++ ls) (parts-cons part parts)

has_more : (m n : ℕ) → nat_lt m n ≡ not (n - m == 0)
has_more m n = grind (arith, nat_tests)

-- one more part, before the lines of those that are left
pub parts-step : (lines : List Line) (parts : List (Bor (List ℕ))) (i : ℕ) (x : Bor (List ℕ)) (ended : Bool)
    → i < length parts → x ≡ get_or parts i x → ended ≡ nat_lt (i + 1) (length parts)
    → (lines ++ part_lines ended x.now) ++ lines_of_parts (slices_of (drop (i + 1) parts)) ≡ lines ++ lines_of_parts (slices_of (drop i parts))
parts-step lines parts i x ended within is e =
    let rest = drop (i + 1) parts in
    let left : length (slices_of rest) ≡ length parts - (i + 1) = length-map rest (λ s. s.now) ∙ length-drop (i + 1) parts in
    let more : ended ≡ not (length (slices_of rest) == 0) = e ∙ has_more (i + 1) (length parts) ∙ ap (λ n. not (n == 0)) (sym left) in
    let whole : drop i parts ≡ x ∷ rest = drop_more parts i x within ∙ ap (λ (y : Bor (List ℕ)). y ∷ rest) (sym is) in
    parts-more lines x.now (slices_of rest) ended more ∙ ap (λ (ps : List (Bor (List ℕ))). lines ++ lines_of_parts (slices_of ps)) (sym whole)

pub parts-at : (lines : List Line) (parts : List (Bor (List ℕ))) (i : ℕ) (d : Bor (List ℕ)) (ended : Bool)
    → i < length parts → ended ≡ nat_lt (i + 1) (length parts)
    → (lines ++ part_lines ended (get_or parts i d).now) ++ lines_of_parts (slices_of (drop (i + 1) parts)) ≡ lines ++ lines_of_parts (slices_of (drop i parts))
parts-at lines parts i d ended within e = parts-step lines parts i (get_or parts i d) ended within (get_or_default parts i d (get_or parts i d) within) e

-- no line is edited by nothing
pub edited-nothing : (k : ℕ) (parts : List (List ℕ)) → edited_from k [] (lines_of_parts parts) ≡ lines_of_parts parts
unfolding plain last_part
edited-nothing k [] = refl
edited-nothing k (part ∷ []) =
    let P : Bool → Type 0 = λ b. edited_from k [] (last_part part b) ≡ last_part part b in
    elim (length part == 0) as P [ true ↦ refl | false ↦ refl ]
edited-nothing k (part ∷ next ∷ parts) = ap (λ (ls : List Line). plain part true ∷ ls) (edited-nothing (suc k) (next ∷ parts))

-- a further edit is seen at its own line alone, and there behind an earlier one
pub new_at-here : (es : List Edit) (e : Edit) (k : ℕ) → k ≡ e.line → new_at (es ++ e ∷ []) k ≡ Some (unwrap_or (new_at es k) e.text)
new_at-here [] e k here = ap (λ b. if b then Some e.text else None) (eq-eqb e.line k (sym here))
new_at-here (f ∷ es) e k here =
    elim (f.line == k) as (λ t. (if t then Some f.text else new_at (es ++ e ∷ []) k) ≡ Some (unwrap_or (if t then Some f.text else new_at es k) e.text)) [
      | true ↦ refl
      | false ↦ new_at-here es e k here
    ]

pub new_at-elsewhere : (es : List Edit) (e : Edit) (k : ℕ) → k ≢ e.line → new_at (es ++ e ∷ []) k ≡ new_at es k
new_at-elsewhere [] e k other = ap (λ b. if b then Some e.text else None) (ne_eqb e.line k (λ here. other (sym here)))
new_at-elsewhere (f ∷ es) e k other =
    elim (f.line == k) as (λ t. (if t then Some f.text else new_at (es ++ e ∷ []) k) ≡ (if t then Some f.text else new_at es k)) [
      | true ↦ refl
      | false ↦ new_at-elsewhere es e k other
    ]

pub edited-beyond : (ls : List Line) (k : ℕ) (es : List Edit) (e : Edit) → e.line < k → edited_from k (es ++ e ∷ []) ls ≡ edited_from k es ls
edited-beyond [] k es e beyond = refl
edited-beyond (l ∷ ls) k es e beyond =
    ap (λ n. with_new l n ∷ edited_from (suc k) (es ++ e ∷ []) ls) (new_at-elsewhere es e k (λ here. absurd (omega arith)))
    ∙ ap (λ (rest : List Line). with_new l (new_at es k) ∷ rest) (edited-beyond ls (suc k) es e (omega arith))

-- what is noted of a further edit
pub edited-noted : (ls : List Line) (j k : ℕ) (es : List Edit) (e : Edit) → k + j ≡ e.line → noted_at (edited_from k es ls) j e.text ≡ edited_from k (es ++ e ∷ []) ls
edited-noted [] j k es e place = refl
edited-noted (l ∷ ls) zero k es e place =
    let here : k ≡ e.line = omega arith in
    ap (λ n. with_new l n ∷ edited_from (suc k) es ls) (sym (new_at-here es e k here))
    ∙ ap (λ (rest : List Line). with_new l (new_at (es ++ e ∷ []) k) ∷ rest) (sym (edited-beyond ls (suc k) es e (omega arith)))
edited-noted (l ∷ ls) (suc j) k es e place =
    ap (λ n. with_new l n ∷ noted_at (edited_from (suc k) es ls) j e.text) (sym (new_at-elsewhere es e k (λ here. absurd (omega arith))))
    ∙ ap (λ (rest : List Line). with_new l (new_at (es ++ e ∷ []) k) ∷ rest) (edited-noted ls j (suc k) es e (omega arith))

-- the lines of rows once one row was written anew
pub noted-set : (rows : List Row) (i : ℕ) (r s : Row) (text : List ℕ) → r ≡ get_or rows i r → line_of s ≡ unless_new text (line_of r)
    → map line_of (set rows i s) ≡ noted_at (map line_of rows) i text
noted-set [] i r s text is new = refl
noted-set (q ∷ qs) zero r s text is new =
    ap (λ (l : Line). l ∷ map line_of qs) (new ∙ ap (λ (x : Row). unless_new text (line_of x)) is)
noted-set (q ∷ qs) (suc i) r s text is new = ap (λ (ls : List Line). line_of q ∷ ls) (noted-set qs i r s text is new)

-- nothing comes of an edit where the line was edited before
pub noted-same : (rows : List Row) (i : ℕ) (r : Row) (text : List ℕ) → r ≡ get_or rows i r → line_of r ≡ unless_new text (line_of r)
    → map line_of rows ≡ noted_at (map line_of rows) i text
noted-same [] i r text is same = refl
noted-same (q ∷ qs) zero r text is same =
    ap (λ (l : Line). l ∷ map line_of qs) (ap line_of (sym is) ∙ same ∙ ap (λ (x : Row). unless_new text (line_of x)) is)
noted-same (q ∷ qs) (suc i) r text is same = ap (λ (ls : List Line). line_of q ∷ ls) (noted-same qs i r text is same)

-- and where there is no such line
pub noted-none : (rows : List Row) (i : ℕ) (text : List ℕ) → length rows ≤ i → map line_of rows ≡ noted_at (map line_of rows) i text
noted-none [] i text past = refl
noted-none (q ∷ qs) zero text past = absurd (omega arith)
noted-none (q ∷ qs) (suc i) text past = ap (λ (ls : List Line). line_of q ∷ ls) (noted-none qs i text (omega arith))

pub unwrap-none : (o : Option (Bor (List ℕ))) (text : List ℕ) → is_some o ≡ false → unwrap_or (option_copied o) text ≡ text
unwrap-none None text none = refl
unwrap-none (Some t) text none = cc

pub unwrap-some : (o : Option (Bor (List ℕ))) (text : List ℕ) → is_some o ≡ true → option_copied o ≡ Some (unwrap_or (option_copied o) text)
unwrap-some None text some = cc
unwrap-some (Some t) text some = refl
