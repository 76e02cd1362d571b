-- The places at which first lines of statements stop.
use Rattle.std.proofs.Common.{◌≡◌, ℕ, suc, ◌+◌, ◌==◌, Bool, true, false, List, [], ◌∷◌, ◌++◌, cond, Some, None, Result, Ok, bytes_eq, codes, drop, take, refl, sym, ap, ◌∙◌, arith, if◌then◌else◌, append_assoc}
use Rattle.std.specs.List.{prefix_len}
use Rattle.std.proofs.lemmas.Slice.Eq.{bytes_eq-Decides}
use Rattle.rev_syntax.specs.declared.fault.SyntaxFault.{SyntaxFault}
use Rattle.rev_syntax.specs.declared.fault.SyntaxKind.TheVariants.{Syntax, BadEscape}
use Rattle.rev_syntax.specs.Bytes.{is_in_name, is_empty, after, without_spaces}
use Rattle.rev_syntax.specs.Faults.{and_then, end_kind, stuck}
use Rattle.rev_syntax.specs.Forms.{stops_name}
use Rattle.rev_syntax.specs.Lines.{LineValue}
use Rattle.rev_syntax.specs.Places.{IsFirstLine}
use Rattle.rev_syntax.specs.Statements.{HeaderValue, RuleHeader, BuildHeader, PoolHeader, DefaultHeader, IncludeHeader, SubninjaHeader, VariableHeader, name_of, after_name, binding_of, bound, last_name, last_path, last_paths, build_line_of, header_of}
use Rattle.rev_syntax.proofs.CutLemmas.{append_nil}
use Rattle.rev_syntax.proofs.FormLemmas.{name-cut}
use Rattle.rev_syntax.proofs.GrammarLemmas.{not_true}
use Rattle.rev_syntax.proofs.StatementLemmas.{line_at, header-given, header-found}
use Rattle.rev_syntax.proofs.LineSteps.{Part, Word, BeforeEquals, BeforeValue, BeforeName, LastName, BeforePath, LastPath, Paths, Outs, OutBar, here, lost, in_list, end_word, outside, run, may_end, verdict, run-dead}
use Rattle.rev_syntax.proofs.PlaceLemmas.{IsReadFrom}
use Rattle.rev_syntax.proofs.BindingPlaces.{tells, told, outcome, tells-more, told-none, ok-told, tells-equals}
use Rattle.rev_syntax.proofs.LinePlaces.{tells-name, tells-path}
use Rattle.rev_syntax.proofs.BuildPlaces.{tells-build, tells-paths}

-- the first name
one-more : (n : ℕ) → 1 + n ≡ suc n
one-more n = omega arith

word-run : (flag : Bool) (word text : List ℕ) → verdict flag (run (here (Word word)) text) ≡ verdict flag (run (here (Word (word ++ name_of text))) (after is_in_name text))
word-run flag word [] = refl
word-run flag word (b ∷ bs) = by (is_in_name b) refl (word-run flag (word ++ b ∷ []) bs)
  where
    by : (t : Bool) → is_in_name b ≡ t → verdict flag (run (here (Word (word ++ b ∷ []))) bs) ≡ verdict flag (run (here (Word ((word ++ b ∷ []) ++ name_of bs))) (after is_in_name bs))
        → verdict flag (run (outside (Word word) b) bs)
        ≡ verdict flag (run (here (Word (word ++ take (cond t (1 + prefix_len is_in_name bs) 0) (b ∷ bs)))) (drop (cond t (1 + prefix_len is_in_name bs) 0) (b ∷ bs)))
    by true e rest =
        let n = prefix_len is_in_name bs in
        ap (λ t. verdict flag (run (if t then here (Word (word ++ b ∷ [])) else end_word word b) bs)) e
        ∙ rest
        ∙ ap (λ w. verdict flag (run (here (Word w)) (after is_in_name bs))) (append_assoc word (b ∷ []) (name_of bs))
        ∙ sym (ap (λ k. verdict flag (run (here (Word (word ++ take k (b ∷ bs)))) (drop k (b ∷ bs)))) (one-more n))
    by false e rest = ap (λ w. verdict flag (run (here (Word w)) (b ∷ bs))) (sym (append_nil word))

-- what follows a name that no byte goes on
word-is : (flag : Bool) (word : List ℕ) (part : Part) → may_end part ≡ false → ((b : ℕ) → is_in_name b ≡ false → end_word word b ≡ outside part b)
    → (behind : List ℕ) → stops_name behind ≡ true → verdict flag (run (here (Word word)) behind) ≡ verdict flag (run (here part) behind)
word-is flag word part ends same [] stops = sym (ap (λ t. if t then (if flag then None else Some BadEscape) else Some (end_kind flag)) ends)
word-is flag word part ends same (b ∷ bs) stops =
    let free = not_true (is_in_name b) stops in
    ap (λ t. verdict flag (run (if t then here (Word (word ++ b ∷ [])) else end_word word b) bs)) free ∙ ap (λ s. verdict flag (run s bs)) (same b free)

-- the words of the table
worded : (word other : List ℕ) (part : Part) → bytes_eq word other ≡ true → ((b : ℕ) → is_in_name b ≡ false → end_word other b ≡ outside part b) → (b : ℕ) → is_in_name b ≡ false → end_word word b ≡ outside part b
worded word other part e same b h = ap (λ w. end_word w b) ((bytes_eq-Decides word other).0 e) ∙ same b h

name-word : (b : ℕ) → is_in_name b ≡ false → (if b == 32 then here BeforeName else lost) ≡ outside BeforeName b
name-word b h = by (b == 32)
  where
    by : (t : Bool) → (if t then here BeforeName else lost) ≡ (if t then here BeforeName else (if is_in_name b then here LastName else lost))
    by true = refl
    by false = sym (ap (λ t. if t then here LastName else lost) h)

-- a word that is none of them
variable-word : (c : ℕ) (cs : List ℕ) (b : ℕ) → bytes_eq (c ∷ cs) (codes "rule") ≡ false → bytes_eq (c ∷ cs) (codes "build") ≡ false → bytes_eq (c ∷ cs) (codes "pool") ≡ false
    → bytes_eq (c ∷ cs) (codes "default") ≡ false → bytes_eq (c ∷ cs) (codes "include") ≡ false → bytes_eq (c ∷ cs) (codes "subninja") ≡ false
    → end_word (c ∷ cs) b ≡ outside BeforeEquals b
variable-word c cs b e1 e2 e3 e4 e5 e6 =
    let name = if b == 32 then here BeforeName else lost in
    let path = in_list lost lost BeforePath LastPath b in
    (λ i. if e1 i then name
    else (if e2 i then in_list lost (here (OutBar false)) (Outs false) (Outs true) b
    else (if e3 i then name
    else (if e4 i then in_list lost lost (Paths false) (Paths true) b
    else (if e5 i then path
    else (if e6 i then path
    else (if b == 32 then here BeforeEquals else (if b == 61 then here BeforeValue else lost))))))))

-- bindings at the file's level
tells-variable : (line : LineValue) → bytes_eq (name_of line.text) (codes "rule") ≡ false → bytes_eq (name_of line.text) (codes "build") ≡ false → bytes_eq (name_of line.text) (codes "pool") ≡ false
    → bytes_eq (name_of line.text) (codes "default") ≡ false → bytes_eq (name_of line.text) (codes "include") ≡ false → bytes_eq (name_of line.text) (codes "subninja") ≡ false
    → tells (binding_of line line.text) ≡ outcome line (run (here (Word (name_of line.text))) (after is_in_name line.text))
tells-variable line = by (name_of line.text) (after is_in_name line.text) (name-cut line.text).0 (name-cut line.text).2
  where
    none : (behind : List ℕ) → stops_name behind ≡ true → tells {A = HeaderValue} (stuck line behind) ≡ outcome line (run (here (Word [])) behind)
    none [] stops = refl
    none (b ∷ bs) stops =
        sym (ap (λ t. outcome line (run (if t then here (Word (b ∷ [])) else lost) bs)) (not_true (is_in_name b) stops) ∙ ap (outcome line) (run-dead Syntax bs))

    by : (word behind : List ℕ) → word ++ behind ≡ line.text → stops_name behind ≡ true
        → bytes_eq word (codes "rule") ≡ false → bytes_eq word (codes "build") ≡ false → bytes_eq word (codes "pool") ≡ false
        → bytes_eq word (codes "default") ≡ false → bytes_eq word (codes "include") ≡ false → bytes_eq word (codes "subninja") ≡ false
        → tells (if is_empty word then stuck line line.text else bound line word (without_spaces behind)) ≡ outcome line (run (here (Word word)) behind)
    by [] behind whole stops e1 e2 e3 e4 e5 e6 = ap (λ t. tells (stuck {A = HeaderValue} line t)) (sym whole) ∙ none behind stops
    by (c ∷ cs) behind whole stops e1 e2 e3 e4 e5 e6 =
        tells-equals line (c ∷ cs) behind
        ∙ sym (ap (told line) (word-is line.ended (c ∷ cs) BeforeEquals refl (λ b h. variable-word c cs b e1 e2 e3 e4 e5 e6) behind stops))

choose : (P : Result HeaderValue SyntaxFault → Type 0) (t : Bool) (x y : Result HeaderValue SyntaxFault) → (t ≡ true → P x) → (t ≡ false → P y) → P (if t then x else y)
choose P true x y p q = p refl
choose P false x y p q = q refl

-- first lines
pub tells-header : (line : LineValue) → tells (header_of line) ≡ outcome line (run (here (Word [])) line.text)
tells-header line =
    let word = name_of line.text in
    let behind = after is_in_name line.text in
    let stops = (name-cut line.text).2 in
    let rest = after_name line.text in
    let P : Result HeaderValue SyntaxFault → Type 0 = λ r. tells r ≡ outcome line (run (here (Word word)) behind) in
    let variable = and_then (binding_of line line.text) (λ binding. Ok (VariableHeader binding)) in
    let subninja = and_then (last_path line rest) (λ path. Ok (SubninjaHeader path)) in
    let after_include = if bytes_eq word (codes "subninja") then subninja else variable in
    let include = and_then (last_path line rest) (λ path. Ok (IncludeHeader path)) in
    let after_default = if bytes_eq word (codes "include") then include else after_include in
    let default = and_then (last_paths line rest) (λ paths. Ok (DefaultHeader paths)) in
    let after_pool = if bytes_eq word (codes "default") then default else after_default in
    let pool = and_then (last_name line rest) (λ name. Ok (PoolHeader name)) in
    let after_build = if bytes_eq word (codes "pool") then pool else after_pool in
    let build = and_then (build_line_of line rest) (λ build. Ok (BuildHeader build)) in
    let after_rule = if bytes_eq word (codes "build") then build else after_build in
    let rule = and_then (last_name line rest) (λ name. Ok (RuleHeader name)) in
    let go : (other : List ℕ) (part : Part) → may_end part ≡ false → ((b : ℕ) → is_in_name b ≡ false → end_word other b ≡ outside part b) → bytes_eq word other ≡ true
    → outcome line (run (here part) behind) ≡ outcome line (run (here (Word word)) behind) =
    λ other part ends same e. sym (ap (told line) (word-is line.ended word part ends (worded word other part e same) behind stops)) in
    choose P (bytes_eq word (codes "rule")) rule after_rule
    (λ e. tells-more (last_name line rest) RuleHeader ∙ tells-name line behind ∙ go (codes "rule") BeforeName refl name-word e)
    (λ e1. choose P (bytes_eq word (codes "build")) build after_build
    (λ e. tells-more (build_line_of line rest) BuildHeader ∙ tells-build line behind ∙ go (codes "build") (Outs false) refl (λ b h. refl) e)
    (λ e2. choose P (bytes_eq word (codes "pool")) pool after_pool
    (λ e. tells-more (last_name line rest) PoolHeader ∙ tells-name line behind ∙ go (codes "pool") BeforeName refl name-word e)
    (λ e3. choose P (bytes_eq word (codes "default")) default after_default
    (λ e. tells-more (last_paths line rest) DefaultHeader ∙ tells-paths line behind ∙ go (codes "default") (Paths false) refl (λ b h. refl) e)
    (λ e4. choose P (bytes_eq word (codes "include")) include after_include
    (λ e. tells-more (last_path line rest) IncludeHeader ∙ tells-path line behind ∙ go (codes "include") BeforePath refl (λ b h. refl) e)
    (λ e5. choose P (bytes_eq word (codes "subninja")) subninja variable
    (λ e. tells-more (last_path line rest) SubninjaHeader ∙ tells-path line behind ∙ go (codes "subninja") BeforePath refl (λ b h. refl) e)
    (λ e6. tells-more (binding_of line line.text) VariableHeader ∙ tells-variable line e1 e2 e3 e4 e5 e6))))))
    ∙ sym (ap (told line) (word-run line.ended [] line.text))

-- the first lines that read
first-found : (number : ℕ) (text : List ℕ) → verdict true (run (here (Word [])) text) ≡ None → IsFirstLine number text
first-found number text h =
    let line = line_at number text in
    let read = ok-told (header_of line) (tells-header line ∙ ap (told line) h) in
    (read.0, (header-found line read.0 read.1).is)

first-given : (number : ℕ) (text : List ℕ) → IsFirstLine number text → verdict true (run (here (Word [])) text) ≡ None
first-given number text (header, is) = let line = line_at number text in told-none line (verdict true (run (here (Word [])) text)) (sym (tells-header line) ∙ ap tells (header-given is))

pub first-read : (number : ℕ) → IsReadFrom (Word []) (IsFirstLine number)
first-read number = record { found = first-found number; given = first-given number }
