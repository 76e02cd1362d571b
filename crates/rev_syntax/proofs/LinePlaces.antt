-- The places at which names and paths that a line ends with stop.
use Rattle.std.proofs.Common.{◌≡◌, ℕ, suc, ◌+◌, ◌==◌, Bool, true, false, ◌||◌, List, [], ◌∷◌, cond, Option, Some, None, Result, Ok, Err, take, drop, refl, sym, ap, ◌∙◌, arith, if◌then◌else◌}
use Rattle.std.specs.List.{prefix_len}
use Rattle.std.proofs.lemmas.Bool.{eqb-true}
use Rattle.rev_syntax.specs.declared.bytes.End.TheVariants.{PathEnd}
use Rattle.rev_syntax.specs.declared.fault.SyntaxFault.{SyntaxFault}
use Rattle.rev_syntax.specs.declared.fault.SyntaxKind.{SyntaxKind}
use Rattle.rev_syntax.specs.declared.fault.SyntaxKind.TheVariants.{Syntax, BadEscape}
use Rattle.rev_syntax.specs.Bytes.{is_in_name, is_in_bare_name, is_space, is_empty, after, without_spaces, begins_with}
use Rattle.rev_syntax.specs.Ends.{ends_at, free_len}
use Rattle.rev_syntax.specs.Faults.{and_then, stuck, closed}
use Rattle.rev_syntax.specs.Lines.{LineValue}
use Rattle.rev_syntax.specs.Paths as path
use Rattle.rev_syntax.specs.Paths.{text_of, path_of}
use Rattle.rev_syntax.specs.Statements.{name_of, after_name, last_name, last_path}
use Rattle.rev_syntax.specs.Texts.{PieceValue, is_no_text, is_escaped}
use Rattle.rev_syntax.proofs.TextSteps.{Escape, Outside, Dollar, Brace, Named, estep, tnext, tfault}
use Rattle.rev_syntax.proofs.LineSteps.{Part, BeforeName, LastName, AfterLast, BeforePath, LastPath, State, At, here, lost, lift, in_text, in_list, outside, run, verdict, run-dead}
use Rattle.rev_syntax.proofs.StepLemmas.{differs}
use Rattle.rev_syntax.proofs.BindingPlaces.{tells, told, outcome, tells-more, tells-finished, skips, no-space, tells-text}

one-more : (n : ℕ) → 1 + n ≡ suc n
one-more n = omega arith

-- spaces that the line may end with
after-last : (flag : Bool) (text : List ℕ) → verdict flag (run (here AfterLast) text) ≡ verdict flag (run (here AfterLast) (without_spaces text))
after-last flag = skips is_space AfterLast AfterLast flag (λ b e. ap (λ t. if t then here AfterLast else lost) e) (λ b e. refl) refl

tells-shut : (line : LineValue) (text : List ℕ) → begins_with 32 text ≡ false → tells (closed line text) ≡ outcome line (run (here AfterLast) text)
tells-shut line [] free = tells-finished line tt
tells-shut line (b ∷ bs) free = sym (ap (λ t. outcome line (run (if t then here AfterLast else lost) bs)) free ∙ ap (outcome line) (run-dead Syntax bs))

tells-closed : {A : Type 0} (line : LineValue) (value : A) (text : List ℕ)
    → tells (and_then (closed line (without_spaces text)) (λ _. Ok value)) ≡ outcome line (run (here AfterLast) text)
tells-closed line value text =
    tells-more (closed line (without_spaces text)) (λ _. value) ∙ tells-shut line (without_spaces text) (no-space text) ∙ sym (ap (told line) (after-last line.ended text))

-- names
before-name : (flag : Bool) (text : List ℕ) → verdict flag (run (here BeforeName) text) ≡ verdict flag (run (here BeforeName) (without_spaces text))
before-name flag = skips is_space BeforeName BeforeName flag (λ b e. ap (λ t. if t then here BeforeName else (if is_in_name b then here LastName else lost)) e) (λ b e. refl) refl

in-name : (flag : Bool) (text : List ℕ) → verdict flag (run (here LastName) text) ≡ verdict flag (run (here AfterLast) (after is_in_name text))
in-name flag =
    skips is_in_name LastName AfterLast flag (λ b e. ap (λ t. if t then here LastName else (if b == 32 then here AfterLast else lost)) e)
    (λ b e. ap (λ t. if t then here LastName else (if b == 32 then here AfterLast else lost)) e) refl

tells-named : (line : LineValue) (text : List ℕ) → begins_with 32 text ≡ false → tells (last_name line text) ≡ outcome line (run (here BeforeName) text)
tells-named line [] free = refl
tells-named line (b ∷ bs) free =
    by (is_in_name b) refl ∙ sym (ap (λ t. outcome line (run (if t then here BeforeName else (if is_in_name b then here LastName else lost)) bs)) free)
  where
    by : (t : Bool) → is_in_name b ≡ t → tells (last_name line (b ∷ bs)) ≡ outcome line (run (if t then here LastName else lost) bs)
    by true e =
        let n = prefix_len is_in_name bs in
        (λ i. tells (if is_empty (take (cond (e i) (1 + n) 0) (b ∷ bs)) then stuck line (b ∷ bs)
        else and_then (closed line (without_spaces (drop (cond (e i) (1 + n) 0) (b ∷ bs)))) (λ _. Ok (name_of (b ∷ bs)))))
        ∙ ap (λ k. tells (if is_empty (take k (b ∷ bs)) then stuck line (b ∷ bs) else and_then (closed line (without_spaces (drop k (b ∷ bs)))) (λ _. Ok (name_of (b ∷ bs))))) (one-more n)
        ∙ tells-closed line (name_of (b ∷ bs)) (after is_in_name bs) ∙ sym (ap (told line) (in-name line.ended bs))
    by false e =
        ap (λ t. tells (if is_empty (take (cond t (1 + prefix_len is_in_name bs) 0) (b ∷ bs)) then stuck line (b ∷ bs) else and_then (closed line (after_name (b ∷ bs))) (λ _. Ok (name_of (b ∷ bs))))) e
        ∙ sym (ap (outcome line) (run-dead Syntax bs))

pub tells-name : (line : LineValue) (text : List ℕ) → tells (last_name line (without_spaces text)) ≡ outcome line (run (here BeforeName) text)
tells-name line text = tells-named line (without_spaces text) (no-space text) ∙ sym (ap (told line) (before-name line.ended text))

-- paths up to their ends
either : (a b : Bool) → (a || b) ≡ false → (a ≡ false) × (b ≡ false)
either true b h = cc
either false b h = (refl, h)

pub no-end : (b : ℕ) → ends_at PathEnd b ≡ false → ((b == 32) ≡ false) × ((b == 58) ≡ false) × ((b == 124) ≡ false)
no-end b h = let a = either (b == 32 || b == 58) (b == 124) h in let c = either (b == 32) (b == 58) a.0 in (c.0, c.1, a.1)

pub list-text : (colon bar : State) (again more : Part) (b : ℕ) → ends_at PathEnd b ≡ false → in_list colon bar again more b ≡ in_text more b
list-text colon bar again more b h =
    let free = no-end b h in
    (λ i. if free.0 i then here again else (if free.1 i then colon else (if free.2 i then bar else in_text more b)))

abbrev pub or_else : Option SyntaxKind → Option SyntaxKind → Option SyntaxKind
or_else None others = others
or_else (Some kind) others = Some kind

abbrev is_dollar : Escape → Bool
is_dollar Outside = false
is_dollar Dollar = true
is_dollar Brace = false
is_dollar Named = false

-- what follows a path byte by byte
abbrev PathRun : Part → Bool → Escape → List ℕ → Type 0
PathRun part flag e text =
    verdict flag (run (At part e) text)
    ≡ or_else (tfault e (take (free_len PathEnd (is_dollar e) text) text)) (verdict flag (run (here part) (drop (free_len PathEnd (is_dollar e) text) text)))

-- one byte that does not end the path
path-on : (part : Part) (flag taken : Bool) (e : Escape) (b : ℕ) (bs : List ℕ) (r : Result Escape SyntaxKind) → estep e b ≡ r
    → ((f : Escape) → estep e b ≡ Ok f → is_dollar f ≡ taken) → ((f : Escape) → PathRun part flag f bs)
    → verdict flag (run (lift part (estep e b)) bs)
    ≡ or_else (tnext (estep e b) (λ next. tfault next (take (free_len PathEnd taken bs) bs))) (verdict flag (run (here part) (drop (free_len PathEnd taken bs) bs)))
path-on part flag taken e b bs (Ok f) is same rest =
    let n = free_len PathEnd taken bs in
    ap (λ r. verdict flag (run (lift part r) bs)) is ∙ rest f
    ∙ ap (λ t. or_else (tfault f (take (free_len PathEnd t bs) bs)) (verdict flag (run (here part) (drop (free_len PathEnd t bs) bs)))) (same f is)
    ∙ sym (ap (λ r. or_else (tnext r (λ next. tfault next (take n bs))) (verdict flag (run (here part) (drop n bs)))) is)
path-on part flag taken e b bs (Err kind) is same rest =
    let n = free_len PathEnd taken bs in
    ap (λ r. verdict flag (run (lift part r) bs)) is ∙ ap (verdict flag) (run-dead kind bs)
    ∙ sym (ap (λ r. or_else (tnext r (λ next. tfault next (take n bs))) (verdict flag (run (here part) (drop n bs)))) is)

abbrev escape_or : Result Escape SyntaxKind → Escape
escape_or (Ok e) = e
escape_or (Err kind) = Outside

outside-dollar : (b : ℕ) (f : Escape) → estep Outside b ≡ Ok f → is_dollar f ≡ (b == 36)
outside-dollar b f h = by (b == 36) (is_no_text b) h
  where
    by : (t n : Bool) → (if t then Ok Dollar else (if n then Err Syntax else Ok Outside)) ≡ Ok f → is_dollar f ≡ t
    by true n h = ap (λ r. is_dollar (escape_or r)) (sym h)
    by false true h = cc
    by false false h = ap (λ r. is_dollar (escape_or r)) (sym h)

dollar-free : (b : ℕ) (f : Escape) → estep Dollar b ≡ Ok f → is_dollar f ≡ false
dollar-free b f h = by (is_escaped b) (b == 123) (is_in_bare_name b) h
  where
    by : (t u v : Bool) → (if t then Ok Outside else (if u then Ok Brace else (if v then Ok Outside else Err BadEscape))) ≡ Ok f → is_dollar f ≡ false
    by true u v h = ap (λ r. is_dollar (escape_or r)) (sym h)
    by false true v h = ap (λ r. is_dollar (escape_or r)) (sym h)
    by false false true h = ap (λ r. is_dollar (escape_or r)) (sym h)
    by false false false h = cc

brace-free : (b : ℕ) (f : Escape) → estep Brace b ≡ Ok f → is_dollar f ≡ (b == 36)
brace-free b f h = by (is_in_name b) refl h
  where
    by : (t : Bool) → is_in_name b ≡ t → (if t then Ok Named else Err BadEscape) ≡ Ok f → is_dollar f ≡ (b == 36)
    by true e h = ap (λ r. is_dollar (escape_or r)) (sym h) ∙ sym (differs is_in_name b 36 refl e)
    by false e h = cc

named-free : (b : ℕ) (f : Escape) → estep Named b ≡ Ok f → is_dollar f ≡ (b == 36)
named-free b f h = by (is_in_name b) refl (b == 125) refl h
  where
    by : (t : Bool) → is_in_name b ≡ t → (u : Bool) → (b == 125) ≡ u → (if t then Ok Named else (if u then Ok Outside else Err BadEscape)) ≡ Ok f → is_dollar f ≡ (b == 36)
    by true e u d h = ap (λ r. is_dollar (escape_or r)) (sym h) ∙ sym (differs is_in_name b 36 refl e)
    by false e true d h = ap (λ r. is_dollar (escape_or r)) (sym h) ∙ sym (ap (λ (x : ℕ). x == 36) (eqb-true b 125 d))
    by false e false d h = cc

-- in braces no end of a path can stand
end-is : (b : ℕ) → ends_at PathEnd b ≡ true → (test : ℕ → Bool) → test 32 ≡ false → test 58 ≡ false → test 124 ≡ false → test b ≡ false
end-is b h test x y z = by (b == 32) refl (b == 58) refl (b == 124) refl h
  where
    by : (t : Bool) → (b == 32) ≡ t → (u : Bool) → (b == 58) ≡ u → (v : Bool) → (b == 124) ≡ v → (t || u || v) ≡ true → test b ≡ false
    by true e u f v g h = ap test (eqb-true b 32 e) ∙ x
    by false e true f v g h = ap test (eqb-true b 58 f) ∙ y
    by false e false f true g h = ap test (eqb-true b 124 g) ∙ z
    by false e false f false g h = cc

brace-stops : (part : Part) (flag : Bool) (b : ℕ) (bs : List ℕ) → ends_at PathEnd b ≡ true → verdict flag (run (lift part (estep Brace b)) bs) ≡ Some BadEscape
brace-stops part flag b bs h =
    ap (λ t. verdict flag (run (lift part (if t then Ok Named else Err BadEscape)) bs)) (end-is b h is_in_name refl refl refl) ∙ ap (verdict flag) (run-dead BadEscape bs)

named-stops : (part : Part) (flag : Bool) (b : ℕ) (bs : List ℕ) → ends_at PathEnd b ≡ true → verdict flag (run (lift part (estep Named b)) bs) ≡ Some BadEscape
named-stops part flag b bs h =
    (λ i. verdict flag (run (lift part (if end-is b h is_in_name refl refl refl i then Ok Named else (if end-is b h (λ x. x == 125) refl refl refl i then Ok Outside else Err BadEscape))) bs))
    ∙ ap (verdict flag) (run-dead BadEscape bs)

-- a byte of a path that no `$` takes along, which ends it or does not
split-end : (part : Part) (flag : Bool) (e : Escape) (b : ℕ) (bs : List ℕ) (state : State)
    → (ends_at PathEnd b ≡ true → verdict flag (run state bs) ≡ or_else (tfault e []) (verdict flag (run (here part) (b ∷ bs))))
    → (ends_at PathEnd b ≡ false → verdict flag (run state bs)
    ≡ or_else (tnext (estep e b) (λ next. tfault next (take (free_len PathEnd (b == 36) bs) bs))) (verdict flag (run (here part) (drop (free_len PathEnd (b == 36) bs) bs))))
    → verdict flag (run state bs)
    ≡ or_else (tfault e (take (free_len PathEnd false (b ∷ bs)) (b ∷ bs))) (verdict flag (run (here part) (drop (free_len PathEnd false (b ∷ bs)) (b ∷ bs))))
split-end part flag e b bs state stop go = by (ends_at PathEnd b) refl
  where
    by : (t : Bool) → ends_at PathEnd b ≡ t → verdict flag (run state bs)
        ≡ or_else (tfault e (take (if t then 0 else suc (free_len PathEnd (b == 36) bs)) (b ∷ bs))) (verdict flag (run (here part) (drop (if t then 0 else suc (free_len PathEnd (b == 36) bs)) (b ∷ bs))))
    by true d = stop d
    by false d = go d

pub path-run : (part : Part) → ((b : ℕ) → ends_at PathEnd b ≡ false → outside part b ≡ in_text part b) → (flag : Bool) (e : Escape) (text : List ℕ) → PathRun part flag e text
path-run part same flag Outside [] = refl
path-run part same flag Dollar [] = refl
path-run part same flag Brace [] = refl
path-run part same flag Named [] = refl
path-run part same flag Dollar (b ∷ bs) = path-on part flag false Dollar b bs (estep Dollar b) refl (dollar-free b) (λ f. path-run part same flag f bs)
path-run part same flag Outside (b ∷ bs) =
    split-end part flag Outside b bs (outside part b) (λ d. refl)
    (λ d. ap (λ s. verdict flag (run s bs)) (same b d) ∙ path-on part flag (b == 36) Outside b bs (estep Outside b) refl (outside-dollar b) (λ f. path-run part same flag f bs))
path-run part same flag Brace (b ∷ bs) =
    split-end part flag Brace b bs (lift part (estep Brace b)) (brace-stops part flag b bs) (λ d. path-on part flag (b == 36) Brace b bs (estep Brace b) refl (brace-free b) (λ f. path-run part same flag f bs))
path-run part same flag Named (b ∷ bs) =
    split-end part flag Named b bs (lift part (estep Named b)) (named-stops part flag b bs) (λ d. path-on part flag (b == 36) Named b bs (estep Named b) refl (named-free b) (λ f. path-run part same flag f bs))

-- what a path ends at
abbrev pub begins_end : List ℕ → Bool
begins_end [] = true
begins_end (b ∷ bs) = ends_at PathEnd b

pub path-rest : (taken : Bool) (text : List ℕ) → begins_end (drop (free_len PathEnd taken text) text) ≡ true
path-rest taken [] = refl
path-rest true (b ∷ bs) = path-rest false bs
path-rest false (b ∷ bs) = by (ends_at PathEnd b) refl (path-rest (b == 36) bs)
  where
    by : (t : Bool) → ends_at PathEnd b ≡ t → begins_end (drop (free_len PathEnd (b == 36) bs) bs) ≡ true
        → begins_end (drop (if t then 0 else suc (free_len PathEnd (b == 36) bs)) (b ∷ bs)) ≡ true
    by true e rest = e
    by false e rest = rest

path-over : (flag : Bool) (text : List ℕ) → begins_end text ≡ true → verdict flag (run (here LastPath) text) ≡ verdict flag (run (here AfterLast) text)
path-over flag [] h = refl
path-over flag (b ∷ bs) h = by (b == 32) refl (b == 58) (b == 124) h
  where
    by : (t : Bool) → (b == 32) ≡ t → (u v : Bool) → (t || u || v) ≡ true
        → verdict flag (run (if t then here AfterLast else (if u then lost else (if v then lost else in_text LastPath b))) bs) ≡ verdict flag (run (if t then here AfterLast else lost) bs)
    by true e u v h = refl
    by false e true v h = refl
    by false e false true h = refl
    by false e false false h = cc

before-path : (flag : Bool) (text : List ℕ) → verdict flag (run (here BeforePath) text) ≡ verdict flag (run (here BeforePath) (without_spaces text))
before-path flag =
    skips is_space BeforePath BeforePath flag (λ b e. ap (λ t. if t then here BeforePath else (if b == 58 then lost else (if b == 124 then lost else in_text LastPath b))) e) (λ b e. refl) refl

abbrev closed_path : LineValue → path.Part (List PieceValue) → Result (List PieceValue) SyntaxFault
closed_path line part = and_then (closed line part.1) (λ _. Ok part.0)

tells-whole : (line : LineValue) (text : List ℕ)
    → tells (and_then (and_then (text_of line (take (free_len PathEnd false text) text)) (λ path. Ok (path, without_spaces (drop (free_len PathEnd false text) text)))) (closed_path line))
    ≡ outcome line (run (here LastPath) text)
tells-whole line text =
    let n = free_len PathEnd false text in
    let rest = drop n text in
    by n (text_of line (take n text)) (tells-text line (take n text))
    ∙ ap (λ o. told line (or_else (tfault Outside (take n text)) o)) (sym (path-over line.ended rest (path-rest false text)))
    ∙ sym (ap (told line) (path-run LastPath (λ b h. list-text lost lost AfterLast LastPath b h) line.ended Outside text))
  where
    fault : (n : ℕ) (o : Option SyntaxKind) (f : SyntaxFault) → Some f ≡ told line o → Some f ≡ told line (or_else o (verdict line.ended (run (here AfterLast) (drop n text))))
    fault n None f h = cc
    fault n (Some kind) f h = h

    value : (n : ℕ) (o : Option SyntaxKind) (path : List PieceValue) → None ≡ told line o
        → tells (closed_path line (path, without_spaces (drop n text))) ≡ told line (or_else o (verdict line.ended (run (here AfterLast) (drop n text))))
    value n None path h = tells-closed line path (drop n text)
    value n (Some kind) path h = cc

    by : (n : ℕ) (answer : Result (List PieceValue) SyntaxFault) → tells answer ≡ told line (tfault Outside (take n text))
        → tells (and_then (and_then answer (λ path. Ok (path, without_spaces (drop n text)))) (closed_path line))
        ≡ told line (or_else (tfault Outside (take n text)) (verdict line.ended (run (here AfterLast) (drop n text))))
    by n (Ok path) h = value n (tfault Outside (take n text)) path h
    by n (Err f) h = fault n (tfault Outside (take n text)) f h

tells-pathed : (line : LineValue) (text : List ℕ) → begins_with 32 text ≡ false → tells (last_path line text) ≡ outcome line (run (here BeforePath) text)
tells-pathed line [] free = refl
tells-pathed line (b ∷ bs) free = by (ends_at PathEnd b) refl (tells-whole line (b ∷ bs))
  where
    stopped : (u v : Bool) → (false || u || v) ≡ true → in_text LastPath b ≡ in_text LastPath b → Some (record { kind = Syntax; line = line.number }) ≡ outcome line (run (if u then lost else (if v then lost else in_text LastPath b)) bs)
    stopped true v h e = sym (ap (outcome line) (run-dead Syntax bs))
    stopped false true h e = sym (ap (outcome line) (run-dead Syntax bs))
    stopped false false h e = cc

    by : (t : Bool) → ends_at PathEnd b ≡ t
        → tells (and_then (and_then (text_of line (take (free_len PathEnd false (b ∷ bs)) (b ∷ bs))) (λ path. Ok (path, without_spaces (drop (free_len PathEnd false (b ∷ bs)) (b ∷ bs))))) (closed_path line))
        ≡ outcome line (run (here LastPath) (b ∷ bs))
        → tells (last_path line (b ∷ bs)) ≡ outcome line (run (here BeforePath) (b ∷ bs))
    by true e whole =
        ap (λ t. tells (and_then (if is_empty (take (if t then 0 else suc (free_len PathEnd (b == 36) bs)) (b ∷ bs)) then stuck line (b ∷ bs)
        else and_then (text_of line (take (free_len PathEnd false (b ∷ bs)) (b ∷ bs))) (λ path. Ok (path, without_spaces (drop (free_len PathEnd false (b ∷ bs)) (b ∷ bs))))) (closed_path line))) e
        ∙ stopped (b == 58) (b == 124) (sym (ap (λ t. t || b == 58 || b == 124) free) ∙ e) refl
        ∙ sym (ap (λ t. outcome line (run (if t then here BeforePath else (if b == 58 then lost else (if b == 124 then lost else in_text LastPath b))) bs)) free)
    by false e whole =
        ap (λ t. tells (and_then (if is_empty (take (if t then 0 else suc (free_len PathEnd (b == 36) bs)) (b ∷ bs)) then stuck line (b ∷ bs)
        else and_then (text_of line (take (free_len PathEnd false (b ∷ bs)) (b ∷ bs))) (λ path. Ok (path, without_spaces (drop (free_len PathEnd false (b ∷ bs)) (b ∷ bs))))) (closed_path line))) e
        ∙ whole
        ∙ ap (λ s. outcome line (run s bs)) (list-text lost lost AfterLast LastPath b e)
        ∙ sym (ap (λ s. outcome line (run s bs)) (list-text lost lost BeforePath LastPath b e))

pub tells-path : (line : LineValue) (text : List ℕ) → tells (last_path line (without_spaces text)) ≡ outcome line (run (here BeforePath) text)
tells-path line text = tells-pathed line (without_spaces text) (no-space text) ∙ sym (ap (told line) (before-path line.ended text))
