-- What the bytes of a line lead to: an end from everywhere, and faults of one kind.
use Rattle.std.proofs.Common.{◌≡◌, ℕ, ◌==◌, Bool, true, false, ◌&&◌, ◌||◌, List, [], ◌∷◌, ◌++◌, None, Ok, Err, bytes_eq, codes, refl, sym, ap, subst, ◌∙◌, if◌then◌else◌}
use Rattle.std.proofs.lemmas.Bool.{eqb-true}
use Rattle.std.proofs.lemmas.Slice.Eq.{bytes_eq-Decides}
use Rattle.rev_syntax.specs.declared.fault.SyntaxKind.{SyntaxKind}
use Rattle.rev_syntax.specs.declared.fault.SyntaxKind.TheVariants.{Syntax, BadEscape}
use Rattle.rev_syntax.specs.Bytes.{is_in_name, is_in_bare_name, is_empty}
use Rattle.rev_syntax.specs.Cutting.{IsPaired, NoBytes, Single, Taken}
use Rattle.rev_syntax.specs.Grammar.{is_run}
use Rattle.rev_syntax.specs.Places.{InEscape, IsKind, Escaping, Other}
use Rattle.rev_syntax.specs.Places as place
use Rattle.rev_syntax.specs.Texts.{is_no_text, is_escaped}
use Rattle.rev_syntax.proofs.GrammarLemmas.{both}
use Rattle.rev_syntax.proofs.TextSteps.{Escape, Outside, Dollar, Brace, Named}
use Rattle.rev_syntax.proofs.LineSteps.{Part, Indent, BoundName, BeforeEquals, BeforeValue, Value, Word, BeforeName, LastName, AfterLast, BeforePath, LastPath, Paths, Outs, OutBar, ImplicitOuts, BeforeRule, InRule, Ins, InBar, Implicit, NextBar, Order, LastBar, Validations, State, At, Dead, here, lost, lift, in_text, in_list, to_rule, end_word, outside, step, run, verdict, run-dead}

-- a byte that passes a test is not one that does not
pub differs : (test : ℕ → Bool) (b c : ℕ) → test c ≡ false → test b ≡ true → (b == c) ≡ false
differs test b c none h = by (b == c) refl
  where
    by : (t : Bool) → (b == c) ≡ t → t ≡ false
    by false e = refl
    by true e = sym h ∙ ap test (eqb-true b c e) ∙ none

-- outside of escapes a byte leads into one exactly where it is a `$`, and what cannot stand there is Syntax
abbrev Follows : ℕ → State → Type 0
Follows b (Dead kind) = kind ≡ Syntax
Follows b (At part Outside) = (b == 36) ≡ false
Follows b (At part Dollar) = (b == 36) ≡ true
Follows b (At part Brace) = ⊥
Follows b (At part Named) = ⊥

choose : (P : State → Type 0) (t : Bool) (x y : State) → (t ≡ true → P x) → (t ≡ false → P y) → P (if t then x else y)
choose P true x y p q = p refl
choose P false x y p q = q refl

at-byte : (part : Part) (b c : ℕ) → (c == 36) ≡ false → (b == c) ≡ true → Follows b (here part)
at-byte part b c none e = ap (λ (x : ℕ). x == 36) (eqb-true b c e) ∙ none

at-name : (part : Part) (b : ℕ) → is_in_name b ≡ true → Follows b (here part)
at-name part b h = differs is_in_name b 36 refl h

text-follows : (part : Part) (b : ℕ) → Follows b (in_text part b)
text-follows part b = by (b == 36) refl (is_no_text b)
  where
    by : (t : Bool) → (b == 36) ≡ t → (n : Bool) → Follows b (lift part (if t then Ok Dollar else (if n then Err Syntax else Ok Outside)))
    by true e n = e
    by false e true = refl
    by false e false = e

list-follows : (colon bar : State) (again more : Part) (b : ℕ) → ((b == 58) ≡ true → Follows b colon) → ((b == 124) ≡ true → Follows b bar) → Follows b (in_list colon bar again more b)
list-follows colon bar again more b c d =
    choose (Follows b) (b == 32) (here again) (if b == 58 then colon else (if b == 124 then bar else in_text more b)) (at-byte again b 32 refl)
    (λ _. choose (Follows b) (b == 58) colon (if b == 124 then bar else in_text more b) c (λ _. choose (Follows b) (b == 124) bar (in_text more b) d (λ _. text-follows more b)))

rule-follows : (some : Bool) (b : ℕ) → (b == 58) ≡ true → Follows b (to_rule some)
rule-follows true b e = at-byte BeforeRule b 58 refl e
rule-follows false b e = refl

-- a space or nothing, and an `=` or nothing
space-follows : (part : Part) (b : ℕ) → Follows b (if b == 32 then here part else lost)
space-follows part b = choose (Follows b) (b == 32) (here part) lost (at-byte part b 32 refl) (λ _. refl)

equals-follows : (b : ℕ) → Follows b (if b == 32 then here BeforeEquals else (if b == 61 then here BeforeValue else lost))
equals-follows b =
    choose (Follows b) (b == 32) (here BeforeEquals) (if b == 61 then here BeforeValue else lost) (at-byte BeforeEquals b 32 refl)
    (λ _. choose (Follows b) (b == 61) (here BeforeValue) lost (at-byte BeforeValue b 61 refl) (λ _. refl))

word-follows : (word : List ℕ) (b : ℕ) → Follows b (end_word word b)
word-follows word b =
    let P = Follows b in
    let name = if b == 32 then here BeforeName else lost in
    let path = in_list lost lost BeforePath LastPath b in
    let variable = if b == 32 then here BeforeEquals else (if b == 61 then here BeforeValue else lost) in
    let after_include = if bytes_eq word (codes "subninja") then path else variable in
    let after_default = if bytes_eq word (codes "include") then path else after_include in
    let default = in_list lost lost (Paths false) (Paths true) b in
    let after_pool = if bytes_eq word (codes "default") then default else after_default in
    let after_build = if bytes_eq word (codes "pool") then name else after_pool in
    let build = in_list lost (here (OutBar false)) (Outs false) (Outs true) b in
    let after_rule = if bytes_eq word (codes "build") then build else after_build in
    let some = if bytes_eq word (codes "rule") then name else after_rule in
    choose P (is_empty word) lost some (λ _. refl)
    (λ _. choose P (bytes_eq word (codes "rule")) name after_rule (λ _. space-follows BeforeName b)
    (λ _. choose P (bytes_eq word (codes "build")) build after_build (λ _. list-follows lost (here (OutBar false)) (Outs false) (Outs true) b (λ _. refl) (at-byte (OutBar false) b 124 refl))
    (λ _. choose P (bytes_eq word (codes "pool")) name after_pool (λ _. space-follows BeforeName b)
    (λ _. choose P (bytes_eq word (codes "default")) default after_default (λ _. list-follows lost lost (Paths false) (Paths true) b (λ _. refl) (λ _. refl))
    (λ _. choose P (bytes_eq word (codes "include")) path after_include (λ _. list-follows lost lost BeforePath LastPath b (λ _. refl) (λ _. refl))
    (λ _. choose P (bytes_eq word (codes "subninja")) path variable (λ _. list-follows lost lost BeforePath LastPath b (λ _. refl) (λ _. refl))
    (λ _. equals-follows b)))))))

follows : (part : Part) (b : ℕ) → Follows b (outside part b)
follows (Indent some) b =
    choose (Follows b) (b == 32) (here (Indent true)) (if some && is_in_name b then here BoundName else lost) (at-byte (Indent true) b 32 refl)
    (λ _. choose (Follows b) (some && is_in_name b) (here BoundName) lost (λ e. at-name BoundName b (both some (is_in_name b) e).1) (λ _. refl))
follows BoundName b =
    choose (Follows b) (is_in_name b) (here BoundName) (if b == 32 then here BeforeEquals else (if b == 61 then here BeforeValue else lost)) (at-name BoundName b) (λ _. equals-follows b)
follows BeforeEquals b = equals-follows b
follows BeforeValue b = choose (Follows b) (b == 32) (here BeforeValue) (in_text Value b) (at-byte BeforeValue b 32 refl) (λ _. text-follows Value b)
follows Value b = text-follows Value b
follows (Word word) b = choose (Follows b) (is_in_name b) (here (Word (word ++ b ∷ []))) (end_word word b) (at-name (Word (word ++ b ∷ [])) b) (λ _. word-follows word b)
follows BeforeName b =
    choose (Follows b) (b == 32) (here BeforeName) (if is_in_name b then here LastName else lost) (at-byte BeforeName b 32 refl)
    (λ _. choose (Follows b) (is_in_name b) (here LastName) lost (at-name LastName b) (λ _. refl))
follows LastName b = choose (Follows b) (is_in_name b) (here LastName) (if b == 32 then here AfterLast else lost) (at-name LastName b) (λ _. space-follows AfterLast b)
follows AfterLast b = space-follows AfterLast b
follows BeforePath b = list-follows lost lost BeforePath LastPath b (λ _. refl) (λ _. refl)
follows LastPath b = list-follows lost lost AfterLast LastPath b (λ _. refl) (λ _. refl)
follows (Paths some) b = list-follows lost lost (Paths some) (Paths true) b (λ _. refl) (λ _. refl)
follows (Outs some) b = list-follows (to_rule some) (here (OutBar some)) (Outs some) (Outs true) b (rule-follows some b) (at-byte (OutBar some) b 124 refl)
follows (OutBar some) b =
    choose (Follows b) (b == 64) lost (in_list (to_rule some) lost (ImplicitOuts some) (ImplicitOuts true) b) (λ _. refl)
    (λ _. list-follows (to_rule some) lost (ImplicitOuts some) (ImplicitOuts true) b (rule-follows some b) (λ _. refl))
follows (ImplicitOuts some) b = list-follows (to_rule some) lost (ImplicitOuts some) (ImplicitOuts true) b (rule-follows some b) (λ _. refl)
follows BeforeRule b =
    choose (Follows b) (b == 32) (here BeforeRule) (if is_in_name b then here InRule else lost) (at-byte BeforeRule b 32 refl)
    (λ _. choose (Follows b) (is_in_name b) (here InRule) lost (at-name InRule b) (λ _. refl))
follows InRule b =
    choose (Follows b) (is_in_name b) (here InRule) (in_list lost (here InBar) Ins Ins b) (at-name InRule b)
    (λ _. list-follows lost (here InBar) Ins Ins b (λ _. refl) (at-byte InBar b 124 refl))
follows Ins b = list-follows lost (here InBar) Ins Ins b (λ _. refl) (at-byte InBar b 124 refl)
follows InBar b =
    choose (Follows b) (b == 64) (here Validations) (in_list lost (here Order) Implicit Implicit b) (at-byte Validations b 64 refl)
    (λ _. list-follows lost (here Order) Implicit Implicit b (λ _. refl) (at-byte Order b 124 refl))
follows Implicit b = list-follows lost (here NextBar) Implicit Implicit b (λ _. refl) (at-byte NextBar b 124 refl)
follows NextBar b =
    choose (Follows b) (b == 64) (here Validations) (if b == 124 then here Order else lost) (at-byte Validations b 64 refl)
    (λ _. choose (Follows b) (b == 124) (here Order) lost (at-byte Order b 124 refl) (λ _. refl))
follows Order b = list-follows lost (here LastBar) Order Order b (λ _. refl) (at-byte LastBar b 124 refl)
follows LastBar b = choose (Follows b) (b == 64) (here Validations) lost (at-byte Validations b 64 refl) (λ _. refl)
follows Validations b = list-follows lost lost Validations Validations b (λ _. refl) (λ _. refl)

-- the kind of what cannot stand there
abbrev pub kind_in : Escape → SyntaxKind
kind_in Outside = Syntax
kind_in Dollar = BadEscape
kind_in Brace = BadEscape
kind_in Named = BadEscape

abbrev kind_or : SyntaxKind → State → SyntaxKind
kind_or kind (At part e) = kind
kind_or kind (Dead k) = k

abbrev escape_at : State → Escape
escape_at (At part e) = e
escape_at (Dead kind) = Outside

no-state : (part : Part) (e : Escape) (kind : SyntaxKind) → At part e ≡ Dead kind → ⊥
no-state part e kind h = cc

pub dead-kind : (part : Part) (e : Escape) (b : ℕ) (kind : SyntaxKind) → step (At part e) b ≡ Dead kind → kind ≡ kind_in e
dead-kind part Outside b kind h = subst (Follows b) h (follows part b)
dead-kind part Dollar b kind h = by (is_escaped b) (b == 123) (is_in_bare_name b) h
  where
    by : (t u v : Bool) → lift part (if t then Ok Outside else (if u then Ok Brace else (if v then Ok Outside else Err BadEscape))) ≡ Dead kind → kind ≡ BadEscape
    by true u v h = absurd (no-state part Outside kind h)
    by false true v h = absurd (no-state part Brace kind h)
    by false false true h = absurd (no-state part Outside kind h)
    by false false false h = ap (kind_or BadEscape) (sym h)
dead-kind part Brace b kind h = by (is_in_name b) h
  where
    by : (t : Bool) → lift part (if t then Ok Named else Err BadEscape) ≡ Dead kind → kind ≡ BadEscape
    by true h = absurd (no-state part Named kind h)
    by false h = ap (kind_or BadEscape) (sym h)
dead-kind part Named b kind h = by (is_in_name b) (b == 125) h
  where
    by : (t u : Bool) → lift part (if t then Ok Named else (if u then Ok Outside else Err BadEscape)) ≡ Dead kind → kind ≡ BadEscape
    by true u h = absurd (no-state part Named kind h)
    by false true h = absurd (no-state part Outside kind h)
    by false false h = ap (kind_or BadEscape) (sym h)

-- whether bytes end within an escape
pub data Within : Type 0 where
  Free : Within
  Open : Within
  Braced : Within

abbrev pub wstep : Within → ℕ → Within
wstep Free b = if b == 36 then Open else Free
wstep Open b = if b == 123 then Braced else Free
wstep Braced b = if is_in_name b then Braced else (if b == 36 then Open else Free)

abbrev pub wrun : Within → List ℕ → Within
wrun w [] = w
wrun w (b ∷ bs) = wrun (wstep w b) bs

abbrev pub seen : Escape → Within
seen Outside = Free
seen Dollar = Open
seen Brace = Braced
seen Named = Braced

tracked : (part : Part) (e : Escape) (b : ℕ) (next : Part) (f : Escape) → step (At part e) b ≡ At next f → seen f ≡ wstep (seen e) b
tracked part Outside b next f h = by f (subst (Follows b) h (follows part b))
  where
    by : (f : Escape) → Follows b (At next f) → seen f ≡ (if b == 36 then Open else Free)
    by Outside e = sym (ap (λ t. if t then Open else Free) e)
    by Dollar e = sym (ap (λ t. if t then Open else Free) e)
    by Brace e = absurd e
    by Named e = absurd e
tracked part Dollar b next f h = by (is_escaped b) refl (b == 123) refl (is_in_bare_name b) h
  where
    by : (t : Bool) → is_escaped b ≡ t → (u : Bool) → (b == 123) ≡ u → (v : Bool) → lift part (if t then Ok Outside else (if u then Ok Brace else (if v then Ok Outside else Err BadEscape))) ≡ At next f
        → seen f ≡ (if u then Braced else Free)
    by true d false e v h = ap (λ s. seen (escape_at s)) (sym h)
    by true d true e v h = let no : false ≡ true = sym (differs is_escaped b 123 refl d) ∙ e in cc
    by false d true e v h = ap (λ s. seen (escape_at s)) (sym h)
    by false d false e true h = ap (λ s. seen (escape_at s)) (sym h)
    by false d false e false h = cc
tracked part Brace b next f h = by (is_in_name b) h
  where
    by : (t : Bool) → lift part (if t then Ok Named else Err BadEscape) ≡ At next f → seen f ≡ (if t then Braced else (if b == 36 then Open else Free))
    by true h = ap (λ s. seen (escape_at s)) (sym h)
    by false h = cc
tracked part Named b next f h = by (is_in_name b) (b == 125) refl h
  where
    by : (t u : Bool) → (b == 125) ≡ u → lift part (if t then Ok Named else (if u then Ok Outside else Err BadEscape)) ≡ At next f → seen f ≡ (if t then Braced else (if b == 36 then Open else Free))
    by true u e h = ap (λ s. seen (escape_at s)) (sym h)
    by false true e h = ap (λ s. seen (escape_at s)) (sym h) ∙ sym (ap (λ t. if t then Open else Free) (ap (λ (x : ℕ). x == 36) (eqb-true b 125 e)))
    by false false e h = cc

pub tracked-run : (part : Part) (e : Escape) (front : List ℕ) (next : Part) (f : Escape) → run (At part e) front ≡ At next f → seen f ≡ wrun (seen e) front
tracked-run part e [] next f h = ap (λ s. seen (escape_at s)) (sym h)
tracked-run part e (b ∷ bs) next f h = by (step (At part e) b) refl h (λ p g. tracked-run p g bs next f)
  where
    by : (s : State) → step (At part e) b ≡ s → run s bs ≡ At next f → ((p : Part) (g : Escape) → run (At p g) bs ≡ At next f → seen f ≡ wrun (seen g) bs)
        → seen f ≡ wrun (wstep (seen e) b) bs
    by (At p g) is h rest = rest p g h ∙ ap (λ w. wrun w bs) (tracked part e b p g is)
    by (Dead kind) is h rest = let no : Dead kind ≡ At next f = sym (run-dead kind bs) ∙ h in cc

-- bytes end within an escape exactly where they are written so
abbrev is_within : Within → Bool
is_within Free = false
is_within Open = true
is_within Braced = true

abbrev is_open : Within → Bool
is_open Free = false
is_open Open = true
is_open Braced = false

closed-step : (w : Within) (b : ℕ) → is_open w ≡ false → (b == 36) ≡ false → is_open (wstep w b) ≡ false
closed-step Free b o e = ap (λ t. is_open (if t then Open else Free)) e
closed-step Open b o e = cc
closed-step Braced b o e = by (is_in_name b)
  where
    by : (t : Bool) → is_open (if t then Braced else (if b == 36 then Open else Free)) ≡ false
    by true = refl
    by false = ap (λ t. is_open (if t then Open else Free)) e

after-open : (b : ℕ) → is_open (wstep Open b) ≡ false
after-open b = by (b == 123)
  where
    by : (t : Bool) → is_open (if t then Braced else Free) ≡ false
    by true = refl
    by false = refl

opens : (w : Within) → is_open w ≡ false → wstep w 36 ≡ Open
opens Free o = refl
opens Open o = cc
opens Braced o = refl

wrun-append : (w : Within) (xs ys : List ℕ) → wrun w (xs ++ ys) ≡ wrun (wrun w xs) ys
wrun-append w [] ys = refl
wrun-append w (x ∷ xs) ys = wrun-append (wstep w x) xs ys

paired-run : (w : Within) {bytes : List ℕ} → is_open w ≡ false → IsPaired bytes → is_open (wrun w bytes) ≡ false
paired-run w o NoBytes = o
paired-run w o (Single {b} {bytes} e p) = paired-run (wstep w b) (closed-step w b o e) p
paired-run w o (Taken b {bytes} p) =
    ap (λ v. is_open (wrun (wstep v b) bytes)) (opens w o) ∙ paired-run (wstep Open b) (after-open b) p

name-within : (name : List ℕ) → is_run is_in_name name ≡ true → wrun Braced name ≡ Braced
name-within [] h = refl
name-within (b ∷ bs) h =
    let parts = both (is_in_name b) (is_run is_in_name bs) h in
    ap (λ t. wrun (if t then Braced else (if b == 36 then Open else Free)) bs) parts.0 ∙ name-within bs parts.1

within : {front : List ℕ} → InEscape front → is_within (wrun Free front) ≡ true
within (place.Dollar {front} p) = ap is_within (wrun-append Free front (36 ∷ []) ∙ opens (wrun Free front) (paired-run Free refl p))
within (place.Brace {front} name p h) =
    ap is_within (wrun-append Free front (36 ∷ 123 ∷ name) ∙ ap (λ w. wrun (wstep w 123) name) (opens (wrun Free front) (paired-run Free refl p)) ∙ name-within name h)

one-before : {b : ℕ} {bytes : List ℕ} → (b == 36) ≡ false → InEscape bytes → InEscape (b ∷ bytes)
one-before {b} e (place.Dollar {front} p) = place.Dollar {front = b ∷ front} (Single e p)
one-before {b} e (place.Brace {front} name p h) = place.Brace {front = b ∷ front} name (Single e p) h

pair-before : (b : ℕ) {bytes : List ℕ} → InEscape bytes → InEscape (36 ∷ b ∷ bytes)
pair-before b (place.Dollar {front} p) = place.Dollar {front = 36 ∷ b ∷ front} (Taken b p)
pair-before b (place.Brace {front} name p h) = place.Brace {front = 36 ∷ b ∷ front} name (Taken b p) h

data NameOr (bytes : List ℕ) : Type 0 where
  AllName : is_run is_in_name bytes ≡ true → NameOr bytes
  Later : InEscape bytes → NameOr bytes

abbrev Ends : Within → List ℕ → Type 0
Ends Free bytes = InEscape bytes
Ends Open bytes = InEscape (36 ∷ bytes)
Ends Braced bytes = NameOr bytes

ends-step : (w : Within) (b : ℕ) (bs : List ℕ) → Ends (wstep w b) bs → Ends w (b ∷ bs)
ends-step Free b bs = by (b == 36) refl
  where
    by : (t : Bool) → (b == 36) ≡ t → Ends (if t then Open else Free) bs → InEscape (b ∷ bs)
    by true e r = subst (λ (x : ℕ). InEscape (x ∷ bs)) (sym (eqb-true b 36 e)) r
    by false e r = one-before e r
ends-step Open b bs = by (b == 123) refl
  where
    braced : NameOr bs → InEscape (36 ∷ 123 ∷ bs)
    braced (AllName h) = place.Brace {front = []} bs NoBytes h
    braced (Later r) = pair-before 123 r

    by : (t : Bool) → (b == 123) ≡ t → Ends (if t then Braced else Free) bs → InEscape (36 ∷ b ∷ bs)
    by true e r = subst (λ (x : ℕ). InEscape (36 ∷ x ∷ bs)) (sym (eqb-true b 123 e)) (braced r)
    by false e r = pair-before b r
ends-step Braced b bs = by (is_in_name b) refl (b == 36) refl
  where
    named : is_in_name b ≡ true → NameOr bs → NameOr (b ∷ bs)
    named e (AllName h) = AllName (λ i. e i && h i)
    named e (Later r) = Later (one-before (differs is_in_name b 36 refl e) r)

    by : (t : Bool) → is_in_name b ≡ t → (u : Bool) → (b == 36) ≡ u → Ends (if t then Braced else (if u then Open else Free)) bs → NameOr (b ∷ bs)
    by true e u d r = named e r
    by false e true d r = Later (subst (λ (x : ℕ). InEscape (x ∷ bs)) (sym (eqb-true b 36 d)) r)
    by false e false d r = Later (one-before d r)

ends-within : (w : Within) (bytes : List ℕ) → is_within (wrun w bytes) ≡ true → Ends w bytes
ends-within Free [] h = cc
ends-within Open [] h = place.Dollar {front = []} NoBytes
ends-within Braced [] h = AllName refl
ends-within Free (b ∷ bs) h = ends-step Free b bs (ends-within (wstep Free b) bs h)
ends-within Open (b ∷ bs) h = ends-step Open b bs (ends-within (wstep Open b) bs h)
ends-within Braced (b ∷ bs) h = ends-step Braced b bs (ends-within (wstep Braced b) bs h)

-- the kind of what cannot stand behind bytes that lead to an escape or to none
pub is-kind : (e : Escape) (front : List ℕ) → seen e ≡ wrun Free front → IsKind (kind_in e) front
is-kind Outside front h = Other (λ i. by (ap is_within h ∙ within i))
  where
    by : false ≡ true → ⊥
    by h = cc
is-kind Dollar front h = Escaping (ends-within Free front (sym (ap is_within h)))
is-kind Brace front h = Escaping (ends-within Free front (sym (ap is_within h)))
is-kind Named front h = Escaping (ends-within Free front (sym (ap is_within h)))

pub one-kind : {kind : SyntaxKind} {front : List ℕ} (e : Escape) → seen e ≡ wrun Free front → IsKind kind front → kind ≡ kind_in e
one-kind Outside h (Escaping i) = let no : false ≡ true = ap is_within h ∙ within i in cc
one-kind Dollar h (Escaping i) = refl
one-kind Brace h (Escaping i) = refl
one-kind Named h (Escaping i) = refl
one-kind Outside h (Other free) = refl
one-kind {front = front} Dollar h (Other free) = absurd (free (ends-within Free front (sym (ap is_within h))))
one-kind {front = front} Brace h (Other free) = absurd (free (ends-within Free front (sym (ap is_within h))))
one-kind {front = front} Named h (Other free) = absurd (free (ends-within Free front (sym (ap is_within h))))

-- an end from everywhere
abbrev dotted : List ℕ → Bool
dotted [] = false
dotted (b ∷ bs) = b == 46 || dotted bs

has-dot : (name : List ℕ) → dotted (name ++ 46 ∷ []) ≡ true
has-dot [] = refl
has-dot (b ∷ bs) = by (b == 46) (has-dot bs)
  where
    by : (t : Bool) → dotted (bs ++ 46 ∷ []) ≡ true → (t || dotted (bs ++ 46 ∷ [])) ≡ true
    by true h = refl
    by false h = h

no-word : (name word : List ℕ) → dotted word ≡ false → bytes_eq (name ++ 46 ∷ []) word ≡ false
no-word name word h = by (bytes_eq (name ++ 46 ∷ []) word) refl
  where
    by : (t : Bool) → bytes_eq (name ++ 46 ∷ []) word ≡ t → t ≡ false
    by false e = refl
    by true e = sym (has-dot name) ∙ ap dotted ((bytes_eq-Decides (name ++ 46 ∷ []) word).0 e) ∙ h

not-empty : (name : List ℕ) → is_empty (name ++ 46 ∷ []) ≡ false
not-empty [] = refl
not-empty (b ∷ bs) = refl

word-ends : (word : List ℕ) → verdict true (end_word (word ++ 46 ∷ []) 61) ≡ None
word-ends word =
    let longer = word ++ 46 ∷ [] in
    (λ i. verdict true (if not-empty word i then lost else (if no-word word (codes "rule") refl i then lost
    else (if no-word word (codes "build") refl i then in_list lost (here (OutBar false)) (Outs false) (Outs true) 61
    else (if no-word word (codes "pool") refl i then lost
    else (if no-word word (codes "default") refl i then in_list lost lost (Paths false) (Paths true) 61
    else (if no-word word (codes "include") refl i then in_list lost lost BeforePath LastPath 61
    else (if no-word word (codes "subninja") refl i then in_list lost lost BeforePath LastPath 61
    else here BeforeValue))))))))

abbrev Finishes : State → Type 0
Finishes s = (tail : List ℕ) × (verdict true (run s tail) ≡ None)

finishes : (part : Part) → Finishes (here part)
finishes (Indent some) = (codes " a=", refl)
finishes BoundName = (codes "=", refl)
finishes BeforeEquals = (codes "=", refl)
finishes BeforeValue = ([], refl)
finishes Value = ([], refl)
finishes (Word word) = (codes ".=", word-ends word)
finishes BeforeName = (codes "a", refl)
finishes LastName = ([], refl)
finishes AfterLast = ([], refl)
finishes BeforePath = (codes "a", refl)
finishes LastPath = ([], refl)
finishes (Paths some) = (codes "a", refl)
finishes (Outs some) = (codes "a:r", refl)
finishes (OutBar some) = (codes "a:r", refl)
finishes (ImplicitOuts some) = (codes "a:r", refl)
finishes BeforeRule = (codes "r", refl)
finishes InRule = ([], refl)
finishes Ins = ([], refl)
finishes InBar = ([], refl)
finishes Implicit = ([], refl)
finishes NextBar = (codes "|", refl)
finishes Order = ([], refl)
finishes LastBar = (codes "@", refl)
finishes Validations = ([], refl)

pub finishes-at : (part : Part) (e : Escape) → Finishes (At part e)
finishes-at part Outside = finishes part
finishes-at part Dollar = let f = finishes part in (36 ∷ f.0, f.1)
finishes-at part Brace = let f = finishes part in (97 ∷ 125 ∷ f.0, f.1)
finishes-at part Named = let f = finishes part in (125 ∷ f.0, f.1)
