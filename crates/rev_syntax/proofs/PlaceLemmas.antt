-- A line that is read byte by byte stops at the leftmost byte with which it cannot go on.
use Rattle.std.proofs.Common.{◌≡◌, ℕ, Bool, true, false, List, [], ◌∷◌, ◌++◌, Option, Some, None, refl, sym, ap, subst, ◌∙◌, append_assoc, if◌then◌else◌}
use Rattle.rev_syntax.specs.declared.fault.SyntaxKind.{SyntaxKind}
use Rattle.rev_syntax.specs.declared.fault.SyntaxKind.TheVariants.{Syntax, BadEscape}
use Rattle.rev_syntax.specs.Places.{CanGoOn, IsLeftmost, IsKind, StopsAs, IsOnePlace, AtByte, AtEnd, AtDollar}
use Rattle.rev_syntax.proofs.TextSteps.{Escape, Outside, Dollar, Brace, Named}
use Rattle.rev_syntax.proofs.LineSteps.{Part, State, At, Dead, here, step, run, may_end, verdict, run-append, run-dead}
use Rattle.rev_syntax.proofs.StepLemmas.{kind_in, dead-kind, tracked-run, is-kind, one-kind, finishes-at}

-- lines of one form are read from a part on
pub record IsReadFrom (start : Part) (Reads : List ℕ → Type 0) : Type 0 where
  pub found : (text : List ℕ) → verdict true (run (here start) text) ≡ None → Reads text
  pub given : (text : List ℕ) → Reads text → verdict true (run (here start) text) ≡ None

-- where the reading of bytes is, or where it stopped
data Scan (s : State) (text : List ℕ) : Type 0 where
  Goes : (part : Part) (e : Escape) → run s text ≡ At part e → Scan s text
  Fell : (front : List ℕ) (b : ℕ) (rest : List ℕ) (part : Part) (e : Escape) (kind : SyntaxKind) → front ++ b ∷ rest ≡ text
      → run s front ≡ At part e → step (At part e) b ≡ Dead kind
      → Scan s text

scan : (part : Part) (e : Escape) (text : List ℕ) → Scan (At part e) text
scan part e [] = Goes part e refl
scan part e (b ∷ bs) = by (step (At part e) b) refl (λ p f. scan p f bs)
  where
    on : {p : Part} {f : Escape} → step (At part e) b ≡ At p f → Scan (At p f) bs → Scan (At part e) (b ∷ bs)
    on is (Goes q g h) = Goes q g (ap (λ s. run s bs) is ∙ h)
    on is (Fell front c rest q g kind w h d) = Fell (b ∷ front) c rest q g kind (ap (λ t. b ∷ t) w) (ap (λ s. run s front) is ∙ h) d

    by : (s : State) → step (At part e) b ≡ s → ((p : Part) (f : Escape) → Scan (At p f) bs) → Scan (At part e) (b ∷ bs)
    by (At p f) is rest = on is (rest p f)
    by (Dead kind) is rest = Fell [] b bs part e kind refl refl is

-- what a line that may go on is at its end
unended : (part : Part) (e : Escape) → verdict false (At part e) ≡ Some BadEscape
unended part Outside = by (may_end part)
  where
    by : (t : Bool) → (if t then Some BadEscape else Some BadEscape) ≡ Some BadEscape
    by true = refl
    by false = refl
unended part Dollar = refl
unended part Brace = refl
unended part Named = refl

abbrev kind_or : SyntaxKind → Option SyntaxKind → SyntaxKind
kind_or kind None = kind
kind_or kind (Some k) = k

same-kind : (j k : SyntaxKind) → Some j ≡ Some k → j ≡ k
same-kind j k h = ap (kind_or j) h

ended : (part : Part) (e : Escape) (kind : SyntaxKind) → verdict true (At part e) ≡ Some kind → kind ≡ kind_in e
ended part Outside kind h = by (may_end part) h
  where
    by : (t : Bool) → (if t then None else Some Syntax) ≡ Some kind → kind ≡ Syntax
    by true h = cc
    by false h = sym (same-kind Syntax kind h)
ended part Dollar kind h = sym (same-kind BadEscape kind h)
ended part Brace kind h = sym (same-kind BadEscape kind h)
ended part Named kind h = sym (same-kind BadEscape kind h)

some-none : (kind : SyntaxKind) → Some kind ≡ None → ⊥
some-none kind h = cc

can-go : {start : Part} {Reads : List ℕ → Type 0} → IsReadFrom start Reads → (front : List ℕ) (part : Part) (e : Escape) → run (here start) front ≡ At part e → CanGoOn Reads front
can-go {start} read front part e h =
    let f = finishes-at part e in
    (f.0, read.found (front ++ f.0) (ap (verdict true) (run-append (here start) front f.0 ∙ ap (λ s. run s f.0) h) ∙ f.1))

cannot-go : {start : Part} {Reads : List ℕ → Type 0} → IsReadFrom start Reads → (front : List ℕ) (b : ℕ) (part : Part) (e : Escape) (kind : SyntaxKind)
    → run (here start) front ≡ At part e → step (At part e) b ≡ Dead kind → CanGoOn Reads (front ++ b ∷ []) → ⊥
cannot-go {start} read front b part e kind h d c =
    let dead : run (here start) ((front ++ b ∷ []) ++ c.0) ≡ Dead kind =
    ap (run (here start)) (append_assoc front (b ∷ []) c.0) ∙ run-append (here start) front (b ∷ c.0) ∙ ap (λ s. run (step s b) c.0) h ∙ ap (λ s. run s c.0) d ∙ run-dead kind c.0 in
    some-none kind (sym (ap (verdict true) dead) ∙ read.given ((front ++ b ∷ []) ++ c.0) c.1)

is-kind-at : (start : Part) (front : List ℕ) (part : Part) (e : Escape) (kind : SyntaxKind) → run (here start) front ≡ At part e → kind ≡ kind_in e → IsKind kind front
is-kind-at start front part e kind h k = subst (λ (k : SyntaxKind). IsKind k front) (sym k) (is-kind e front (tracked-run start Outside front part e h))

pub stops-found : {start : Part} {Reads : List ℕ → Type 0} → IsReadFrom start Reads → (flag : Bool) (text : List ℕ) (kind : SyntaxKind)
    → verdict flag (run (here start) text) ≡ Some kind → StopsAs Reads flag text kind
stops-found {start} {Reads} read flag text kind h = by flag (scan start Outside text) h
  where
    by : (flag : Bool) → Scan (here start) text → verdict flag (run (here start) text) ≡ Some kind → StopsAs Reads flag text kind
    by true (Goes part e is) h =
        AtEnd (can-go read text part e is) (λ r. some-none kind (sym h ∙ read.given text r))
        (is-kind-at start text part e kind is (ended part e kind (sym (ap (verdict true) is) ∙ h)))
    by false (Goes part e is) h =
        let same : BadEscape ≡ kind = same-kind BadEscape kind (sym (unended part e) ∙ sym (ap (verdict false) is) ∙ h) in
        subst (λ (k : SyntaxKind). StopsAs Reads false text k) same (AtDollar (can-go read text part e is))
    by flag (Fell front b rest part e k w is d) h =
        let dead : run (here start) text ≡ Dead k =
        ap (run (here start)) (sym w) ∙ run-append (here start) front (b ∷ rest) ∙ ap (λ s. run (step s b) rest) is ∙ ap (λ s. run s rest) d ∙ run-dead k rest in
        let same : kind ≡ k = same-kind kind k (sym h ∙ ap (verdict flag) dead) in
        subst (λ (t : List ℕ). StopsAs Reads flag t kind) w
        (AtByte front b rest (record { goes = can-go read front part e is; stops = cannot-go read front b part e k is d }) (is-kind-at start front part e kind is (same ∙ dead-kind part e b k d)))

record Alive (start : Part) (front : List ℕ) : Type 0 where
  part : Part
  escape : Escape
  is : run (here start) front ≡ At part escape

alive : {start : Part} {Reads : List ℕ → Type 0} → IsReadFrom start Reads → (front : List ℕ) → CanGoOn Reads front → Alive start front
alive {start} read front c = by (run (here start) front) refl
  where
    by : (s : State) → run (here start) front ≡ s → Alive start front
    by (At part e) h = record { part = part; escape = e; is = h }
    by (Dead kind) h =
        absurd (some-none kind (sym (ap (verdict true) (run-append (here start) front c.0 ∙ ap (λ s. run s c.0) h ∙ run-dead kind c.0)) ∙ read.given (front ++ c.0) c.1))

pub stops-given : {start : Part} {Reads : List ℕ → Type 0} {flag : Bool} {text : List ℕ} {kind : SyntaxKind} → IsReadFrom start Reads → StopsAs Reads flag text kind
    → verdict flag (run (here start) text) ≡ Some kind
stops-given {start} {Reads} {flag} read (AtByte front b rest {kind} place is) =
    let a = alive read front place.goes in
    by a (step (At a.part a.escape) b) refl
  where
    by : (a : Alive start front) (s : State) → step (At a.part a.escape) b ≡ s → verdict flag (run (here start) (front ++ b ∷ rest)) ≡ Some kind
    by a (At p f) d =
        let on : run (here start) (front ++ b ∷ []) ≡ At p f = run-append (here start) front (b ∷ []) ∙ ap (λ s. step s b) a.is ∙ d in
        absurd (place.stops (can-go read (front ++ b ∷ []) p f on))
    by a (Dead k) d =
        let dead : run (here start) (front ++ b ∷ rest) ≡ Dead k = run-append (here start) front (b ∷ rest) ∙ ap (λ s. run (step s b) rest) a.is ∙ ap (λ s. run s rest) d ∙ run-dead k rest in
        ap (verdict flag) dead
        ∙ ap (λ (j : SyntaxKind). Some j) (dead-kind a.part a.escape b k d ∙ sym (one-kind a.escape (tracked-run start Outside front a.part a.escape a.is) is))
stops-given {start} {Reads} read (AtEnd {text} {kind} can not is) =
    let a = alive read text can in
    by a (verdict true (At a.part a.escape)) refl
  where
    by : (a : Alive start text) (o : Option SyntaxKind) → verdict true (At a.part a.escape) ≡ o → verdict true (run (here start) text) ≡ Some kind
    by a None h = absurd (not (read.found text (ap (verdict true) a.is ∙ h)))
    by a (Some k) h =
        ap (verdict true) a.is ∙ h
        ∙ ap (λ (j : SyntaxKind). Some j) (ended a.part a.escape k h ∙ sym (one-kind a.escape (tracked-run start Outside text a.part a.escape a.is) is))
stops-given read (AtDollar {text} can) = let a = alive read text can in ap (verdict false) a.is ∙ unended a.part a.escape

-- there is one place
data Cut (front : List ℕ) (b : ℕ) (other : List ℕ) (c : ℕ) : Type 0 where
  Same : front ≡ other → Cut front b other c
  Within : (rest : List ℕ) → front ++ b ∷ rest ≡ other → Cut front b other c
  Beyond : (rest : List ℕ) → other ++ c ∷ rest ≡ front → Cut front b other c

abbrev head_or : ℕ → List ℕ → ℕ
head_or d [] = d
head_or d (x ∷ xs) = x

abbrev tail_or : List ℕ → List ℕ
tail_or [] = []
tail_or (x ∷ xs) = xs

cut-more : {x y : ℕ} {front other : List ℕ} {b c : ℕ} → x ≡ y → Cut front b other c → Cut (x ∷ front) b (y ∷ other) c
cut-more e (Same h) = Same (λ i. e i ∷ h i)
cut-more e (Within rest h) = Within rest (λ i. e i ∷ h i)
cut-more e (Beyond rest h) = Beyond rest (λ i. sym e i ∷ h i)

cuts : (front other : List ℕ) (b c : ℕ) (rest more : List ℕ) → front ++ b ∷ rest ≡ other ++ c ∷ more → Cut front b other c
cuts [] [] b c rest more h = Same refl
cuts [] (y ∷ ys) b c rest more h = Within ys (ap (λ x. x ∷ ys) (ap (head_or 0) h))
cuts (x ∷ xs) [] b c rest more h = Beyond xs (ap (λ y. y ∷ xs) (sym (ap (head_or 0) h)))
cuts (x ∷ xs) (y ∷ ys) b c rest more h = cut-more (ap (head_or 0) h) (cuts xs ys b c rest more (ap tail_or h))

none-beyond : (Reads : List ℕ → Type 0) (front : List ℕ) (b : ℕ) (rest : List ℕ) → IsLeftmost Reads front b → CanGoOn Reads (front ++ b ∷ rest) → ⊥
none-beyond Reads front b rest place c =
    place.stops (rest ++ c.0, subst Reads (append_assoc front (b ∷ rest) c.0 ∙ sym (append_assoc front (b ∷ []) (rest ++ c.0))) c.1)

pub one-place : (Reads : List ℕ → Type 0) → IsOnePlace Reads
one-place Reads = record { same = same; none = none-beyond Reads }
  where
    same : (front other : List ℕ) (b c : ℕ) (rest more : List ℕ) → IsLeftmost Reads front b → IsLeftmost Reads other c → front ++ b ∷ rest ≡ other ++ c ∷ more → front ≡ other
    same front other b c rest more p q h = by (cuts front other b c rest more h)
      where
        by : Cut front b other c → front ≡ other
        by (Same e) = e
        by (Within mid e) = absurd (none-beyond Reads front b mid p (subst (CanGoOn Reads) (sym e) q.goes))
        by (Beyond mid e) = absurd (none-beyond Reads other c mid q (subst (CanGoOn Reads) (sym e) p.goes))
