-- Numbers and names of events are read exactly where they are written so.
use Rattle.std.proofs.Common.{◌≡◌, ℕ, ◌^◌, ◌==◌, List, [], ◌∷◌, ◌++◌, refl, sym, ap, ◌∙◌, subst, arith, Result, Ok, Err}
use Rattle.std.proofs.lemmas.List.Splits.{join_with_byte-slice_split}
use Rattle.std.specs.Fmt.{decimal}
use Rattle.std.specs.List.{join_with_byte, slice_split}
use Rattle.rev_commands.specs.declared.which.Which.{Which}
use Rattle.rev_commands.specs.declared.which.Which.TheVariants as which
use Rattle.rev_fields.specs.declared.faults.FaultKind.{FaultKind}
use Rattle.rev_fields.specs.declared.faults.FaultKind.TheVariants.{Number}
use Rattle.rev_fields.specs.Faults.{◌>>=◌}
use Rattle.rev_fields.specs.Numbers.{numbers_below}
use Rattle.rev_fields.proofs.GrammarLemmas.{digit-lists-are-read, digits-are-read}
use Rattle.rev_trace.specs.Commands.{long, short, which_in, which_of}
use Rattle.rev_trace.specs.Grammar.{Exact, SaysLong, SaysShort, SaysStamps, SaysWhich}
use Rattle.rev_trace.proofs.TextLemmas.{which-read}

pub short-of : (text : List ℕ) (n : ℕ) → SaysShort Exact text n → short text ≡ Ok n
short-of text n h = (digits-are-read (2 ^ 32) text n (omega arith)).1 h

pub short-is : (text : List ℕ) (n : ℕ) → short text ≡ Ok n → SaysShort Exact text n
short-is text n h = (digits-are-read (2 ^ 32) text n (omega arith)).0 h

pub long-of : (text : List ℕ) (n : ℕ) → SaysLong Exact text n → long text ≡ Ok n
long-of text n h = (digits-are-read (2 ^ 64) text n (omega arith)).1 h

pub long-is : (text : List ℕ) (n : ℕ) → long text ≡ Ok n → SaysLong Exact text n
long-is text n h = (digits-are-read (2 ^ 64) text n (omega arith)).0 h

pub stamps-of : (text ns : List ℕ) → SaysStamps Exact text ns → numbers_below (2 ^ 64) text ≡ Ok ns
stamps-of text ns h = (digit-lists-are-read (2 ^ 64) text ns (omega arith)).1 h

pub stamps-is : (text ns : List ℕ) → numbers_below (2 ^ 64) text ≡ Ok ns → SaysStamps Exact text ns
stamps-is text ns h = (digit-lists-are-read (2 ^ 64) text ns (omega arith)).0 h

pub which-of : (text : List ℕ) (w : Which) → SaysWhich Exact text w → which_of text ≡ Ok w
which-of text w h = ap which_of h.0 ∙ which-read w h.1

bind-ok : {A B : Type 0} (r : Result A FaultKind) (f : A → Result B FaultKind) (b : B) → (r >>= f) ≡ Ok b → (a : A) × (r ≡ Ok a) × (f a ≡ Ok b)
bind-ok (Ok a) f b h = (a, refl, h)
bind-ok {A} {B} (Err kind) f b h = absurd (let no : ◌≡◌ {A = Result B FaultKind} (Err kind) (Ok b) = h in cc)

same-which : (v w : Which) → ◌≡◌ {A = Result Which FaultKind} (Ok v) (Ok w) → v ≡ w
same-which v w h = cc

no-which : {A : Type 0} (w : Which) → ◌≡◌ {A = Result Which FaultKind} (Err Number) (Ok w) → A
no-which w h = absurd (cc)

parts-which : (text : List ℕ) (parts : List (List ℕ)) (w : Which) → join_with_byte 58 parts ≡ text → which_in parts ≡ Ok w → SaysWhich Exact text w
parts-which text [] w e h = no-which w h
parts-which text (number ∷ []) w e h =
    let n = bind-ok (short number) (λ n. Ok (which.Number n)) w h in
    let is = short-is number n.0 n.1 in
    subst (λ (v : Which). SaysWhich Exact text v) (same-which (which.Number n.0) w n.2) (sym e ∙ is.0, is.1)
parts-which text (lane ∷ place ∷ []) w e h =
    let l = bind-ok (short lane) (λ l. short place >>= λ p. Ok (which.Label l p)) w h in
    let p = bind-ok (short place) (λ p. Ok (which.Label l.0 p)) w l.2 in
    let the_lane = short-is lane l.0 l.1 in
    let the_place = short-is place p.0 p.1 in
    subst (λ (v : Which). SaysWhich Exact text v) (same-which (which.Label l.0 p.0) w p.2)
    (sym e ∙ ap (λ t. t ++ 58 ∷ place) the_lane.0 ∙ ap (λ t. decimal l.0 ++ 58 ∷ t) the_place.0, (the_lane.1, the_place.1))
parts-which text (lane ∷ place ∷ more ∷ rest) w e h = no-which w h

pub which-is : (text : List ℕ) (w : Which) → which_of text ≡ Ok w → SaysWhich Exact text w
which-is text w h = parts-which text (slice_split (λ b. b == 58) text) w (join_with_byte-slice_split 58 text) h
