-- The places at which lists of paths stop. Lists are read from the left, path by path.
use Rattle.std.proofs.Common.{◌≡◌, ℕ, zero, suc, ◌+◌, ◌≤◌, ◌==◌, Bool, true, false, ◌||◌, List, [], ◌∷◌, Option, Some, None, Result, Ok, Err, length, take, drop, refl, sym, ap, ◌∙◌, arith, if◌then◌else◌, length-drop}
use Rattle.std.proofs.lemmas.Bool.{eqb-true, ne_eqb}
use Rattle.rev_syntax.specs.declared.bytes.End.TheVariants.{SpaceEnd, PathEnd, ListEnd}
use Rattle.rev_syntax.specs.declared.fault.SyntaxFault.{SyntaxFault}
use Rattle.rev_syntax.specs.declared.fault.SyntaxKind.{SyntaxKind}
use Rattle.rev_syntax.specs.Bytes.{begins_with}
use Rattle.rev_syntax.specs.Ends.{ends_at, free_len}
use Rattle.rev_syntax.specs.Faults.{and_then}
use Rattle.rev_syntax.specs.Lines.{LineValue}
use Rattle.rev_syntax.specs.Lists.{ends_list}
use Rattle.rev_syntax.specs.Paths as path
use Rattle.rev_syntax.specs.Paths.{text_of, raw_paths, texts_of, list_of}
use Rattle.rev_syntax.specs.Texts.{PieceValue}
use Rattle.rev_syntax.proofs.PathLemmas.{raw_paths-next}
use Rattle.rev_syntax.proofs.TextSteps.{Outside, tfault}
use Rattle.rev_syntax.proofs.LineSteps.{Part, State, here, in_text, in_list, outside, run, verdict}
use Rattle.rev_syntax.proofs.BindingPlaces.{tells, told, outcome, tells-text}
use Rattle.rev_syntax.proofs.LinePlaces.{no-end, list-text, or_else, path-run}

abbrev pub Found : Type 0
Found = path.Part (List (List PieceValue))

-- lengths
list-free : (b : ℕ) → ends_at PathEnd b ≡ false → ends_at ListEnd b ≡ false
list-free b h = let free = no-end b h in (λ i. free.1 i || free.2 i)

split-len : (taken : Bool) (text : List ℕ) → free_len ListEnd taken text ≡ free_len PathEnd taken text + free_len ListEnd false (drop (free_len PathEnd taken text) text)
split-len true [] = refl
split-len false [] = refl
split-len true (b ∷ bs) =
    let n = free_len PathEnd false bs in
    let same : free_len ListEnd false bs ≡ n + free_len ListEnd false (drop n bs) = split-len false bs in
    let more : suc (free_len ListEnd false bs) ≡ suc n + free_len ListEnd false (drop n bs) = omega (arith, same) in
    more
split-len false (b ∷ bs) = by (ends_at PathEnd b) refl (split-len (b == 36) bs)
  where
    by : (t : Bool) → ends_at PathEnd b ≡ t → free_len ListEnd (b == 36) bs ≡ free_len PathEnd (b == 36) bs + free_len ListEnd false (drop (free_len PathEnd (b == 36) bs) bs)
        → free_len ListEnd false (b ∷ bs)
        ≡ (if t then 0 else suc (free_len PathEnd (b == 36) bs)) + free_len ListEnd false (drop (if t then 0 else suc (free_len PathEnd (b == 36) bs)) (b ∷ bs))
    by true e same = omega arith
    by false e same =
        let n = free_len PathEnd (b == 36) bs in
        let more : suc (free_len ListEnd (b == 36) bs) ≡ suc n + free_len ListEnd false (drop n bs) = omega (arith, same) in
        ap (λ t. if t then 0 else suc (free_len ListEnd (b == 36) bs)) (list-free b e) ∙ more

space-len : (taken : Bool) (text : List ℕ) → free_len SpaceEnd taken (take (free_len ListEnd taken text) text) ≡ free_len PathEnd taken text
space-len true [] = refl
space-len false [] = refl
space-len true (b ∷ bs) = ap suc (space-len false bs)
space-len false (b ∷ bs) = by (b == 32) refl (b == 58 || b == 124) refl (b == 58) refl (b == 124) refl (space-len (b == 36) bs)
  where
    by : (s : Bool) → (b == 32) ≡ s → (l : Bool) → (b == 58 || b == 124) ≡ l → (u : Bool) → (b == 58) ≡ u → (v : Bool) → (b == 124) ≡ v
        → free_len SpaceEnd (b == 36) (take (free_len ListEnd (b == 36) bs) bs) ≡ free_len PathEnd (b == 36) bs
        → free_len SpaceEnd false (take (if l then 0 else suc (free_len ListEnd (b == 36) bs)) (b ∷ bs)) ≡ (if s || u || v then 0 else suc (free_len PathEnd (b == 36) bs))
    by true e true m u f v g same = refl
    by true e false m u f v g same = ap (λ t. if t then 0 else suc (free_len SpaceEnd (b == 36) (take (free_len ListEnd (b == 36) bs) bs))) e
    by false e true m true f v g same = refl
    by false e true m false f true g same = refl
    by false e true m false f false g same = let none : false ≡ true = sym (λ i. f i || g i) ∙ m in cc
    by false e false m true f v g same = let none : true ≡ false = sym (λ i. f i || (b == 124)) ∙ m in cc
    by false e false m false f true g same = let none : true ≡ false = sym (λ i. f i || g i) ∙ m in cc
    by false e false m false f false g same =
        ap (λ t. if t then 0 else suc (free_len SpaceEnd (b == 36) (take (free_len ListEnd (b == 36) bs) bs))) e ∙ ap suc same

-- parts of parts
plus-suc : (n m : ℕ) → suc n + m ≡ suc (n + m)
plus-suc n m = omega arith

plus-none : (m : ℕ) → 0 + m ≡ m
plus-none m = omega arith

abbrev no_bytes : List ℕ
no_bytes = []

take-none : (m : ℕ) → no_bytes ≡ take m no_bytes
take-none zero = refl
take-none (suc m) = refl

drop-none : (m : ℕ) → no_bytes ≡ drop m no_bytes
drop-none zero = refl
drop-none (suc m) = refl

take-part : (n m : ℕ) (xs : List ℕ) → take n (take (n + m) xs) ≡ take n xs
take-part zero m xs = refl
take-part (suc n) m [] = ap (λ k. take (suc n) (take k [])) (plus-suc n m)
take-part (suc n) m (x ∷ xs) = ap (λ k. take (suc n) (take k (x ∷ xs))) (plus-suc n m) ∙ ap (λ t. x ∷ t) (take-part n m xs)

drop-part : (n m : ℕ) (xs : List ℕ) → drop n (take (n + m) xs) ≡ take m (drop n xs)
drop-part zero m xs = ap (λ k. take k xs) (plus-none m)
drop-part (suc n) m [] = ap (λ k. drop (suc n) (take k [])) (plus-suc n m) ∙ take-none m
drop-part (suc n) m (x ∷ xs) = ap (λ k. drop (suc n) (take k (x ∷ xs))) (plus-suc n m) ∙ drop-part n m xs

drop-more : (n m : ℕ) (xs : List ℕ) → drop (n + m) xs ≡ drop m (drop n xs)
drop-more zero m xs = ap (λ k. drop k xs) (plus-none m)
drop-more (suc n) m [] = ap (λ k. drop k []) (plus-suc n m) ∙ drop-none m
drop-more (suc n) m (x ∷ xs) = ap (λ k. drop k (x ∷ xs)) (plus-suc n m) ∙ drop-more n m xs

-- a list by its first path
regroup : (first : Result (List PieceValue) SyntaxFault) (others : Result (List (List PieceValue)) SyntaxFault) (rest : List ℕ)
    → and_then {B = Found} (and_then first (λ path. and_then others (λ paths. Ok (path ∷ paths)))) (λ paths. Ok (paths, rest))
    ≡ and_then first (λ path. and_then (and_then {B = Found} others (λ paths. Ok (paths, rest))) (λ more. Ok (path ∷ more.0, more.1)))
regroup (Ok path) (Ok paths) rest = refl
regroup (Ok path) (Err fault) rest = refl
regroup (Err fault) others rest = refl

list-first : (line : LineValue) (b : ℕ) (bs : List ℕ) → ends_at PathEnd b ≡ false
    → list_of line (b ∷ bs)
    ≡ and_then (text_of line (take (free_len PathEnd false (b ∷ bs)) (b ∷ bs))) (λ path. and_then (list_of line (drop (free_len PathEnd false (b ∷ bs)) (b ∷ bs))) (λ more. Ok (path ∷ more.0, more.1)))
list-first line b bs h =
    let text = b ∷ bs in
    let n = free_len PathEnd false text in
    let m = free_len ListEnd false (drop n text) in
    let l = free_len ListEnd false text in
    let whole = take l text in
    let free = list-free b h in
    let some : (length whole == 0) ≡ false = ap (λ t. length (take (if t then 0 else suc (free_len ListEnd (b == 36) bs)) text) == 0) free ∙ longer (take (free_len ListEnd (b == 36) bs) bs) in
    let led : begins_with 32 whole ≡ false = ap (λ t. begins_with 32 (take (if t then 0 else suc (free_len ListEnd (b == 36) bs)) text)) free ∙ (no-end b h).0 in
    let len = split-len false text in
    ap (λ raws. and_then {B = Found} (texts_of line raws) (λ paths. Ok (paths, drop l text))) (raw_paths-next whole some led)
    ∙ ap (λ k. and_then {B = Found} (texts_of line (take k whole ∷ raw_paths (drop k whole))) (λ paths. Ok (paths, drop l text))) (space-len false text)
    ∙ ap (λ k. and_then {B = Found} (texts_of line (take n (take k text) ∷ raw_paths (drop n (take k text)))) (λ paths. Ok (paths, drop k text))) len
    ∙ (λ i. and_then {B = Found} (texts_of line (take-part n m text i ∷ raw_paths (drop-part n m text i))) (λ paths. Ok (paths, drop-more n m text i)))
    ∙ regroup (text_of line (take n text)) (texts_of line (raw_paths (take m (drop n text)))) (drop m (drop n text))
  where
    longer : (xs : List ℕ) → (suc (length xs) == 0) ≡ false
    longer xs = ne_eqb (suc (length xs)) 0 (λ e. cc)

list-space : (line : LineValue) (bs : List ℕ) → list_of line (32 ∷ bs) ≡ list_of line bs
list-space line bs = refl

list-stopped : (line : LineValue) (b : ℕ) (bs : List ℕ) → ends_at ListEnd b ≡ true → list_of line (b ∷ bs) ≡ Ok ([], b ∷ bs)
list-stopped line b bs h =
    ap (λ t. and_then {B = Found} (texts_of line (raw_paths (take (if t then 0 else suc (free_len ListEnd (b == 36) bs)) (b ∷ bs)))) (λ paths. Ok (paths, drop (if t then 0 else suc (free_len ListEnd (b == 36) bs)) (b ∷ bs)))) h

pub then-then : {A B C : Type 0} (answer : Result A SyntaxFault) (f : A → Result B SyntaxFault) (g : B → Result C SyntaxFault) → and_then (and_then answer f) g ≡ and_then answer (λ x. and_then (f x) g)
then-then (Ok x) f g = refl
then-then (Err fault) f g = refl

-- whether a list has a path behind these
abbrev pub grown : Bool → List (List PieceValue) → Bool
grown some [] = some
grown some (path ∷ paths) = true

still-grown : (paths : List (List PieceValue)) → grown true paths ≡ true
still-grown [] = refl
still-grown (path ∷ paths) = refl

-- what follows a list goes on as the bytes do
abbrev pub GoesOn : {B : Type 0} → LineValue → (Bool → Part) → Bool → (Found → Result B SyntaxFault) → Type 0
GoesOn line part some next =
    (paths : List (List PieceValue)) (rest : List ℕ) → ends_list rest ≡ true → tells (next (paths, rest)) ≡ outcome line (run (here (part (grown some paths))) rest)

abbrev pub IsListPart : (Bool → Part) → Type 0
IsListPart part = (colon : Bool → State) × (bar : Bool → State) × ((some : Bool) (b : ℕ) → outside (part some) b ≡ in_list (colon some) (bar some) (part some) (part true) b)

fewer : (k b : ℕ) (bs : List ℕ) → ends_at PathEnd b ≡ false → length (b ∷ bs) ≤ suc k → length (drop (free_len PathEnd false (b ∷ bs)) (b ∷ bs)) ≤ k
fewer k b bs h few =
    let n = free_len PathEnd (b == 36) bs in
    let same : length (drop (free_len PathEnd false (b ∷ bs)) (b ∷ bs)) ≡ length (drop n bs) = ap (λ t. length (drop (if t then 0 else suc n) (b ∷ bs))) h in
    omega (arith, same, length-drop n bs)

path-step : {B : Type 0} (line : LineValue) (part : Bool → Part) → IsListPart part → (some : Bool) (next : Found → Result B SyntaxFault) → GoesOn line part some next → (b : ℕ) (bs : List ℕ) → ends_at PathEnd b ≡ false
    → ((path : List PieceValue)
    → tells (and_then (list_of line (drop (free_len PathEnd false (b ∷ bs)) (b ∷ bs))) (λ more. next (path ∷ more.0, more.1)))
    ≡ outcome line (run (here (part true)) (drop (free_len PathEnd false (b ∷ bs)) (b ∷ bs))))
    → tells (and_then (list_of line (b ∷ bs)) next) ≡ outcome line (run (here (part some)) (b ∷ bs))
path-step line part is some next goes b bs h others =
    let text = b ∷ bs in
    let n = free_len PathEnd false text in
    ap (λ r. tells (and_then r next)) (list-first line b bs h)
    ∙ by (text_of line (take n text)) (tells-text line (take n text))
    ∙ sym (ap (told line) (path-run (part true) (λ c d. is.2 true c ∙ list-text (is.0 true) (is.1 true) (part true) (part true) c d) line.ended Outside text))
    ∙ ap (λ s. outcome line (run s bs)) (is.2 true b ∙ list-text (is.0 true) (is.1 true) (part true) (part true) b h)
    ∙ sym (ap (λ s. outcome line (run s bs)) (is.2 some b ∙ list-text (is.0 some) (is.1 some) (part some) (part true) b h))
  where
    fault : (o : Option SyntaxKind) (f : SyntaxFault) → Some f ≡ told line o → Some f ≡ told line (or_else o (verdict line.ended (run (here (part true)) (drop (free_len PathEnd false (b ∷ bs)) (b ∷ bs)))))
    fault None f e = cc
    fault (Some kind) f e = e

    value : (o : Option SyntaxKind) (path : List PieceValue) → None ≡ told line o
        → tells (and_then (and_then {B = Found} (list_of line (drop (free_len PathEnd false (b ∷ bs)) (b ∷ bs))) (λ more. Ok (path ∷ more.0, more.1))) next)
        ≡ told line (or_else o (verdict line.ended (run (here (part true)) (drop (free_len PathEnd false (b ∷ bs)) (b ∷ bs)))))
    value None path e = ap tells (then-then {B = Found} (list_of line (drop (free_len PathEnd false (b ∷ bs)) (b ∷ bs))) (λ more. Ok (path ∷ more.0, more.1)) next) ∙ others path
    value (Some kind) path e = cc

    by : (answer : Result (List PieceValue) SyntaxFault) → tells answer ≡ told line (tfault Outside (take (free_len PathEnd false (b ∷ bs)) (b ∷ bs)))
        → tells (and_then (and_then {B = Found} answer (λ path. and_then (list_of line (drop (free_len PathEnd false (b ∷ bs)) (b ∷ bs))) (λ more. Ok (path ∷ more.0, more.1)))) next)
        ≡ told line (or_else (tfault Outside (take (free_len PathEnd false (b ∷ bs)) (b ∷ bs))) (verdict line.ended (run (here (part true)) (drop (free_len PathEnd false (b ∷ bs)) (b ∷ bs)))))
    by (Ok path) e = value (tfault Outside (take (free_len PathEnd false (b ∷ bs)) (b ∷ bs))) path e
    by (Err f) e = fault (tfault Outside (take (free_len PathEnd false (b ∷ bs)) (b ∷ bs))) f e

list-goes : {B : Type 0} (line : LineValue) (part : Bool → Part) → IsListPart part → (k : ℕ) (text : List ℕ) → length text ≤ k → (some : Bool) (next : Found → Result B SyntaxFault) → GoesOn line part some next
    → tells (and_then (list_of line text) next) ≡ outcome line (run (here (part some)) text)
list-goes line part is k [] few some next goes = goes [] [] refl
list-goes line part is zero (b ∷ bs) few some next goes = absurd (omega arith)
list-goes {B} line part is (suc k) (b ∷ bs) few some next goes =
    by (b == 32) refl (b == 58) refl (b == 124) refl (λ few. list-goes line part is k bs few some next goes)
    (λ text few more on. list-goes line part is k text few true more on)
  where
    by : (t : Bool) → (b == 32) ≡ t → (u : Bool) → (b == 58) ≡ u → (v : Bool) → (b == 124) ≡ v
        → (length bs ≤ k → tells (and_then (list_of line bs) next) ≡ outcome line (run (here (part some)) bs))
        → ((text : List ℕ) → length text ≤ k → (more : Found → Result B SyntaxFault) → GoesOn line part true more → tells (and_then (list_of line text) more) ≡ outcome line (run (here (part true)) text))
        → tells (and_then (list_of line (b ∷ bs)) next) ≡ outcome line (run (here (part some)) (b ∷ bs))
    by true e u f v g same rest =
        ap (λ (x : ℕ). tells (and_then (list_of line (x ∷ bs)) next)) (eqb-true b 32 e)
        ∙ same (omega arith)
        ∙ sym (ap (λ s. outcome line (run s bs)) (is.2 some b ∙ ap (λ t. if t then here (part some) else (if b == 58 then is.0 some else (if b == 124 then is.1 some else in_text (part true) b))) e))
    by false e true f v g same rest =
        let stop : ends_at ListEnd b ≡ true = ap (λ t. t || b == 124) f in
        ap (λ r. tells (and_then r next)) (list-stopped line b bs stop) ∙ goes [] (b ∷ bs) stop
    by false e false f true g same rest =
        let stop : ends_at ListEnd b ≡ true = (λ i. f i || g i) in
        ap (λ r. tells (and_then r next)) (list-stopped line b bs stop) ∙ goes [] (b ∷ bs) stop
    by false e false f false g same rest =
        let free : ends_at PathEnd b ≡ false = (λ i. e i || f i || g i) in
        path-step line part is some next goes b bs free
        (λ path. rest (drop (free_len PathEnd false (b ∷ bs)) (b ∷ bs)) (fewer k b bs free few) (λ more. next (path ∷ more.0, more.1))
        (λ paths left ends. goes (path ∷ paths) left ends ∙ ap (λ t. outcome line (run (here (part t)) left)) (sym (still-grown paths))))

pub list-run : {B : Type 0} (line : LineValue) (part : Bool → Part) → IsListPart part → (text : List ℕ) (some : Bool) (next : Found → Result B SyntaxFault) → GoesOn line part some next
    → tells (and_then (list_of line text) next) ≡ outcome line (run (here (part some)) text)
list-run line part is text some next goes = list-goes line part is (length text) text (omega arith) some next goes
