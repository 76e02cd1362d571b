-- Lists of paths against their grammar.
use Rattle.std.proofs.Common.{◌≡◌, ℕ, zero, suc, ◌+◌, ◌≤◌, Bool, true, false, not, ◌||◌, ◌==◌, List, [], ◌∷◌, ◌++◌, length, take, drop, Option, Some, None, Result, Ok, Err, refl, sym, ap, subst, ◌∙◌, if◌then◌else◌, arith, append_assoc, length-append, length-drop}
use Rattle.std.proofs.lemmas.Bool.{eqb-true}
use Rattle.rev_syntax.specs.declared.bytes.End.{End}
use Rattle.rev_syntax.specs.declared.bytes.End.TheVariants.{SpaceEnd, PathEnd, ListEnd}
use Rattle.rev_syntax.specs.declared.fault.SyntaxKind.{SyntaxKind}
use Rattle.rev_syntax.specs.declared.fault.SyntaxFault.{SyntaxFault}
use Rattle.rev_syntax.specs.Bytes.{is_in_name, is_in_bare_name, is_empty}
use Rattle.rev_syntax.specs.Ends.{ends_at, free_len}
use Rattle.rev_syntax.specs.Lines.{LineValue}
use Rattle.rev_syntax.specs.Texts.{PieceValue, is_no_text, fault_of, pieces_of}
use Rattle.rev_syntax.specs.Faults.{and_then}
use Rattle.rev_syntax.specs.Grammar.{is_run, is_name, ReadsAs, Plain, Escaped, Bare, Braced}
use Rattle.rev_syntax.specs.Grammar as text
use Rattle.rev_syntax.specs.Paths.{text_or_fault, text_of, raw_paths, texts_of, list_of}
use Rattle.rev_syntax.specs.Lists.{IsPath, ends_path, ends_list, ListReads, Nothing, Space, Path}
use Rattle.rev_syntax.proofs.GrammarLemmas.{both, not_true, take-front, drop-front, take_drop, texts-read}
use Rattle.rev_syntax.proofs.PathLemmas.{raw_paths-first}

suc-same : (m n : ℕ) → suc m ≡ suc n → m ≡ n
suc-same m n h = omega arith

no-length : (n : ℕ) → 0 ≡ suc n → ⊥
no-length n h = absurd (omega arith)

either : (a b : Bool) → (a || b) ≡ false → (a ≡ false) × (b ≡ false)
either true b h = cc
either false b h = (refl, h)

-- what ends no path ends nothing
no-end : (end : End) (b : ℕ) → ends_at PathEnd b ≡ false → ends_at end b ≡ false
no-end SpaceEnd b h = (either (b == 32) (b == 58) (either (b == 32 || b == 58) (b == 124) h).0).0
no-end PathEnd b h = h
no-end ListEnd b h = (λ i. (either (b == 32) (b == 58) (either (b == 32 || b == 58) (b == 124) h).0).1 i || (either (b == 32 || b == 58) (b == 124) h).1 i)

-- whether a `$` takes along the byte after these
abbrev pub flag : Bool → List ℕ → Bool
flag taken [] = taken
flag true (b ∷ bs) = flag false bs
flag false (b ∷ bs) = flag (b == 36) bs

not-dollar : (test : ℕ → Bool) (b : ℕ) → test 36 ≡ false → test b ≡ true → (b == 36) ≡ false
not-dollar test b none h = by (b == 36) refl
  where
    by : (t : Bool) → (b == 36) ≡ t → t ≡ false
    by false e = refl
    by true e = sym h ∙ ap test (eqb-true b 36 e) ∙ none

flag-run : (test : ℕ → Bool) (name text : List ℕ) → test 36 ≡ false → is_run test name ≡ true → flag false (name ++ text) ≡ flag false text
flag-run test [] text none h = refl
flag-run test (b ∷ bs) text none h =
    let parts = both (test b) (is_run test bs) h in
    ap (λ t. flag t (bs ++ text)) (not-dollar test b none parts.0) ∙ flag-run test bs text none parts.1

flag-bare : (name text : List ℕ) → is_name is_in_bare_name name ≡ true → flag false text ≡ false → flag true (name ++ text) ≡ false
flag-bare [] text h f = cc
flag-bare (c ∷ cs) text h f = flag-run is_in_bare_name cs text refl (both (is_in_bare_name c) (is_run is_in_bare_name cs) h).1 ∙ f

pub flag-text : {raw : List ℕ} {path : List PieceValue} → ReadsAs raw path → flag false raw ≡ false
flag-text text.Nothing = refl
flag-text (Plain {b} {text} {pieces} h r) = ap (λ t. flag t text) (not_true (b == 36) (both (not (b == 36)) (not (is_no_text b)) h).0) ∙ flag-text r
flag-text (Escaped {b} {text} {pieces} h r) = flag-text r
flag-text (Bare name {text} {pieces} h e r) = flag-bare name text h (flag-text r)
flag-text (Braced name {text} {pieces} h r) = flag-run is_in_name name (125 ∷ text) refl (both (not (is_empty name)) (is_run is_in_name name) h).1 ∙ flag-text r

-- an end behind a path
walk-step : (end : End) (b : ℕ) (bs more : List ℕ) (m : ℕ) (t : Bool) → ends_at PathEnd b ≡ t → (if t then 0 else suc (free_len PathEnd (b == 36) bs)) ≡ suc (length bs)
    → (free_len PathEnd (b == 36) bs ≡ length bs → free_len end (b == 36) (bs ++ more) ≡ length bs + m)
    → (if ends_at end b then 0 else suc (free_len end (b == 36) (bs ++ more))) ≡ suc (length bs) + m
walk-step end b bs more m true e w rest = absurd (no-length (length bs) w)
walk-step end b bs more m false e w rest =
    let same : free_len end (b == 36) (bs ++ more) ≡ length bs + m = rest (suc-same _ _ w) in
    let one : suc (free_len end (b == 36) (bs ++ more)) ≡ suc (length bs) + m = omega (arith, same) in
    ap (λ t. if t then 0 else suc (free_len end (b == 36) (bs ++ more))) (no-end end b e) ∙ one

pub walk : (end : End) (taken : Bool) (raw more : List ℕ) (m : ℕ) → free_len PathEnd taken raw ≡ length raw → flag taken raw ≡ false → free_len end false more ≡ m
    → free_len end taken (raw ++ more) ≡ length raw + m
walk end true [] more m w f h = cc
walk end false [] more m w f h = omega (arith, h)
walk end true (b ∷ bs) more m w f h =
    let same : free_len end false (bs ++ more) ≡ length bs + m = walk end false bs more m (suc-same _ _ w) f h in omega (arith, same)
walk end false (b ∷ bs) more m w f h = walk-step end b bs more m (ends_at PathEnd b) refl w (λ v. walk end (b == 36) bs more m v f h)

list-stop : (rest : List ℕ) → ends_list rest ≡ true → free_len ListEnd false rest ≡ 0
list-stop [] h = refl
list-stop (b ∷ bs) h = ap (λ t. if t then 0 else suc (free_len ListEnd (b == 36) bs)) h

path-stop : (rest : List ℕ) → ends_path rest ≡ true → free_len SpaceEnd false rest ≡ 0
path-stop [] h = refl
path-stop (b ∷ bs) h = ap (λ t. if t then 0 else suc (free_len SpaceEnd (b == 36) bs)) h

-- what the grammar reads is read
list-len : {front : List ℕ} {paths : List (List PieceValue)} (rest : List ℕ) → ends_list rest ≡ true → ListReads front paths → free_len ListEnd false (front ++ rest) ≡ length front
list-len rest h Nothing = list-stop rest h
list-len rest h (Space {text} {paths} r) = ap suc (list-len rest h r)
list-len rest h (Path raw {text} {path} {paths} p e r) =
    ap (free_len ListEnd false) (append_assoc raw text rest)
    ∙ walk ListEnd false raw (text ++ rest) (length text) p.whole (flag-text p.reads) (list-len rest h r) ∙ sym (length-append raw text)

first-read : (raw text : List ℕ) (path : List PieceValue) → IsPath raw path → ends_path text ≡ true → raw_paths (raw ++ text) ≡ raw ∷ raw_paths text
first-read [] text path p e = by p.some
  where
    by : true ≡ false → raw_paths text ≡ [] ∷ raw_paths text
    by h = cc
first-read (c ∷ cs) text path p e =
    let len : free_len SpaceEnd false (c ∷ cs ++ text) ≡ length (c ∷ cs) =
    walk SpaceEnd false (c ∷ cs) text 0 p.whole (flag-text p.reads) (path-stop text e) ∙ add-nothing (length (c ∷ cs)) in
    raw_paths-first c (cs ++ text) (no-end SpaceEnd c (some-free (ends_at PathEnd c) refl p.whole))
    ∙ (λ i. take (len i) (c ∷ cs ++ text) ∷ raw_paths (drop (len i) (c ∷ cs ++ text)))
    ∙ (λ i. take-front (c ∷ cs) text i ∷ raw_paths (drop-front (c ∷ cs) text i))
  where
    add-nothing : (n : ℕ) → n + 0 ≡ n
    add-nothing n = omega arith

    some-free : (t : Bool) → ends_at PathEnd c ≡ t → (if t then 0 else suc (free_len PathEnd (c == 36) cs)) ≡ suc (length cs) → t ≡ false
    some-free true d w = absurd (no-length (length cs) w)
    some-free false d w = refl

path-read : (line : LineValue) (raw : List ℕ) (path : List PieceValue) → ReadsAs raw path → text_of line raw ≡ Ok path
path-read line raw path r = let h = (texts-read raw path).1 r in (λ i. text_or_fault line (h.0 i) (h.1 i))

paths-read : (line : LineValue) {front : List ℕ} {paths : List (List PieceValue)} → ListReads front paths → texts_of line (raw_paths front) ≡ Ok paths
paths-read line Nothing = refl
paths-read line (Space {text} {paths} r) = paths-read line r
paths-read line (Path raw {text} {path} {paths} p e r) =
    ap (texts_of line) (first-read raw text path p e)
    ∙ ap (λ t. and_then t (λ first. and_then (texts_of line (raw_paths text)) (λ others. Ok (first ∷ others)))) (path-read line raw path p.reads)
    ∙ ap (λ t. and_then t (λ others. Ok (path ∷ others))) (paths-read line r)

list-read : (line : LineValue) (front rest : List ℕ) (paths : List (List PieceValue)) → ListReads front paths → ends_list rest ≡ true → list_of line (front ++ rest) ≡ Ok (paths, rest)
list-read line front rest paths r h =
    let len : free_len ListEnd false (front ++ rest) ≡ length front = list-len rest h r in
    (λ i. and_then (texts_of line (raw_paths (take (len i) (front ++ rest)))) (λ found. Ok (found, drop (len i) (front ++ rest))))
    ∙ (λ i. and_then (texts_of line (raw_paths (take-front front rest i))) (λ found. Ok (found, drop-front front rest i)))
    ∙ ap (λ t. and_then t (λ found. Ok (found, rest))) (paths-read line r)

-- where nothing of a text ends a list
list-stops : (taken : Bool) (text : List ℕ) → ends_list (drop (free_len ListEnd taken text) text) ≡ true
list-stops taken [] = refl
list-stops true (b ∷ bs) = list-stops false bs
list-stops false (b ∷ bs) = by (b == 58 || b == 124) refl (list-stops (b == 36) bs)
  where
    by : (t : Bool) → (b == 58 || b == 124) ≡ t → ends_list (drop (free_len ListEnd (b == 36) bs) bs) ≡ true
        → ends_list (drop (if t then 0 else suc (free_len ListEnd (b == 36) bs)) (b ∷ bs)) ≡ true
    by true e rest = e
    by false e rest = rest

front-free : (taken : Bool) (text : List ℕ) → free_len ListEnd taken (take (free_len ListEnd taken text) text) ≡ length (take (free_len ListEnd taken text) text)
front-free true [] = refl
front-free false [] = refl
front-free true (b ∷ bs) = ap suc (front-free false bs)
front-free false (b ∷ bs) = by (ends_at ListEnd b) refl (front-free (b == 36) bs)
  where
    by : (t : Bool) → ends_at ListEnd b ≡ t → free_len ListEnd (b == 36) (take (free_len ListEnd (b == 36) bs) bs) ≡ length (take (free_len ListEnd (b == 36) bs) bs)
        → free_len ListEnd false (take (if t then 0 else suc (free_len ListEnd (b == 36) bs)) (b ∷ bs)) ≡ length (take (if t then 0 else suc (free_len ListEnd (b == 36) bs)) (b ∷ bs))
    by true e rest = refl
    by false e rest = ap (λ t. if t then 0 else suc (free_len ListEnd (b == 36) (take (free_len ListEnd (b == 36) bs) bs))) e ∙ ap suc rest

space-stops : (taken : Bool) (text : List ℕ) → ends_path (drop (free_len SpaceEnd taken text) text) ≡ true
space-stops taken [] = refl
space-stops true (b ∷ bs) = space-stops false bs
space-stops false (b ∷ bs) = by (b == 32) refl (space-stops (b == 36) bs)
  where
    by : (t : Bool) → (b == 32) ≡ t → ends_path (drop (free_len SpaceEnd (b == 36) bs) bs) ≡ true
        → ends_path (drop (if t then 0 else suc (free_len SpaceEnd (b == 36) bs)) (b ∷ bs)) ≡ true
    by true e rest = e
    by false e rest = rest

-- the first path of such a text, and what follows it
free-byte : (b : ℕ) (bs : List ℕ) (t : Bool) → ends_at ListEnd b ≡ t → (if t then 0 else suc (free_len ListEnd (b == 36) bs)) ≡ suc (length bs)
    → (ends_at ListEnd b ≡ false) × (free_len ListEnd (b == 36) bs ≡ length bs)
free-byte b bs true e w = absurd (no-length (length bs) w)
free-byte b bs false e w = (e, suc-same _ _ w)

path-end : (b : ℕ) → (b == 32) ≡ false → ends_at ListEnd b ≡ false → ends_at PathEnd b ≡ false
path-end b s h = let parts = either (b == 58) (b == 124) h in (λ i. s i || parts.0 i || parts.1 i)

path-whole : (taken : Bool) (text : List ℕ) → free_len ListEnd taken text ≡ length text
    → free_len PathEnd taken (take (free_len SpaceEnd taken text) text) ≡ length (take (free_len SpaceEnd taken text) text)
path-whole true [] w = refl
path-whole false [] w = refl
path-whole true (b ∷ bs) w = ap suc (path-whole false bs (suc-same _ _ w))
path-whole false (b ∷ bs) w = let free = free-byte b bs (ends_at ListEnd b) refl w in by (b == 32) refl free.0 (path-whole (b == 36) bs free.1)
  where
    by : (t : Bool) → (b == 32) ≡ t → ends_at ListEnd b ≡ false
        → free_len PathEnd (b == 36) (take (free_len SpaceEnd (b == 36) bs) bs) ≡ length (take (free_len SpaceEnd (b == 36) bs) bs)
        → free_len PathEnd false (take (if t then 0 else suc (free_len SpaceEnd (b == 36) bs)) (b ∷ bs)) ≡ length (take (if t then 0 else suc (free_len SpaceEnd (b == 36) bs)) (b ∷ bs))
    by true e h rest = refl
    by false e h rest = ap (λ t. if t then 0 else suc (free_len PathEnd (b == 36) (take (free_len SpaceEnd (b == 36) bs) bs))) (path-end b e h) ∙ ap suc rest

rest-free : (taken : Bool) (text : List ℕ) → free_len ListEnd taken text ≡ length text
    → free_len ListEnd false (drop (free_len SpaceEnd taken text) text) ≡ length (drop (free_len SpaceEnd taken text) text)
rest-free true [] w = refl
rest-free false [] w = refl
rest-free true (b ∷ bs) w = rest-free false bs (suc-same _ _ w)
rest-free false (b ∷ bs) w = let free = free-byte b bs (ends_at ListEnd b) refl w in by (b == 32) refl (rest-free (b == 36) bs free.1)
  where
    by : (t : Bool) → (b == 32) ≡ t → free_len ListEnd false (drop (free_len SpaceEnd (b == 36) bs) bs) ≡ length (drop (free_len SpaceEnd (b == 36) bs) bs)
        → free_len ListEnd false (drop (if t then 0 else suc (free_len SpaceEnd (b == 36) bs)) (b ∷ bs)) ≡ length (drop (if t then 0 else suc (free_len SpaceEnd (b == 36) bs)) (b ∷ bs))
    by true e rest = w
    by false e rest = rest

-- answers that are values
pub text-ok : (line : LineValue) (fault : Option SyntaxKind) (pieces path : List PieceValue) → text_or_fault line fault pieces ≡ Ok path → (fault ≡ None) × (pieces ≡ path)
text-ok line None pieces path h = (refl, cc)
text-ok line (Some kind) pieces path h = cc

paths-ok : (first : Result (List PieceValue) SyntaxFault) (more : Result (List (List PieceValue)) SyntaxFault) (paths : List (List PieceValue))
    → and_then first (λ path. and_then more (λ others. Ok (path ∷ others))) ≡ Ok paths
    → (path : List PieceValue) × (others : List (List PieceValue)) × (first ≡ Ok path) × (more ≡ Ok others) × (path ∷ others ≡ paths)
paths-ok (Err fault) more paths h = cc
paths-ok (Ok path) (Err fault) paths h = cc
paths-ok (Ok path) (Ok others) paths h = (path, others, refl, refl, cc)

some-front : (b : ℕ) (bs : List ℕ) → (b == 32) ≡ false → is_empty (take (free_len SpaceEnd false (b ∷ bs)) (b ∷ bs)) ≡ false
some-front b bs e = ap (λ t. is_empty (take (if t then 0 else suc (free_len SpaceEnd (b == 36) bs)) (b ∷ bs))) e

fewer : (b k : ℕ) (bs : List ℕ) → (b == 32) ≡ false → length (b ∷ bs) ≤ suc k → length (drop (free_len SpaceEnd false (b ∷ bs)) (b ∷ bs)) ≤ k
fewer b k bs e h =
    let n = free_len SpaceEnd (b == 36) bs in
    let same : length (drop (free_len SpaceEnd false (b ∷ bs)) (b ∷ bs)) ≡ length (drop n bs) = ap (λ t. length (drop (if t then 0 else suc n) (b ∷ bs))) e in
    omega (arith, same, length-drop n bs)

same-paths : (xs ys : List (List PieceValue)) (r : Result (List (List PieceValue)) SyntaxFault) → r ≡ Ok xs → r ≡ Ok ys → xs ≡ ys
same-paths xs ys r g h = cc

-- what is read is what the grammar reads
list-found : (line : LineValue) (k : ℕ) (text : List ℕ) (paths : List (List PieceValue)) → length text ≤ k → free_len ListEnd false text ≡ length text
    → texts_of line (raw_paths text) ≡ Ok paths → ListReads text paths
list-found line k [] paths few w h =
    subst (λ (ps : List (List PieceValue)). ListReads [] ps) (same-paths [] paths (texts_of line (raw_paths [])) refl h) Nothing
list-found line zero (b ∷ bs) paths few w h = absurd (omega arith)
list-found line (suc k) (b ∷ bs) paths few w h = by (b == 32) refl (λ text few w h. list-found line k text paths few w h) (λ text others few w h. list-found line k text others few w h)
  where
    by : (t : Bool) → (b == 32) ≡ t
        → ((text : List ℕ) → length text ≤ k → free_len ListEnd false text ≡ length text → texts_of line (raw_paths text) ≡ Ok paths → ListReads text paths)
        → ((text : List ℕ) (others : List (List PieceValue)) → length text ≤ k → free_len ListEnd false text ≡ length text → texts_of line (raw_paths text) ≡ Ok others → ListReads text others)
        → ListReads (b ∷ bs) paths
    by true e same rest =
        let space : b ≡ 32 = eqb-true b 32 e in
        let free : free_len ListEnd false bs ≡ length bs = suc-same _ _ (subst (λ (x : ℕ). free_len ListEnd false (x ∷ bs) ≡ suc (length bs)) space w) in
        let read : texts_of line (raw_paths bs) ≡ Ok paths = subst (λ (x : ℕ). texts_of line (raw_paths (x ∷ bs)) ≡ Ok paths) space h in
        subst (λ (x : ℕ). ListReads (x ∷ bs) paths) (sym space) (Space (same bs (omega arith) free read))
    by false e same rest =
        let text = b ∷ bs in
        let n = free_len SpaceEnd false text in
        let parts = paths-ok (text_of line (take n text)) (texts_of line (raw_paths (drop n text))) paths (sym (ap (texts_of line) (raw_paths-first b bs e)) ∙ h) in
        let read = text-ok line (fault_of (take n text)) (pieces_of (take n text)) parts.0 parts.2 in
        let path : IsPath (take n text) parts.0 =
        record { some = some-front b bs e; whole = path-whole false text w; reads = (texts-read (take n text) parts.0).0 (read.0, read.1) } in
        let others : ListReads (drop n text) parts.1 = rest (drop n text) parts.1 (fewer b k bs e few) (rest-free false text w) parts.3 in
        let whole : ListReads (take n text ++ drop n text) (parts.0 ∷ parts.1) = Path (take n text) path (space-stops false text) others in
        subst (λ (ps : List (List PieceValue)). ListReads text ps) parts.4 (subst (λ (t : List ℕ). ListReads t (parts.0 ∷ parts.1)) (take_drop n text) whole)

same-part : (x y : List (List PieceValue) × List ℕ) (r : Result (List (List PieceValue) × List ℕ) SyntaxFault) → r ≡ Ok x → r ≡ Ok y → x ≡ y
same-part x y r g h = cc

part-ok : (found : Result (List (List PieceValue)) SyntaxFault) (left rest : List ℕ) (paths : List (List PieceValue))
    → and_then {B = List (List PieceValue) × List ℕ} found (λ ps. Ok (ps, left)) ≡ Ok (paths, rest) → (found ≡ Ok paths) × (left ≡ rest)
part-ok (Err fault) left rest paths h = cc
part-ok (Ok ps) left rest paths h =
    let same = same-part (ps, left) (paths, rest) (Ok (ps, left)) refl h in
    (ap (λ (p : List (List PieceValue) × List ℕ). Ok p.0) same, ap (λ (p : List (List PieceValue) × List ℕ). p.1) same)

pub lists-read : (line : LineValue) (text rest : List ℕ) (paths : List (List PieceValue))
    → (list_of line text ≡ Ok (paths, rest) → (front : List ℕ) × (text ≡ front ++ rest) × ListReads front paths × (ends_list rest ≡ true))
    × ((front : List ℕ) × (text ≡ front ++ rest) × ListReads front paths × (ends_list rest ≡ true) → list_of line text ≡ Ok (paths, rest))
lists-read line text rest paths = (found, given)
  where
    found : list_of line text ≡ Ok (paths, rest) → (front : List ℕ) × (text ≡ front ++ rest) × ListReads front paths × (ends_list rest ≡ true)
    found h =
        let m = free_len ListEnd false text in
        let front = take m text in
        let parts = part-ok (texts_of line (raw_paths front)) (drop m text) rest paths h in (
          front,
          sym (take_drop m text) ∙ ap (λ t. front ++ t) parts.1,
          list-found line (length front) front paths (omega arith) (front-free false text) parts.0,
          sym (ap ends_list parts.1) ∙ list-stops false text,
        )

    given : (front : List ℕ) × (text ≡ front ++ rest) × ListReads front paths × (ends_list rest ≡ true) → list_of line text ≡ Ok (paths, rest)
    given h = ap (list_of line) h.1 ∙ list-read line h.0 rest paths h.2 h.3
