-- Lists of paths, read from the left.
use Rattle.std.proofs.Common.{◌≡◌, ℕ, suc, ◌+◌, ◌<◌, Bool, true, false, not, ◌==◌, List, [], ◌∷◌, ◌++◌, length, take, drop, filter, cond, Result, Ok, Err, refl, sym, ap, ◌∙◌, if◌then◌else◌, arith, length-drop}
use Rattle.std.specs.List.{prefix_len, onto_first}
use Rattle.rev_syntax.specs.declared.bytes.End.TheVariants.{SpaceEnd}
use Rattle.rev_syntax.specs.Bytes.{is_space, without_spaces, is_empty, begins_with}
use Rattle.rev_syntax.specs.Ends.{free_len}
use Rattle.rev_syntax.specs.declared.fault.SyntaxFault.{SyntaxFault}
use Rattle.rev_syntax.specs.Lines.{LineValue}
use Rattle.rev_syntax.specs.Texts.{PieceValue}
use Rattle.rev_syntax.specs.Faults.{and_then}
use Rattle.rev_syntax.specs.Paths.{split_free, raw_paths, text_of, texts_of}
use Rattle.rev_syntax.proofs.AnswerLemmas.{onto_list, onto_list-push}

one-more : (k : ℕ) → 1 + k ≡ suc k
one-more k = omega arith

spaces-step : (b : ℕ) (bs : List ℕ) (t : Bool) → (b == 32) ≡ t → raw_paths (without_spaces bs) ≡ raw_paths bs
    → raw_paths (drop (cond t (1 + prefix_len is_space bs) 0) (b ∷ bs)) ≡ raw_paths (b ∷ bs)
spaces-step b bs true e rest =
    ap (λ k. raw_paths (drop k (b ∷ bs))) (one-more (prefix_len is_space bs)) ∙ rest
    ∙ sym (ap (λ t. filter (λ raw. not (is_empty raw)) (if t then [] ∷ split_free false bs else onto_first b (split_free (b == 36) bs))) e)
spaces-step b bs false e rest = refl

-- leading spaces stand before the first path
pub raw_paths-spaces : (text : List ℕ) → raw_paths (without_spaces text) ≡ raw_paths text
raw_paths-spaces [] = refl
raw_paths-spaces (b ∷ bs) = spaces-step b bs (b == 32) refl (raw_paths-spaces bs)

led-step : (b : ℕ) (bs : List ℕ) (t : Bool) → (b == 32) ≡ t → begins_with 32 (without_spaces bs) ≡ false
    → begins_with 32 (drop (cond t (1 + prefix_len is_space bs) 0) (b ∷ bs)) ≡ false
led-step b bs true e rest = ap (λ k. begins_with 32 (drop k (b ∷ bs))) (one-more (prefix_len is_space bs)) ∙ rest
led-step b bs false e rest = e

pub without_spaces-led : (text : List ℕ) → begins_with 32 (without_spaces text) ≡ false
without_spaces-led [] = refl
without_spaces-led (b ∷ bs) = led-step b bs (b == 32) refl (without_spaces-led bs)

-- the pieces after the first
abbrev others : List ℕ → List (List ℕ)
others [] = []
others (b ∷ bs) = split_free false bs

split-step : (b : ℕ) (bs : List ℕ) (n : ℕ) (pieces : List (List ℕ)) → pieces ≡ take n bs ∷ others (drop n bs) → onto_first b pieces ≡ take (suc n) (b ∷ bs) ∷ others (drop (suc n) (b ∷ bs))
split-step b bs n pieces h = ap (onto_first b) h

split_free-first : (taken : Bool) (text : List ℕ) → split_free taken text ≡ take (free_len SpaceEnd taken text) text ∷ others (drop (free_len SpaceEnd taken text) text)
split_free-first true [] = refl
split_free-first false [] = refl
split_free-first true (b ∷ bs) = split-step b bs (free_len SpaceEnd false bs) (split_free false bs) (split_free-first false bs)
split_free-first false (b ∷ bs) = by (b == 32) (split-step b bs (free_len SpaceEnd (b == 36) bs) (split_free (b == 36) bs) (split_free-first (b == 36) bs))
  where
    n : ℕ
    n = free_len SpaceEnd (b == 36) bs

    by : (t : Bool) → onto_first b (split_free (b == 36) bs) ≡ take (suc (free_len SpaceEnd (b == 36) bs)) (b ∷ bs) ∷ others (drop (suc (free_len SpaceEnd (b == 36) bs)) (b ∷ bs))
        → (if t then [] ∷ split_free false bs else onto_first b (split_free (b == 36) bs))
        ≡ take (if t then 0 else suc (free_len SpaceEnd (b == 36) bs)) (b ∷ bs) ∷ others (drop (if t then 0 else suc (free_len SpaceEnd (b == 36) bs)) (b ∷ bs))
    by true h = refl
    by false h = h

-- what follows the first piece is empty or begins with a space
abbrev some_paths : List (List ℕ) → List (List ℕ)
some_paths pieces = filter (λ raw. not (is_empty raw)) pieces

at-end : (taken : Bool) (text : List ℕ) → some_paths (others (drop (free_len SpaceEnd taken text) text)) ≡ raw_paths (drop (free_len SpaceEnd taken text) text)
at-end true [] = refl
at-end false [] = refl
at-end true (b ∷ bs) = at-end false bs
at-end false (b ∷ bs) = by (b == 32) refl (at-end (b == 36) bs)
  where
    by : (t : Bool) → (b == 32) ≡ t → some_paths (others (drop (free_len SpaceEnd (b == 36) bs) bs)) ≡ raw_paths (drop (free_len SpaceEnd (b == 36) bs) bs)
        → some_paths (others (drop (if t then 0 else suc (free_len SpaceEnd (b == 36) bs)) (b ∷ bs))) ≡ raw_paths (drop (if t then 0 else suc (free_len SpaceEnd (b == 36) bs)) (b ∷ bs))
    by true e h = sym (ap (λ t. some_paths (if t then [] ∷ split_free false bs else onto_first b (split_free (b == 36) bs))) e)
    by false e h = h

-- the first path, where none of its spaces are left
pub raw_paths-first : (b : ℕ) (bs : List ℕ) → (b == 32) ≡ false
    → raw_paths (b ∷ bs) ≡ take (free_len SpaceEnd false (b ∷ bs)) (b ∷ bs) ∷ raw_paths (drop (free_len SpaceEnd false (b ∷ bs)) (b ∷ bs))
raw_paths-first b bs e =
    ap some_paths (split_free-first false (b ∷ bs))
    ∙ ap (λ t. some_paths (take (if t then 0 else suc (free_len SpaceEnd (b == 36) bs)) (b ∷ bs) ∷ others (drop (free_len SpaceEnd false (b ∷ bs)) (b ∷ bs)))) e
    ∙ ap (λ raws. take (suc (free_len SpaceEnd (b == 36) bs)) (b ∷ bs) ∷ raws) (at-end false (b ∷ bs))
    ∙ sym (ap (λ t. take (if t then 0 else suc (free_len SpaceEnd (b == 36) bs)) (b ∷ bs) ∷ raw_paths (drop (free_len SpaceEnd false (b ∷ bs)) (b ∷ bs))) e)

pub shorter : (b : ℕ) (bs : List ℕ) → (b == 32) ≡ false → length (without_spaces (drop (free_len SpaceEnd false (b ∷ bs)) (b ∷ bs))) < length (b ∷ bs)
shorter b bs e =
    let n = free_len SpaceEnd (b == 36) bs in
    let is : free_len SpaceEnd false (b ∷ bs) ≡ suc n = ap (λ t. if t then 0 else suc n) e in
    let rest = drop (free_len SpaceEnd false (b ∷ bs)) (b ∷ bs) in
    let same : length rest ≡ length (drop n bs) = ap (λ k. length (drop k (b ∷ bs))) is in
    omega (arith, same, length-drop n bs, length-drop (prefix_len is_space rest) rest)

pub raw_paths-next : (text : List ℕ) → (length text == 0) ≡ false → begins_with 32 text ≡ false
    → raw_paths text ≡ take (free_len SpaceEnd false text) text ∷ raw_paths (drop (free_len SpaceEnd false text) text)
raw_paths-next [] some h = cc
raw_paths-next (b ∷ bs) some h = raw_paths-first b bs h

-- the paths of a text by its first, and what follows it
first-path : (line : LineValue) (first : List (List PieceValue)) (rest raw after : List ℕ) (answer : Result (List PieceValue) SyntaxFault)
    → (length rest == 0) ≡ false → begins_with 32 rest ≡ false → raw ≡ take (free_len SpaceEnd false rest) rest → after ≡ drop (free_len SpaceEnd false rest) rest
    → text_of line raw ≡ answer
    → onto_list first (texts_of line (raw_paths rest))
    ≡ onto_list first (and_then answer (λ path. and_then (texts_of line (raw_paths after)) (λ texts. Ok (path ∷ texts))))
first-path line first rest raw after answer some led is_raw is_after read =
    ap (λ raws. onto_list first (texts_of line raws)) (raw_paths-next rest some led)
    ∙ (λ i. onto_list first (and_then (text_of line (sym is_raw i)) (λ path. and_then (texts_of line (raw_paths (sym is_after i))) (λ texts. Ok (path ∷ texts)))))
    ∙ ap (λ t. onto_list first (and_then t (λ path. and_then (texts_of line (raw_paths after)) (λ texts. Ok (path ∷ texts))))) read

pub next-path : (line : LineValue) (first : List (List PieceValue)) (rest raw after : List ℕ) (path : List PieceValue)
    → (length rest == 0) ≡ false → begins_with 32 rest ≡ false → raw ≡ take (free_len SpaceEnd false rest) rest → after ≡ drop (free_len SpaceEnd false rest) rest
    → text_of line raw ≡ Ok path
    → onto_list (first ++ path ∷ []) (texts_of line (raw_paths (without_spaces after))) ≡ onto_list first (texts_of line (raw_paths rest))
next-path line first rest raw after path some led is_raw is_after read =
    ap (λ raws. onto_list (first ++ path ∷ []) (texts_of line raws)) (raw_paths-spaces after)
    ∙ onto_list-push first path (texts_of line (raw_paths after))
    ∙ sym (first-path line first rest raw after (Ok path) some led is_raw is_after read)

pub path-fault : (line : LineValue) (first : List (List PieceValue)) (rest raw after : List ℕ) (fault : SyntaxFault)
    → (length rest == 0) ≡ false → begins_with 32 rest ≡ false → raw ≡ take (free_len SpaceEnd false rest) rest → after ≡ drop (free_len SpaceEnd false rest) rest
    → text_of line raw ≡ Err fault → onto_list first (texts_of line (raw_paths rest)) ≡ Err fault
path-fault line first rest raw after fault some led is_raw is_after read = first-path line first rest raw after (Err fault) some led is_raw is_after read
