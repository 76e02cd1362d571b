-- The pieces of a text from one of its bytes on.
use Rattle.std.proofs.Common.{◌≡◌, ℕ, ◌+◌, ◌<◌, ◌==◌, true, false, List, [], ◌∷◌, ◌++◌, Some, length, take, drop, ◌-◌, get_or, refl, sym, ap, ◌∙◌, arith, suc, add-zero, if◌then◌else◌, add_assoc, add-one, drop-cons}
use Rattle.std.specs.List.{flat_map}
use Rattle.std.proofs.lemmas.Grind.{common_steps}
use Rattle.rev_depfile.specs.declared.sign.Sign.{Sign}
use Rattle.rev_depfile.specs.Signs.{Piece, more, pieces, is_line_end_return, signs_of_piece, signs_of, read_signs, reading}

abbrev with_backslashes : ℕ → Piece → ℕ → List Piece → List Piece
with_backslashes at p n ps = record p { at = at; backslashes = n } ∷ ps

more-more : (at m from n : ℕ) (ps : List Piece) → more at m (more from n ps) ≡ more at (m + n) ps
more-more at m from n [] = refl
more-more at m from n (p ∷ ps) = ap (λ k. with_backslashes at p k ps) (sym (add_assoc m n p.backslashes))

pub more-none : (at : ℕ) (bs : List ℕ) → more at 0 (pieces at bs) ≡ pieces at bs
more-none at [] = refl
more-none at (b ∷ bs) =
    let rest : List Piece = pieces (at + 1) bs in
    let piece : Piece = record { at = at; backslashes = 0; byte = Some b; after = bs } in
    elim (b == 92) as (λ t. more at 0 (if t then more at 1 rest else (if is_line_end_return b bs then more at 0 rest else piece ∷ rest))
    ≡ (if t then more at 1 rest else (if is_line_end_return b bs then more at 0 rest else piece ∷ rest))) [
      | true ↦ more-more at 0 at 1 rest
      | false ↦ elim (is_line_end_return b bs) as (λ t. more at 0 (if t then more at 0 rest else piece ∷ rest) ≡ (if t then more at 0 rest else piece ∷ rest)) [
        | true ↦ more-more at 0 at 0 rest
        | false ↦ refl
      ]
    ]

-- a backslash
pub more-backslash : (at n i b : ℕ) (bs : List ℕ) → (b == 92) ≡ true → more at n (pieces i (b ∷ bs)) ≡ more at (n + 1) (pieces (i + 1) bs)
more-backslash at n i b bs e =
    ap (λ t. more at n (if t then more i 1 (pieces (i + 1) bs) else (if is_line_end_return b bs then more i 0 (pieces (i + 1) bs)
    else record { at = i; backslashes = 0; byte = Some b; after = bs } ∷ pieces (i + 1) bs))) e
    ∙ more-more at n i 1 (pieces (i + 1) bs)

-- a CR before LF
pub more-return : (at n i b : ℕ) (bs : List ℕ) → (b == 92) ≡ false → is_line_end_return b bs ≡ true → more at n (pieces i (b ∷ bs)) ≡ more at n (pieces (i + 1) bs)
more-return at n i b bs e f =
    ap (λ t. more at n (if t then more i 1 (pieces (i + 1) bs) else (if is_line_end_return b bs then more i 0 (pieces (i + 1) bs)
    else record { at = i; backslashes = 0; byte = Some b; after = bs } ∷ pieces (i + 1) bs))) e
    ∙ ap (λ t. more at n (if t then more i 0 (pieces (i + 1) bs) else record { at = i; backslashes = 0; byte = Some b; after = bs } ∷ pieces (i + 1) bs)) f
    ∙ more-more at n i 0 (pieces (i + 1) bs) ∙ ap (λ k. more at k (pieces (i + 1) bs)) (add-zero n)

-- another byte
pub more-byte : (at n i b : ℕ) (bs : List ℕ) → (b == 92) ≡ false → is_line_end_return b bs ≡ false
    → more at n (pieces i (b ∷ bs)) ≡ record { at = at; backslashes = n; byte = Some b; after = bs } ∷ pieces (i + 1) bs
more-byte at n i b bs e f =
    ap (λ t. more at n (if t then more i 1 (pieces (i + 1) bs) else (if is_line_end_return b bs then more i 0 (pieces (i + 1) bs)
    else record { at = i; backslashes = 0; byte = Some b; after = bs } ∷ pieces (i + 1) bs))) e
    ∙ ap (λ t. more at n (if t then more i 0 (pieces (i + 1) bs) else record { at = i; backslashes = 0; byte = Some b; after = bs } ∷ pieces (i + 1) bs)) f
    ∙ ap (λ k. record { at = at; backslashes = k; byte = Some b; after = bs } ∷ pieces (i + 1) bs) (add-zero n)

-- the signs of what is left of a text at one of its bytes, behind n backslashes
abbrev pub signs_left : ℕ → ℕ → ℕ → List ℕ → List Sign
signs_left at n i text = flat_map signs_of_piece (more at n (pieces i (drop i text)))

drop_here : (text : List ℕ) (i b : ℕ) → i < length text → b ≡ get_or text i 0 → drop i text ≡ b ∷ drop (i + 1) text
drop_here text i b h e = drop-cons text i 0 h ∙ ap (λ x. x ∷ drop (suc i) text) (sym e) ∙ ap (λ k. b ∷ drop k text) (sym (add-one i))

pub left-backslash : (at n i b : ℕ) (text : List ℕ) → i < length text → b ≡ get_or text i 0 → (b == 92) ≡ true → signs_left at n i text ≡ signs_left at (n + 1) (i + 1) text
left-backslash at n i b text h g e =
    ap (λ bs. flat_map signs_of_piece (more at n (pieces i bs))) (drop_here text i b h g) ∙ ap (flat_map signs_of_piece) (more-backslash at n i b (drop (i + 1) text) e)

pub left-return : (at n i b : ℕ) (text : List ℕ) → i < length text → b ≡ get_or text i 0 → (b == 92) ≡ false → is_line_end_return b (drop (i + 1) text) ≡ true
    → signs_left at n i text ≡ signs_left at n (i + 1) text
left-return at n i b text h g e f =
    ap (λ bs. flat_map signs_of_piece (more at n (pieces i bs))) (drop_here text i b h g) ∙ ap (flat_map signs_of_piece) (more-return at n i b (drop (i + 1) text) e f)

pub left-byte : (at n i b : ℕ) (text : List ℕ) → i < length text → b ≡ get_or text i 0 → (b == 92) ≡ false → is_line_end_return b (drop (i + 1) text) ≡ false
    → signs_left at n i text ≡ read_signs at (reading n b (drop (i + 1) text)) ++ signs_left (i + 1) 0 (i + 1) text
left-byte at n i b text h g e f =
    ap (λ bs. flat_map signs_of_piece (more at n (pieces i bs))) (drop_here text i b h g) ∙ ap (flat_map signs_of_piece) (more-byte at n i b (drop (i + 1) text) e f)
    ∙ ap (λ ps. read_signs at (reading n b (drop (i + 1) text)) ++ flat_map signs_of_piece ps) (sym (more-none (i + 1) (drop (i + 1) text)))

pub left-none : (text : List ℕ) → signs_left 0 0 0 text ≡ signs_of text
left-none text = ap (flat_map signs_of_piece) (more-none 0 text)

pub tail-all : (n : ℕ) (xs : List ℕ) → take (length xs - n) (drop n xs) ≡ drop n xs
tail-all n xs = grind (arith, common_steps)
