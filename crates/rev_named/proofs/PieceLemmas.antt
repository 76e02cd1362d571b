-- The pieces of a text, one byte after the other.
use Rattle.std.proofs.Common.{◌≡◌, ℕ, ◌-◌, Bool, true, false, List, [], ◌∷◌, ◌++◌, length, take, refl, sym, ap, subst, ◌∙◌, arith, append_assoc, append-nil, length-append, if◌then◌else◌}
use Rattle.rev_paths.specs.Canonical.{prefixed}
use Rattle.rev_named.specs.Words.{is_part, mode_after, pieces, pieces_from}
use Rattle.rev_named.specs.declared.pieces.Mode.{Mode}
use Rattle.rev_named.specs.declared.pieces.Mode.TheVariants.{Plain}

-- the pieces with these bytes at the front of the first of them
abbrev pub behind : List ℕ → List (List ℕ) → List (List ℕ)
behind w [] = w ∷ []
behind w (p ∷ ps) = (w ++ p) ∷ ps

behind-prefixed : (w : List ℕ) (b : ℕ) (ps : List (List ℕ)) → behind w (prefixed b ps) ≡ behind (w ++ b ∷ []) ps
behind-prefixed w b [] = refl
behind-prefixed w b (p ∷ ps) = ap (λ (q : List ℕ). q ∷ ps) (sym (append_assoc w (b ∷ []) p))

none-behind : (mode : Mode) (bs : List ℕ) → behind [] (pieces_from mode bs) ≡ pieces_from mode bs
none-behind mode [] = refl
none-behind mode (b ∷ bs) = by (is_part mode b) (pieces_from (mode_after mode b) bs)
  where
    by : (p : Bool) (ps : List (List ℕ)) → behind [] (if p then prefixed b ps else [] ∷ ps) ≡ (if p then prefixed b ps else [] ∷ ps)
    by true [] = refl
    by true (q ∷ qs) = refl
    by false ps = refl

-- A text is cut up to the bytes that are left: the pieces that are done, and an open one right before these bytes.
pub record IsCut (text : List ℕ) (done : List (List ℕ)) (begin : List ℕ) (mode : Mode) (rest : List ℕ) : Type 0 where
  pub piece : List ℕ
  pub begin_is : begin ≡ piece ++ rest
  pub pieces_are : done ++ behind piece (pieces_from mode rest) ≡ pieces text

pub cut-first : (text : List ℕ) (done : List (List ℕ)) → done ≡ [] → IsCut text done text Plain text
cut-first text done none = record {
  piece = [];
  begin_is = refl;
  pieces_are = ap (λ (ps : List (List ℕ)). ps ++ behind [] (pieces_from Plain text)) none ∙ none-behind Plain text;
}

pub cut-part : (text : List ℕ) (done : List (List ℕ)) (begin : List ℕ) (mode : Mode) (rest : List ℕ) (b : ℕ) (after : List ℕ) → rest ≡ b ∷ after → is_part mode b ≡ true
    → IsCut text done begin mode rest → IsCut text done begin (mode_after mode b) after
cut-part text done begin mode rest b after is part cut = record {
  piece = cut.piece ++ b ∷ [];
  begin_is = cut.begin_is ∙ ap (λ (r : List ℕ). cut.piece ++ r) is ∙ sym (append_assoc cut.piece (b ∷ []) after);
  pieces_are =
      ap (λ (ps : List (List ℕ)). done ++ ps) (sym (behind-prefixed cut.piece b (pieces_from (mode_after mode b) after)))
      ∙ ap (λ p. done ++ behind cut.piece (if p then prefixed b (pieces_from (mode_after mode b) after) else [] ∷ pieces_from (mode_after mode b) after)) (sym part)
      ∙ ap (λ (r : List ℕ). done ++ behind cut.piece (pieces_from mode r)) (sym is)
      ∙ cut.pieces_are;
}

front-of : (p r : List ℕ) → take (length p) (p ++ r) ≡ p
front-of [] r = refl
front-of (x ∷ p) r = ap (λ (q : List ℕ). x ∷ q) (front-of p r)

-- the open piece, by lengths
pub open-piece : (piece begin rest : List ℕ) → begin ≡ piece ++ rest → take (length begin - length rest) begin ≡ piece
open-piece piece begin rest is =
    let long : length begin - length rest ≡ length piece = omega (arith, ap (λ (xs : List ℕ). length xs) is, length-append piece rest) in
    ap (λ n. take n begin) long ∙ ap (λ (xs : List ℕ). take (length piece) xs) is ∙ front-of piece rest

pub cut-break : (text : List ℕ) (done more : List (List ℕ)) (begin : List ℕ) (mode : Mode) (rest : List ℕ) (b : ℕ) (after : List ℕ) → rest ≡ b ∷ after → is_part mode b ≡ false
    → more ≡ done ++ take (length begin - length rest) begin ∷ [] → IsCut text done begin mode rest → IsCut text more after (mode_after mode b) after
cut-break text done more begin mode rest b after is part pushed cut = record {
  piece = [];
  begin_is = refl;
  pieces_are =
      ap (λ (ps : List (List ℕ)). more ++ ps) (none-behind (mode_after mode b) after)
      ∙ ap (λ (ps : List (List ℕ)). ps ++ pieces_from (mode_after mode b) after) (pushed ∙ ap (λ (t : List ℕ). done ++ t ∷ []) (open-piece cut.piece begin rest cut.begin_is))
      ∙ append_assoc done (cut.piece ∷ []) (pieces_from (mode_after mode b) after)
      ∙ ap (λ (t : List ℕ). done ++ t ∷ pieces_from (mode_after mode b) after) (sym (append-nil cut.piece))
      ∙ ap (λ p. done ++ behind cut.piece (if p then prefixed b (pieces_from (mode_after mode b) after) else [] ∷ pieces_from (mode_after mode b) after)) (sym part)
      ∙ ap (λ (r : List ℕ). done ++ behind cut.piece (pieces_from mode r)) (sym is)
      ∙ cut.pieces_are;
}

pub cut-last : (text : List ℕ) (done more : List (List ℕ)) (begin : List ℕ) (mode : Mode) (rest : List ℕ) → length rest ≡ 0 → more ≡ done ++ begin ∷ []
    → IsCut text done begin mode rest → more ≡ pieces text
cut-last text done more begin mode [] none pushed cut =
    pushed
    ∙ ap (λ (t : List ℕ). done ++ t ∷ []) (cut.begin_is ∙ append-nil cut.piece ∙ sym (append-nil cut.piece))
    ∙ cut.pieces_are
cut-last text done more begin mode (b ∷ bs) none pushed cut = absurd (omega arith)

-- the same by equal parts
pub cut-to : (text : List ℕ) (done more : List (List ℕ)) (begin from : List ℕ) (mode next : Mode) (rest : List ℕ) → done ≡ more → begin ≡ from → mode ≡ next
    → IsCut text done begin mode rest → IsCut text more from next rest
cut-to text done more begin from mode next rest p q r cut =
    subst (λ (d : List (List ℕ)). IsCut text d from next rest) p (subst (λ (b : List ℕ). IsCut text done b next rest) q (subst (λ m. IsCut text done begin m rest) r cut))
