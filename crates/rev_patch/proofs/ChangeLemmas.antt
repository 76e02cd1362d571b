-- Edits for additions, by the first of these and by where they are put.
use Rattle.std.proofs.Common.{◌≡◌, ◌<◌, ◌≤◌, ◌-◌, ◌==◌, ◌||◌, ℕ, zero, suc, not, if◌then◌else◌, List, [], ◌∷◌, length, map, drop, get_or, Option, Some, None, refl, ap, sym, arith}
use Rattle.std.specs.List.{list_all, slice_get}
use Rattle.rev_patch.specs.declared.changes.Addition.{Addition}
use Rattle.rev_patch.specs.declared.lines.Row.{Row}
use Rattle.rev_patch.specs.declared.statement.Place.{Place}
use Rattle.rev_patch.specs.Lines.{line_of}
use Rattle.rev_patch.specs.Additions.{is_written, place_for, texts_of}
use Rattle.rev_patch.specs.Statement.{place_in, statement}

pub text-at : (rows : List Row) (i : ℕ) (r : Row) → i < length rows → r ≡ get_or rows i r → slice_get (texts_of (map line_of rows)) i ≡ Some r.old.now
text-at [] i r within is = absurd (omega arith)
text-at (q ∷ qs) zero r within is = ap (λ (x : Row). Some x.old.now) (sym is)
text-at (q ∷ qs) (suc i) r within is = text-at qs i r (omega arith) is

pub text-past : (rows : List Row) (i : ℕ) → length rows ≤ i → slice_get (texts_of (map line_of rows)) i ≡ None
text-past [] i past = refl
text-past (q ∷ qs) zero past = absurd (omega arith)
text-past (q ∷ qs) (suc i) past = text-past qs i (omega arith)

-- where some additions are put, by the first of them
pub place_for-first : (ls : List (List ℕ)) (adds : List Addition) (first : Addition) → Some first ≡ slice_get adds 0
    → place_for ls adds ≡ (if first.line == 0 || not (list_all (λ a. is_written a.path.now) adds) then None
    else place_in (first.line - 1) (statement (drop (first.line - 1) ls)))
place_for-first ls [] first is = cc
place_for-first ls (a ∷ adds) first is =
    let same : a ≡ first = cc in
    let whole = a ∷ adds in
    let placed : Addition → Option Place = λ x. if x.line == 0 || not (list_all (λ b. is_written b.path.now) whole) then None
    else place_in (x.line - 1) (statement (drop (x.line - 1) ls)) in
    ap placed same
