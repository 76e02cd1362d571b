-- Hunks, by the first and the last of their edits, and the lines around these.
use Rattle.std.proofs.Common.{◌≡◌, ◌≤◌, ℕ, suc, ◌+◌, ◌-◌, min, List, [], ◌∷◌, length, map, take, drop, Some, None, refl, ap, sym, ◌∙◌, inl, inr, arith, length-drop}
use Rattle.std.specs.List.{slice_get, slice_range}
use Rattle.std.proofs.lemmas.Bool.{cases_lt}
use Rattle.std.proofs.lemmas.List.{take_min, drop_min, take_all}
use Rattle.rev_patch.specs.declared.changes.Change.{Change}
use Rattle.rev_patch.specs.declared.lines.Row.{Row}
use Rattle.rev_patch.specs.Lines.{Line, edit_of, edits, line_of}
use Rattle.rev_patch.specs.Patch.{hunk, hunk_text, last_line}
use Rattle.rev_patch.proofs.RunLemmas.{take-mapped, drop-mapped}

-- a list has no more elements than it has
take-enough : {A : Type 0} (xs : List A) (m n : ℕ) → length xs ≤ m → length xs ≤ n → take m xs ≡ take n xs
take-enough xs m n h k = take_all m xs h ∙ sym (take_all n xs k)

-- a bound above all places does not matter
take-bounded : {A : Type 0} (xs : List A) (bound from end : ℕ) → length xs + from ≤ bound → take (min end bound - from) xs ≡ take (end - from) xs
take-bounded xs bound from end large =
    elim (cases_lt bound end) [
      | inr below ↦ let same : min end bound - from ≡ end - from = omega arith in ap (λ n. take n xs) same
      | inl above ↦ take-enough xs (min end bound - from) (end - from) (omega arith) (omega arith)
    ]

pub around-lines : (rows behind part : List Row) (first last to bound : ℕ) → length rows ≤ bound → first ≤ bound → to ≡ min (last + 4) bound
    → behind ≡ drop (min (first - 3) (length rows)) rows → part ≡ take (min (to - (first - 3)) (length behind)) behind
    → map line_of part ≡ slice_range (map line_of rows) (first - 3) (last + 4)
around-lines rows behind part first last to bound large low to-is behind-is part-is =
    let from = first - 3 in
    let behind-all : behind ≡ drop from rows = behind-is ∙ drop_min from rows in
    let len : length behind ≡ length rows - from = ap length behind-all ∙ length-drop from rows in
    ap (map line_of) (part-is ∙ take_min (to - from) behind ∙ ap (λ n. take (n - from) behind) to-is
    ∙ take-bounded behind bound from (last + 4) (omega (arith, len)) ∙ ap (take (last + 4 - from)) behind-all)
    ∙ sym (take-mapped line_of (last + 4 - from) (drop from rows)) ∙ ap (take (last + 4 - from)) (sym (drop-mapped line_of from rows))

last-at : (c : Change) (cs : List Change) (last : Change) → slice_get (c ∷ cs) (length cs) ≡ Some last → last_line (edit_of c) (edits cs) ≡ last.line
last-at c [] last is = let same : c ≡ last = cc in ap (λ (x : Change). x.line) same
last-at c (d ∷ ds) last is = last-at d ds last is

-- the hunk of some changes, by the first and the last
pub hunk-ends : (ls : List Line) (cs : List Change) (first last : Change) → Some first ≡ slice_get cs 0 → Some last ≡ slice_get cs (length cs - 1)
    → hunk ls (edits cs) ≡ hunk_text (first.line - 3 + 1) (slice_range ls (first.line - 3) (last.line + 4))
hunk-ends ls [] first last one other = cc
hunk-ends ls (c ∷ cs) first last one other =
    let same : first ≡ c = cc in
    let one_less : suc (length cs) - 1 ≡ length cs = omega arith in
    let at : slice_get (c ∷ cs) (length cs) ≡ Some last = ap (slice_get (c ∷ cs)) (sym one_less) ∙ sym other in
    ap (λ n. hunk_text (c.line - 3 + 1) (slice_range ls (c.line - 3) (n + 4))) (last-at c cs last at)
    ∙ ap (λ (x : Change). hunk_text (x.line - 3 + 1) (slice_range ls (x.line - 3) (last.line + 4))) (sym same)

pub hunk-none : (ls : List Line) (cs : List Change) → None ≡ slice_get cs 0 → hunk ls (edits cs) ≡ []
hunk-none ls [] none = refl
hunk-none ls (c ∷ cs) none = cc
