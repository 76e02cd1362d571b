-- Files with their lines changed, one file after the other.
use Rattle.std.proofs.Common.{◌≡◌, ℕ, zero, suc, ◌+◌, ◌<◌, List, [], ◌∷◌, ◌++◌, length, drop, get_or, Some, refl, sym, ap, ◌∙◌, append_assoc, arith, add-one}
use Rattle.std.specs.Global.{Vec}
use Rattle.std.specs.List.{slice_get}
use Rattle.std.proofs.lemmas.List.{map-append}
use Rattle.rev_manifest.specs.Seen.{seen_files}
use Rattle.rev_patch.specs.declared.changes.Change.{Change}
use Rattle.rev_patched.specs.Orders.{patched, patched_file, seen_file}

unchanged : (fs : List (List ℕ × List ℕ)) → patched fs [] ≡ fs
unchanged [] = refl
unchanged (f ∷ fs) = refl

abbrev no_changes : List (Vec Change)
no_changes = []

drop-none : (i : ℕ) → drop i no_changes ≡ no_changes
drop-none zero = refl
drop-none (suc i) = refl

at-step : (files : List (Vec ℕ × Vec ℕ)) (css : List (Vec Change)) (i : ℕ) (f : Vec ℕ × Vec ℕ) → i < length files → f ≡ get_or files i f
    → patched (seen_files (drop i files)) (drop i css) ≡ patched_file (seen_file f) (slice_get css i) ∷ patched (seen_files (drop (suc i) files)) (drop (suc i) css)
at-step [] css i f within is = absurd (omega arith)
at-step (g ∷ gs) [] zero f within is =
    (λ k. seen_file (sym is k) ∷ sym (unchanged (seen_files gs)) k)
at-step (g ∷ gs) (c ∷ cs) zero f within is = ap (λ (x : Vec ℕ × Vec ℕ). patched_file (seen_file x) (Some c) ∷ patched (seen_files gs) cs) (sym is)
at-step (g ∷ gs) [] (suc i) f within is =
    ap (patched (seen_files (drop i gs))) (sym (drop-none i)) ∙ at-step gs [] i f (omega arith) is
at-step (g ∷ gs) (c ∷ cs) (suc i) f within is = at-step gs cs i f (omega arith) is

-- one more file
pub patched-more : (done files : List (Vec ℕ × Vec ℕ)) (css : List (Vec Change)) (i : ℕ) (f x : Vec ℕ × Vec ℕ) → i < length files → f ≡ get_or files i f
    → seen_file x ≡ patched_file (seen_file f) (slice_get css i)
    → seen_files (done ++ x ∷ []) ++ patched (seen_files (drop (i + 1) files)) (drop (i + 1) css) ≡ seen_files done ++ patched (seen_files (drop i files)) (drop i css)
patched-more done files css i f x within is made =
    let rest = patched (seen_files (drop (i + 1) files)) (drop (i + 1) css) in
    let next : rest ≡ patched (seen_files (drop (suc i) files)) (drop (suc i) css) = ap (λ k. patched (seen_files (drop k files)) (drop k css)) (add-one i) in
    ap (λ fs. fs ++ rest) (map-append seen_file done (x ∷ []))
    ∙ append_assoc (seen_files done) (seen_file x ∷ []) rest
    ∙ ap (λ fs. seen_files done ++ fs) ((λ k. made k ∷ next k) ∙ sym (at-step files css i f within is))
