-- Lines with their ends, one after the other.
use Rattle.std.proofs.Common.{◌≡◌, ℕ, ◌+◌, ◌-◌, ◌<◌, ◌≤◌, List, [], ◌∷◌, ◌++◌, length, get_or, take, Bool, bytes_eq, append-nil, append_assoc, length-append, Err, refl, sym, ap, ◌∙◌, arith}
use Rattle.std.specs.Borrow.{Bor}
use Rattle.std.specs.List.{flat_map}
use Rattle.std.proofs.lemmas.Grind.{flat_map-append}
use Rattle.std.proofs.lemmas.List.{take_all, take_more}
use Rattle.rev_fields.specs.Parts.{slices_of}
use Rattle.rev_observed.specs.declared.faults.FaultKind.TheVariants.{Syntax}
use Rattle.rev_observation.specs.Ends.{end_line, ended, is_complete}
use Rattle.rev_observation.specs.Lines.{counts_said}
use Rattle.rev_observation.specs.Observations.{ObservationValue}
use Rattle.rev_observation.proofs.CommandLemmas.{popped}

-- one more line
pub ended-more : (xs : List (List ℕ)) (i : ℕ) → i < length xs → flat_map ended (take (i + 1) xs) ≡ (flat_map ended (take i xs) ++ get_or xs i []) ++ 10 ∷ []
ended-more xs i lt =
    let line = get_or xs i [] in
    let before = flat_map ended (take i xs) in
    ap (flat_map ended) (take_more xs i [] lt) ∙ flat_map-append ended (take i xs) (line ∷ []) ∙ ap (λ l. before ++ l) (append-nil (line ++ 10 ∷ []))
    ∙ sym (append_assoc before line (10 ∷ []))

-- all lines
pub ended-all : (xs : List (List ℕ)) (i : ℕ) → length xs ≤ i → flat_map ended (take i xs) ≡ flat_map ended xs
ended-all xs i past = ap (flat_map ended) (take_all i xs past)

-- the last of lines
last_at : (xs : List (List ℕ)) (x : List ℕ) → get_or (xs ++ x ∷ []) (length xs) [] ≡ x
last_at [] x = refl
last_at (y ∷ ys) x = last_at ys x

pub complete-last : (o : ObservationValue) (lines before : List (List ℕ)) (last : List ℕ) → lines ≡ before ++ last ∷ [] → is_complete o lines ≡ bytes_eq (end_line o before) last
complete-last o lines before last is =
    let count : length lines - 1 ≡ length before = omega (arith, ap length is, length-append before (last ∷ [])) in
    ap (λ ls. bytes_eq (end_line o ls) (get_or lines (length lines - 1) [])) (popped before lines last (length lines) is refl)
    ∙ ap (λ k. bytes_eq (end_line o before) (get_or lines k [])) count
    ∙ ap (λ ls. bytes_eq (end_line o before) (get_or ls (length before) [])) is
    ∙ ap (bytes_eq (end_line o before)) (last_at before last)

-- the parts of lines that end with one
pub slices-last : (lines before : List (Bor (List ℕ))) (last : Bor (List ℕ)) → lines ≡ before ++ last ∷ [] → slices_of lines ≡ slices_of before ++ last.now ∷ []
slices-last lines before last is = ap slices_of is ∙ by before
  where
    by : (xs : List (Bor (List ℕ))) → slices_of (xs ++ last ∷ []) ≡ slices_of xs ++ last.now ∷ []
    by [] = refl
    by (x ∷ xs) = ap (λ l. x.now ∷ l) (by xs)

-- other texts than four
pub counts-other : (texts : List (List ℕ)) → (length texts ≡ 4 → ⊥) → counts_said texts ≡ Err Syntax
counts-other [] other = refl
counts-other (a ∷ []) other = refl
counts-other (a ∷ b ∷ []) other = refl
counts-other (a ∷ b ∷ c ∷ []) other = refl
counts-other (a ∷ b ∷ c ∷ d ∷ []) other = absurd (other refl)
counts-other (a ∷ b ∷ c ∷ d ∷ e ∷ rest) other = refl
