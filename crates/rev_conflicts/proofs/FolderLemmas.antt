-- The last slash, byte by byte.
use Rattle.std.proofs.Common.{◌≡◌, ℕ, ◌+◌, ◌<◌, suc, ◌==◌, Bool, true, false, List, [], ◌∷◌, ◌++◌, length, get_or, take, Option, Some, None, refl, sym, ap, ◌∙◌, arith, true≢false, if◌then◌else◌}
use Rattle.std.specs.Option.{option_map, option_or}
use Rattle.std.proofs.lemmas.List.{take_more}
use Rattle.rev_conflicts.specs.Places.{last_slash}

last-push : (xs : List ℕ) (b : ℕ) → last_slash (xs ++ b ∷ []) ≡ (if b == 47 then Some (length xs) else last_slash xs)
last-push [] b = by (b == 47)
  where
    by : (t : Bool) → option_or (option_map suc None) (if t then Some 0 else None) ≡ (if t then Some 0 else None)
    by true = refl
    by false = refl
last-push (x ∷ xs) b = ap (λ o. option_or (option_map suc o) (if x == 47 then Some 0 else None)) (last-push xs b) ∙ by (b == 47)
  where
    by : (t : Bool) → option_or (option_map suc (if t then Some (length xs) else last_slash xs)) (if x == 47 then Some 0 else None)
        ≡ (if t then Some (length (x ∷ xs)) else option_or (option_map suc (last_slash xs)) (if x == 47 then Some 0 else None))
    by true = refl
    by false = refl

pub last-more : (path : List ℕ) (i b : ℕ) → i < length path → b ≡ get_or path i b → last_slash (take (i + 1) path) ≡ (if b == 47 then Some (length (take i path)) else last_slash (take i path))
last-more path i b within is =
    ap last_slash (take_more path i b within) ∙ ap (λ x. last_slash (take i path ++ x ∷ [])) (sym is) ∙ last-push (take i path) b

pub last-within : (path : List ℕ) (n : ℕ) → last_slash path ≡ Some n → n < length path
last-within [] n h = let no : None ≡ Some n = h in absurd (true≢false cc)
last-within (b ∷ bs) n h = by (last_slash bs) (λ k is. last-within bs k is) h
  where
    first : (t : Bool) → (if t then Some 0 else None) ≡ Some n → n < length (b ∷ bs)
    first true h = let same : 0 ≡ n = cc in omega (arith, same)
    first false h = let none : None ≡ Some n = h in absurd (true≢false cc)

    by : (o : Option ℕ) → ((k : ℕ) → o ≡ Some k → k < length bs) → option_or (option_map suc o) (if b == 47 then Some 0 else None) ≡ Some n → n < length (b ∷ bs)
    by (Some k) within h = let w = within k refl in let same : suc k ≡ n = cc in omega (arith, w, same)
    by None within h = first (b == 47) h
