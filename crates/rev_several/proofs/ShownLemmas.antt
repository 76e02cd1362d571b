-- What is shown of a folder, one entry after the other.
use Rattle.std.proofs.Common.{◌≡◌, ℕ, Bool, true, false, cond, ◌&&◌, List, [], ◌∷◌, map, filter, Option, None, Some, refl, sym, ap, ◌∙◌}
use Rattle.std.specs.Prelude.{nat_eq}
use Rattle.std.specs.List.{list_all}
use Rattle.rev_several.specs.declared.folders.Seen.{Seen}
use Rattle.rev_several.specs.Makings.{Key, and_shown, are_shown, is_shown, makers_of}

-- what is shown of a folder with one entry more
abbrev pub step : ℕ → Option Bool → Key × Seen → Option Bool
step folder before e = cond (nat_eq e.0.0 folder) (Some (and_shown before e.1)) before

-- what is shown of a folder behind some entries more
abbrev pub walk : ℕ → Option Bool → List (Key × Seen) → Option Bool
walk folder before [] = before
walk folder before (e ∷ es) = walk folder (step folder before e) es

-- behind no entries more nothing else is shown
pub walk-end : (folder : ℕ) (shown all : Option Bool) (rest : List (Key × Seen)) → rest ≡ [] → walk folder shown rest ≡ all → shown ≡ all
walk-end folder shown all rest none so-far = ap (λ (es : List (Key × Seen)). walk folder shown es) (sym none) ∙ so-far

and-assoc : (a b c : Bool) → ((a && b) && c) ≡ (a && (b && c))
and-assoc true b c = refl
and-assoc false b c = refl

and-true : (b : Bool) → b ≡ (b && true)
and-true true = refl
and-true false = refl

-- the seen of a folder, where the first entry is of the folder or is not
abbrev pub makers_if : Bool → Key × Seen → ℕ → List (Key × Seen) → List Seen
makers_if is e folder es = map (λ (e : Key × Seen). e.1) (cond is (e ∷ filter (λ (e : Key × Seen). nat_eq e.0.0 folder) es) (filter (λ (e : Key × Seen). nat_eq e.0.0 folder) es))

some-by : (folder : ℕ) (before : Bool) (e : Key × Seen) (es : List (Key × Seen)) (is : Bool)
    → walk folder (Some (before && is_shown e.1)) es ≡ Some ((before && is_shown e.1) && list_all is_shown (makers_of folder es))
    → walk folder (Some before) es ≡ Some (before && list_all is_shown (makers_of folder es))
    → walk folder (cond is (Some (before && is_shown e.1)) (Some before)) es ≡ Some (before && list_all is_shown (makers_if is e folder es))
some-by folder before e es true taken left = taken ∙ ap Some (and-assoc before (is_shown e.1) (list_all is_shown (makers_of folder es)))
some-by folder before e es false taken left = left

walk-some : (folder : ℕ) (before : Bool) (es : List (Key × Seen)) → walk folder (Some before) es ≡ Some (before && list_all is_shown (makers_of folder es))
walk-some folder before [] = ap Some (and-true before)
walk-some folder before (e ∷ es) = some-by folder before e es (nat_eq e.0.0 folder) (walk-some folder (before && is_shown e.1) es) (walk-some folder before es)

none-by : (folder : ℕ) (e : Key × Seen) (es : List (Key × Seen)) (is : Bool) → walk folder (Some (is_shown e.1)) es ≡ Some (is_shown e.1 && list_all is_shown (makers_of folder es))
    → walk folder None es ≡ are_shown (makers_of folder es) → walk folder (cond is (Some (is_shown e.1)) None) es ≡ are_shown (makers_if is e folder es)
none-by folder e es true taken left = taken
none-by folder e es false taken left = left

-- behind all entries it is what is said of all
pub walk-all : (folder : ℕ) (es : List (Key × Seen)) → walk folder None es ≡ are_shown (makers_of folder es)
walk-all folder [] = refl
walk-all folder (e ∷ es) = none-by folder e es (nat_eq e.0.0 folder) (walk-some folder (is_shown e.1) es) (walk-all folder es)
