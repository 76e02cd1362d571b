-- The values of texts, piece by piece.
use Rattle.std.proofs.Common.{◌≡◌, ℕ, ◌<◌, Bool, true, false, List, [], ◌∷◌, ◌++◌, length, map, Option, Some, None, if◌then◌else◌, refl, sym, ap, ◌∙◌, arith, append_assoc, length-append}
use Rattle.std.proofs.lemmas.Bool.{ltb-true, lt-ltb}
use Rattle.rev_syntax.specs.Texts.{Byte}
use Rattle.rev_scopes.specs.Expansion.{expanded, is_too_large, limited, appended}

-- bytes that stand for themselves
pub expanded-bytes : (look_up : List ℕ → List ℕ) (bytes : List ℕ) → expanded look_up (map Byte bytes) ≡ bytes
expanded-bytes look_up [] = refl
expanded-bytes look_up (b ∷ bytes) = ap (λ t. b ∷ t) (expanded-bytes look_up bytes)

-- a value that is too large stays too large
larger : (value more : List ℕ) → is_too_large value ≡ true → is_too_large (value ++ more) ≡ true
larger value more h =
    let before : 1048576 < length value = ltb-true 1048576 (length value) h in
    lt-ltb 1048576 (length (value ++ more)) (omega (arith, length-append value more))

pub appended-both : (value : Option (List ℕ)) (first rest : List ℕ) → appended (appended value first) rest ≡ appended value (first ++ rest)
appended-both None first rest = refl
appended-both (Some value) first rest = by (is_too_large (value ++ first)) refl
  where
    by : (b : Bool) → is_too_large (value ++ first) ≡ b → appended (if b then None else Some (value ++ first)) rest ≡ limited (value ++ (first ++ rest))
    by true e =
        let large : is_too_large (value ++ (first ++ rest)) ≡ true = ap is_too_large (sym (append_assoc value first rest)) ∙ larger (value ++ first) rest e in
        sym (ap (λ b. if b then None else Some (value ++ (first ++ rest))) large)
    by false e = ap limited (append_assoc value first rest)

-- what is too large by now stays so
pub over-stays : (value : Option (List ℕ)) → value ≡ None → (more : List ℕ) → appended value more ≡ value
over-stays None is more = refl
over-stays (Some value) is more = cc
