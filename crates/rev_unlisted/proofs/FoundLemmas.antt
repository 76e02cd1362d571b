-- Numbers of what is told.
use Rattle.std.proofs.Common.{◌≡◌, ℕ, List, [], ◌∷◌, ◌++◌, get_or, map, refl, sym, ap, ◌∙◌}
use Rattle.rev_unlisted.specs.declared.input.Cover.{Cover}
use Rattle.rev_unlisted.specs.declared.input.Cover.TheVariants.{Covered, HeldBack, Neither}
use Rattle.rev_unlisted.specs.declared.input.Unlisted.{Unlisted}
use Rattle.rev_unlisted.specs.Answer.{cover_number, unlisted_key}
use Rattle.rev_unlisted.specs.Found.{IsOfUnlisted, cover_of_number}

-- TAKEN OUT ONE AFTER THE OTHER
key-push : (told : List Unlisted) (r : Unlisted) (rest : List (List ℕ)) → map unlisted_key (told ++ r ∷ []) ++ rest ≡ map unlisted_key told ++ (unlisted_key r ∷ rest)
key-push [] r rest = refl
key-push (x ∷ xs) r rest = ap (λ (ks : List (List ℕ)). unlisted_key x ∷ ks) (key-push xs r rest)

pub keys-more : (told all : List Unlisted) (r : Unlisted) (k : List ℕ) (old rest keys : List (List ℕ)) → old ≡ k ∷ rest → all ≡ told ++ r ∷ [] → unlisted_key r ≡ k
    → map unlisted_key told ++ old ≡ keys → map unlisted_key all ++ rest ≡ keys
keys-more told all r k old rest keys taken pushed same before =
    ap (λ (rs : List Unlisted). map unlisted_key rs ++ rest) pushed ∙ key-push told r rest ∙ ap (λ x. map unlisted_key told ++ (x ∷ rest)) same
    ∙ ap (λ (ks : List (List ℕ)). map unlisted_key told ++ ks) (sym taken) ∙ before

-- what four numbers tell has these as its numbers
abbrev pub told_by : List ℕ → Unlisted
told_by k = record { cover = cover_of_number (get_or k 3 0); user = get_or k 0 0; path = get_or k 1 0; used_by = get_or k 2 0 }

pub told-again : (t : Unlisted) → told_by (unlisted_key t) ≡ t
told-again t = again t.cover t.user t.path t.used_by
  where
    again : (cover : Cover) (u p n : ℕ) → told_by (u ∷ p ∷ n ∷ cover_number cover ∷ []) ≡ record { cover = cover; user = u; path = p; used_by = n }
    again Covered u p n = refl
    again HeldBack u p n = refl
    again Neither u p n = refl

pub one-told : (t u : Unlisted) → unlisted_key t ≡ unlisted_key u → t ≡ u
one-told t u e = sym (told-again t) ∙ ap told_by e ∙ told-again u

pub told-key : (k : List ℕ) → IsOfUnlisted k → unlisted_key (told_by k) ≡ k
told-key k is = ap (λ (x : List ℕ). unlisted_key (told_by x)) is.is ∙ ap unlisted_key (told-again is.told) ∙ sym is.is

pub user-of : (k : List ℕ) (is : IsOfUnlisted k) → get_or k 0 0 ≡ is.told.user
user-of k is = ap (λ (x : List ℕ). get_or x 0 0) is.is
