-- Numbers of what is told.
use Rattle.std.proofs.Common.{◌≡◌, ℕ, List, [], ◌∷◌, ◌++◌, get_or, map, refl, sym, ap, ◌∙◌}
use Rattle.rev_conflicts.specs.declared.conflict.Look.{Look}
use Rattle.rev_conflicts.specs.declared.conflict.Look.TheVariants as look
use Rattle.rev_undeclared.specs.declared.kind.Undeclared.{Undeclared}
use Rattle.rev_undeclared.specs.declared.kind.UndeclaredKind.{UndeclaredKind}
use Rattle.rev_undeclared.specs.declared.kind.UndeclaredKind.TheVariants.{Anothers, LookedAt}
use Rattle.rev_undeclared.specs.Answer.{kind_key, undeclared_key}
use Rattle.rev_undeclared.specs.Tables.{IsOfUndeclared, kind_by}

-- TAKEN OUT ONE AFTER THE OTHER
key-push : (told : List Undeclared) (r : Undeclared) (rest : List (List ℕ)) → map undeclared_key (told ++ r ∷ []) ++ rest ≡ map undeclared_key told ++ (undeclared_key r ∷ rest)
key-push [] r rest = refl
key-push (x ∷ xs) r rest = ap (λ (ks : List (List ℕ)). undeclared_key x ∷ ks) (key-push xs r rest)

pub keys-more : (told all : List Undeclared) (r : Undeclared) (k : List ℕ) (old rest keys : List (List ℕ)) → old ≡ k ∷ rest → all ≡ told ++ r ∷ [] → undeclared_key r ≡ k
    → map undeclared_key told ++ old ≡ keys → map undeclared_key all ++ rest ≡ keys
keys-more told all r k old rest keys taken pushed same before =
    ap (λ (rs : List Undeclared). map undeclared_key rs ++ rest) pushed ∙ key-push told r rest ∙ ap (λ x. map undeclared_key told ++ (x ∷ rest)) same
    ∙ ap (λ (ks : List (List ℕ)). map undeclared_key told ++ ks) (sym taken) ∙ before

-- what seven numbers tell has these as its numbers
abbrev pub told_by : List ℕ → Undeclared
told_by k =
    record { kind = kind_by (get_or k 4 0) (get_or k 5 0) (get_or k 6 0); maker = get_or k 0 0; user = get_or k 1 0; path = get_or k 2 0; made_by = get_or k 3 0 }

pub told-again : (t : Undeclared) → told_by (undeclared_key t) ≡ t
told-again t = again t.kind t.maker t.user t.path t.made_by
  where
    again : (kind : UndeclaredKind) (m u p a : ℕ)
        → told_by (m ∷ u ∷ p ∷ a ∷ kind_key kind) ≡ record { kind = kind; maker = m; user = u; path = p; made_by = a }
    again Anothers m u p a = refl
    again (LookedAt look.Read n) m u p a = refl
    again (LookedAt look.Miss n) m u p a = refl
    again (LookedAt look.Stat n) m u p a = refl
    again (LookedAt look.List n) m u p a = refl

pub one-told : (t u : Undeclared) → undeclared_key t ≡ undeclared_key u → t ≡ u
one-told t u e = sym (told-again t) ∙ ap told_by e ∙ told-again u

pub told-key : (k : List ℕ) → IsOfUndeclared k → undeclared_key (told_by k) ≡ k
told-key k is = ap (λ (x : List ℕ). undeclared_key (told_by x)) is.is ∙ ap undeclared_key (told-again is.told) ∙ sym is.is

pub maker-of : (k : List ℕ) (is : IsOfUndeclared k) → get_or k 0 0 ≡ is.told.maker
maker-of k is = ap (λ (x : List ℕ). get_or x 0 0) is.is

pub user-of : (k : List ℕ) (is : IsOfUndeclared k) → get_or k 1 0 ≡ is.told.user
user-of k is = ap (λ (x : List ℕ). get_or x 1 0) is.is

-- seven numbers, of which three are those of a kind
pub key-of : (ks : List ℕ) (kind : UndeclaredKind) (m u p a : ℕ) → ks ≡ kind_key kind
    → m ∷ u ∷ p ∷ a ∷ get_or ks 0 0 ∷ get_or ks 1 0 ∷ get_or ks 2 0 ∷ [] ≡ m ∷ u ∷ p ∷ a ∷ kind_key kind
key-of ks Anothers m u p a is = ap (λ (xs : List ℕ). m ∷ u ∷ p ∷ a ∷ get_or xs 0 0 ∷ get_or xs 1 0 ∷ get_or xs 2 0 ∷ []) is
key-of ks (LookedAt look n) m u p a is = ap (λ (xs : List ℕ). m ∷ u ∷ p ∷ a ∷ get_or xs 0 0 ∷ get_or xs 1 0 ∷ get_or xs 2 0 ∷ []) is
