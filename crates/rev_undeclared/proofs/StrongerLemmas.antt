-- What conflicts tell of, one after the other.
use Rattle.std.proofs.Common.{◌≡◌, ℕ, ◌+◌, ◌<◌, Bool, true, false, ◌==◌, ◌&&◌, ◌||◌, true≢false, List, ◌∷◌, [], length, get_or, take, ◌⊎◌, inl, inr, sym, ap, ◌∙◌, Contains}
use Rattle.std.specs.Prelude.{◌↔◌}
use Rattle.std.proofs.lemmas.Bool.{and_from, and_parts, eq-eqb, eqb-true, or_cases, or_left, or_right}
use Rattle.std.proofs.lemmas.List.Folds.{list_any_more}
use Rattle.rev_conflicts.specs.declared.conflict.Conflict.{Conflict}
use Rattle.rev_conflicts.specs.declared.place.Place.TheVariants.{File}
use Rattle.rev_conflicts.proofs.Some.{either-more, either-then}
use Rattle.rev_undeclared.specs.Stronger.{is_clash, is_file, is_told, tells_of}

pub told-more : (conflicts : List Conflict) (i user path : ℕ) (conflict : Conflict) {A B : Type 0} → i < length conflicts → conflict ≡ get_or conflicts i conflict
    → (A ↔ (is_told (take i conflicts) user path ≡ true)) → (B ↔ (A ⊎ (tells_of user path conflict ≡ true))) → B ↔ (is_told (take (i + 1) conflicts) user path ≡ true)
told-more conflicts i user path conflict within is before step = (
  λ b. list_any_more (tells_of user path) conflicts i conflict within ∙ elim (step.0 b) [
    | inl a ↦ or_left (is_told (take i conflicts) user path) (tells_of user path (get_or conflicts i conflict)) (before.0 a)
    | inr t ↦ or_right (is_told (take i conflicts) user path) (tells_of user path (get_or conflicts i conflict)) (ap (tells_of user path) (sym is) ∙ t)
  ],
  λ h. step.1 (elim (or_cases (is_told (take i conflicts) user path) (tells_of user path (get_or conflicts i conflict)) (sym (list_any_more (tells_of user path) conflicts i conflict within) ∙ h)) [
    | inl a ↦ inl (before.1 a)
    | inr t ↦ inr (ap (tells_of user path) is ∙ t)
  ]),
)

-- ONE CONFLICT
keys-same : (user path u p : ℕ) → (user ∷ path ∷ [] ≡ u ∷ p ∷ []) ↔ ((user ≡ u) × (path ≡ p))
keys-same user path u p = (
  λ e. (ap (λ (k : List ℕ). get_or k 0 0) e, ap (λ (k : List ℕ). get_or k 1 0) e),
  λ both. λ i. both.0 i ∷ both.1 i ∷ [],
)

pub tells-file : (conflict : Conflict) (p user path : ℕ) → conflict.place ≡ File p
    → (tells_of user path conflict ≡ true) ↔ ((p ≡ path) × ((conflict.user ≡ user) ⊎ ((is_clash conflict.kind ≡ true) × (conflict.maker ≡ user))))
tells-file conflict p user path at = (
  λ h.
      let both = and_parts (is_file path conflict.place) (conflict.user == user || (is_clash conflict.kind && conflict.maker == user)) h in (
        eqb-true p path (sym (ap (is_file path) at) ∙ both.0),
        elim (or_cases (conflict.user == user) (is_clash conflict.kind && conflict.maker == user) both.1) [
          | inl u ↦ inl (eqb-true conflict.user user u)
          | inr c ↦ let parts = and_parts (is_clash conflict.kind) (conflict.maker == user) c in inr (parts.0, eqb-true conflict.maker user parts.1)
        ],
      ),
  λ both.
      and_from (is_file path conflict.place) (conflict.user == user || (is_clash conflict.kind && conflict.maker == user)) (ap (is_file path) at ∙ eq-eqb p path both.0) (elim both.1 [
        | inl u ↦ or_left (conflict.user == user) (is_clash conflict.kind && conflict.maker == user) (eq-eqb conflict.user user u)
        | inr c ↦ or_right (conflict.user == user) (is_clash conflict.kind && conflict.maker == user) (and_from (is_clash conflict.kind) (conflict.maker == user) c.0 (eq-eqb conflict.maker user c.1))
      ]),
)

-- a conflict that is no clash tells of its user
pub one-user : {A B : Type 0} (conflict : Conflict) (p user path : ℕ) → conflict.place ≡ File p → is_clash conflict.kind ≡ false → (B ↔ (A ⊎ (user ∷ path ∷ [] ≡ conflict.user ∷ p ∷ [])))
    → B ↔ (A ⊎ (tells_of user path conflict ≡ true))
one-user conflict p user path at none step = either-more step (
  λ e. let both = (keys-same user path conflict.user p).0 e in (tells-file conflict p user path at).1 (sym both.1, inl (sym both.0)),
  λ t. elim ((tells-file conflict p user path at).0 t).1 [
    | inl u ↦ (keys-same user path conflict.user p).1 (sym u, sym ((tells-file conflict p user path at).0 t).0)
    | inr c ↦ absurd (true≢false (sym c.0 ∙ none))
  ],
)

-- a clash tells of both
pub two-users : {A B C : Type 0} (conflict : Conflict) (p user path : ℕ) → conflict.place ≡ File p → is_clash conflict.kind ≡ true → (B ↔ (A ⊎ (user ∷ path ∷ [] ≡ conflict.user ∷ p ∷ [])))
    → (C ↔ (B ⊎ (user ∷ path ∷ [] ≡ conflict.maker ∷ p ∷ []))) → C ↔ (A ⊎ (tells_of user path conflict ≡ true))
two-users conflict p user path at clash one two = either-then one two (
  λ t. elim ((tells-file conflict p user path at).0 t).1 [
    | inl u ↦ inl ((keys-same user path conflict.user p).1 (sym u, sym ((tells-file conflict p user path at).0 t).0))
    | inr c ↦ inr ((keys-same user path conflict.maker p).1 (sym c.1, sym ((tells-file conflict p user path at).0 t).0))
  ],
  λ h. elim h [
    | inl e ↦ let both = (keys-same user path conflict.user p).0 e in (tells-file conflict p user path at).1 (sym both.1, inl (sym both.0))
    | inr e ↦ let both = (keys-same user path conflict.maker p).0 e in (tells-file conflict p user path at).1 (sym both.1, inr (clash, sym both.0))
  ],
)
