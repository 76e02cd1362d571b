-- Sets of paths that are made by one path after another.
use Rattle.std.proofs.Common.{◌≡◌, ℕ, ◌+◌, ◌<◌, Bool, true, false, not, ◌||◌, cond, List, [], ◌∷◌, ◌++◌, length, take, filter, get_or, bytes_eq, refl, sym, ap, ◌∙◌, if◌then◌else◌, append_assoc}
use Rattle.std.specs.List.{list_any, AllByRecursion, IsDistinct}
use Rattle.std.proofs.lemmas.List.{take_more}
use Rattle.std.proofs.lemmas.List.Folds.{list_any-append}
use Rattle.std.proofs.lemmas.Slice.Eq.{bytes_eq-Decides}
use Rattle.std.proofs.lemmas.Map.Keys.{IsDistinct-cons, IsDistinct-head, IsDistinct-tail}
use Rattle.indexmap.specs.IndexSet.{insert_key, insert_all}
use Rattle.rev_paths.specs.Mentions.{first_mentions}

or_true : (b : Bool) → (b || true) ≡ true
or_true true = refl
or_true false = refl

or_false : (b : Bool) → (b || false) ≡ b
or_false true = refl
or_false false = refl

same_bytes : (p k : List ℕ) → bytes_eq p k ≡ true → p ≡ k
same_bytes p k e = (bytes_eq-Decides p k).0 e

bytes_eq-self : (p : List ℕ) → bytes_eq p p ≡ true
bytes_eq-self p = (bytes_eq-Decides p p).1 refl

-- a path that is there has an equal one in the list
list_any-present : (ks : List (List ℕ)) (k p : List ℕ) → list_any (bytes_eq k) ks ≡ true → list_any (bytes_eq p) ks ≡ (list_any (bytes_eq p) ks || bytes_eq p k)
list_any-present ks k p e =
    elim (bytes_eq p k) as (λ t. bytes_eq p k ≡ t → list_any (bytes_eq p) ks ≡ (list_any (bytes_eq p) ks || t)) [
      | true ↦ λ f. ap (λ q. list_any (bytes_eq q) ks) (same_bytes p k f) ∙ e ∙ sym (or_true (list_any (bytes_eq p) ks))
      | false ↦ λ f. sym (or_false (list_any (bytes_eq p) ks))
    ] refl

list_any-insert_key : (ks : List (List ℕ)) (k p : List ℕ) → list_any (bytes_eq p) (insert_key bytes_eq ks k) ≡ (list_any (bytes_eq p) ks || bytes_eq p k)
list_any-insert_key ks k p =
    elim (list_any (bytes_eq k) ks) as (λ t. list_any (bytes_eq k) ks ≡ t → list_any (bytes_eq p) (if t then ks else ks ++ k ∷ []) ≡ (list_any (bytes_eq p) ks || bytes_eq p k)) [
      | true ↦ λ e. list_any-present ks k p e
      | false ↦ λ e. list_any-append (bytes_eq p) ks (k ∷ []) ∙ ap (λ t. list_any (bytes_eq p) ks || t) (or_false (bytes_eq p k))
    ] refl

list_any-push : (ks : List (List ℕ)) (k p : List ℕ) → list_any (bytes_eq p) (ks ++ k ∷ []) ≡ (list_any (bytes_eq p) ks || bytes_eq p k)
list_any-push ks k p = list_any-append (bytes_eq p) ks (k ∷ []) ∙ ap (λ t. list_any (bytes_eq p) ks || t) (or_false (bytes_eq p k))

-- one more name of a list
pub members-more : (ks names : List (List ℕ)) (i : ℕ) (k p : List ℕ) → i < length names → k ≡ get_or names i k
    → list_any (bytes_eq p) ks ≡ list_any (bytes_eq p) (take i names) → list_any (bytes_eq p) (insert_key bytes_eq ks k) ≡ list_any (bytes_eq p) (take (i + 1) names)
members-more ks names i k p h g same =
    list_any-insert_key ks k p ∙ ap (λ t. t || bytes_eq p k) same ∙ sym (list_any-push (take i names) k p)
    ∙ ap (λ x. list_any (bytes_eq p) (take i names ++ x ∷ [])) g ∙ ap (list_any (bytes_eq p)) (sym (take_more names i k h))

-- a list without the paths that are equal to p
abbrev without : List ℕ → List (List ℕ) → List (List ℕ)
without p ks = filter (λ q. not (bytes_eq q p)) ks

without-append : (p : List ℕ) (xs ys : List (List ℕ)) → without p (xs ++ ys) ≡ without p xs ++ without p ys
without-append p [] ys = refl
without-append p (x ∷ xs) ys =
    elim (not (bytes_eq x p)) as (λ t. cond t (x ∷ without p (xs ++ ys)) (without p (xs ++ ys)) ≡ cond t (x ∷ without p xs) (without p xs) ++ without p ys) [
      | true ↦ ap (λ zs. x ∷ zs) (without-append p xs ys)
      | false ↦ without-append p xs ys
    ]

without-same : (p x : List ℕ) → bytes_eq x p ≡ true → without p (x ∷ []) ≡ []
without-same p x e = ap (λ t. cond (not t) (x ∷ []) []) e

without-other : (p x : List ℕ) → bytes_eq x p ≡ false → without p (x ∷ []) ≡ x ∷ []
without-other p x e = ap (λ t. cond (not t) (x ∷ []) []) e

append_nil : (xs : List (List ℕ)) → xs ++ [] ≡ xs
append_nil [] = refl
append_nil (x ∷ xs) = ap (λ ys. x ∷ ys) (append_nil xs)

-- a path that p is not is there before and after
list_any-without : (x p : List ℕ) (ks : List (List ℕ)) → bytes_eq x p ≡ false → list_any (bytes_eq x) (without p ks) ≡ list_any (bytes_eq x) ks
list_any-without x p [] e = refl
list_any-without x p (k ∷ ks) e =
    let rest : list_any (bytes_eq x) (without p ks) ≡ list_any (bytes_eq x) ks = list_any-without x p ks e in
    elim (bytes_eq k p) as (λ t. bytes_eq k p ≡ t → list_any (bytes_eq x) (cond (not t) (k ∷ without p ks) (without p ks)) ≡ (bytes_eq x k || list_any (bytes_eq x) ks)) [
      | true ↦ λ f. rest ∙ ap (λ t. t || list_any (bytes_eq x) ks) (sym (ap (bytes_eq x) (same_bytes k p f) ∙ e))
      | false ↦ λ f. ap (λ t. bytes_eq x k || t) rest
    ] refl

mention-same : (p : List ℕ) (ks : List (List ℕ)) (x : List ℕ) (b : Bool) → bytes_eq x p ≡ true → without p (if b then ks else ks ++ x ∷ []) ≡ without p ks
mention-same p ks x true e = refl
mention-same p ks x false e = without-append p ks (x ∷ []) ∙ ap (λ zs. without p ks ++ zs) (without-same p x e) ∙ append_nil (without p ks)

mention-other : (p : List ℕ) (ks : List (List ℕ)) (x : List ℕ) (b : Bool) → bytes_eq x p ≡ false
    → without p (if b then ks else ks ++ x ∷ []) ≡ (if b then without p ks else without p ks ++ x ∷ [])
mention-other p ks x true e = refl
mention-other p ks x false e = without-append p ks (x ∷ []) ∙ ap (λ zs. without p ks ++ zs) (without-other p x e)

front : (b : Bool) (p x : List ℕ) (ks : List (List ℕ)) → (if b then p ∷ ks else p ∷ ks ++ x ∷ []) ≡ p ∷ (if b then ks else ks ++ x ∷ [])
front true p x ks = refl
front false p x ks = refl

-- one more mention
mention-more : (ps : List (List ℕ)) (x : List ℕ) → insert_key bytes_eq (first_mentions ps) x ≡ first_mentions (ps ++ x ∷ [])
mention-more [] x = refl
mention-more (p ∷ ps) x =
    let rest : List (List ℕ) = first_mentions ps in
    elim (bytes_eq x p) as (λ t. bytes_eq x p ≡ t
    → (if t || list_any (bytes_eq x) (without p rest) then p ∷ without p rest else p ∷ without p rest ++ x ∷ []) ≡ p ∷ without p (first_mentions (ps ++ x ∷ []))) [
      | true ↦ λ e. ap (λ zs. p ∷ zs) (sym (mention-same p rest x (list_any (bytes_eq x) rest) e)) ∙ ap (λ zs. p ∷ without p zs) (mention-more ps x)
      | false ↦ λ e. front (list_any (bytes_eq x) (without p rest)) p x (without p rest)
          ∙ ap (λ t. p ∷ (if t then without p rest else without p rest ++ x ∷ [])) (list_any-without x p rest e)
          ∙ ap (λ zs. p ∷ zs) (sym (mention-other p rest x (list_any (bytes_eq x) rest) e)) ∙ ap (λ zs. p ∷ without p zs) (mention-more ps x)
    ] refl

mentions-after : (done ps : List (List ℕ)) → insert_all bytes_eq (first_mentions done) ps ≡ first_mentions (done ++ ps)
mentions-after done [] = ap first_mentions (sym (append_nil done))
mentions-after done (p ∷ ps) =
    ap (λ ks. insert_all bytes_eq ks ps) (mention-more done p) ∙ mentions-after (done ++ p ∷ []) ps ∙ ap first_mentions (append_assoc done (p ∷ []) ps)

-- paths added one after another are their first mentions
pub mentions-all : (ps : List (List ℕ)) → insert_all bytes_eq [] ps ≡ first_mentions ps
mentions-all ps = mentions-after [] ps

-- paths added in two goes
pub insert_all-append : (ks ps qs : List (List ℕ)) → insert_all bytes_eq ks (ps ++ qs) ≡ insert_all bytes_eq (insert_all bytes_eq ks ps) qs
insert_all-append ks [] qs = refl
insert_all-append ks (p ∷ ps) qs = insert_all-append (insert_key bytes_eq ks p) ps qs

-- a list without some of its paths keeps what holds of each
each-without : (P : List ℕ → Type 0) (p : List ℕ) (ks : List (List ℕ)) → AllByRecursion P ks → AllByRecursion P (without p ks)
each-without P p [] h = tt
each-without P p (k ∷ ks) h =
    elim (not (bytes_eq k p)) as (λ t. AllByRecursion P (cond t (k ∷ without p ks) (without p ks))) [
      | true ↦ (h.0, each-without P p ks h.1)
      | false ↦ each-without P p ks h.1
    ]

distinct-without : (p : List ℕ) (ks : List (List ℕ)) → IsDistinct bytes_eq ks → IsDistinct bytes_eq (without p ks)
distinct-without p [] h = h
distinct-without p (k ∷ ks) h =
    let rest = distinct-without p ks (IsDistinct-tail bytes_eq k ks h) in
    elim (not (bytes_eq k p)) as (λ t. IsDistinct bytes_eq (cond t (k ∷ without p ks) (without p ks))) [
      | true ↦ IsDistinct-cons bytes_eq k (without p ks) (each-without (λ q. bytes_eq k q ≡ false) p ks (IsDistinct-head bytes_eq k ks h)) rest
      | false ↦ rest
    ]

-- a path differs from those that are left without it
apart-without : (p : List ℕ) (ks : List (List ℕ)) → AllByRecursion (λ q. bytes_eq p q ≡ false) (without p ks)
apart-without p [] = tt
apart-without p (k ∷ ks) =
    elim (bytes_eq k p) as (λ t. bytes_eq k p ≡ t → AllByRecursion (λ q. bytes_eq p q ≡ false) (cond (not t) (k ∷ without p ks) (without p ks))) [
      | true ↦ λ e. apart-without p ks
      | false ↦ λ e. (turned e (bytes_eq p k) refl, apart-without p ks)
    ] refl
  where
    turned : bytes_eq k p ≡ false → (t : Bool) → bytes_eq p k ≡ t → t ≡ false
    turned e true f = sym (bytes_eq-self p) ∙ ap (λ q. bytes_eq q p) (same_bytes p k f) ∙ e
    turned e false f = refl

-- no path stands twice among first mentions
pub mentions-distinct : (ps : List (List ℕ)) → IsDistinct bytes_eq (first_mentions ps)
unfolding IsDistinct
mentions-distinct [] = tt
mentions-distinct (p ∷ ps) = (apart-without p (first_mentions ps), distinct-without p (first_mentions ps) (mentions-distinct ps))

-- a path is among the first mentions exactly where it is in the list
pub mentions-members : (ps : List (List ℕ)) (x : List ℕ) → list_any (bytes_eq x) (first_mentions ps) ≡ list_any (bytes_eq x) ps
mentions-members [] x = refl
mentions-members (p ∷ ps) x =
    elim (bytes_eq x p) as (λ t. bytes_eq x p ≡ t → (t || list_any (bytes_eq x) (without p (first_mentions ps))) ≡ (t || list_any (bytes_eq x) ps)) [
      | true ↦ λ e. refl
      | false ↦ λ e. list_any-without x p (first_mentions ps) e ∙ mentions-members ps x
    ] refl

all-without : (p : List ℕ) (ks : List (List ℕ)) → AllByRecursion (λ q. bytes_eq p q ≡ false) ks → without p ks ≡ ks
all-without p [] h = refl
all-without p (k ∷ ks) h =
    elim (bytes_eq k p) as (λ t. bytes_eq k p ≡ t → cond (not t) (k ∷ without p ks) (without p ks) ≡ k ∷ ks) [
      | true ↦ λ e. let no : true ≡ false = sym (bytes_eq-self p) ∙ ap (bytes_eq p) (sym (same_bytes k p e)) ∙ h.0 in cc
      | false ↦ λ e. ap (λ qs. k ∷ qs) (all-without p ks h.1)
    ] refl

-- the first mentions of paths of which none stands twice are all of them
pub mentions-once : (ps : List (List ℕ)) → IsDistinct bytes_eq ps → first_mentions ps ≡ ps
unfolding IsDistinct
mentions-once [] h = refl
mentions-once (p ∷ ps) h = ap (λ qs. p ∷ without p qs) (mentions-once ps h.1) ∙ ap (λ qs. p ∷ qs) (all-without p ps h.0)
