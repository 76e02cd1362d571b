-- Positions at which tests hold.
use Rattle.std.proofs.Common.{◌≡◌, ℕ, ◌+◌, ◌<◌, zero, suc, Bool, true, false, cond, List, [], ◌∷◌, ◌++◌, length, get_or, map, sym, ap, ◌∙◌, arith, if◌then◌else◌, add-one}
use Rattle.std.specs.Prelude.{filter}
use Rattle.std.specs.List.{range_with_len}
use Rattle.std.proofs.lemmas.Option.{slice_get-get_or}
use Rattle.std.proofs.lemmas.List.{append-nil, append_assoc, map-append}
use Rattle.std.proofs.lemmas.List.Elements.{filter-append}
use Rattle.rev_dirty.specs.Reasons.{holds, holds_at}

range-more : (a n : ℕ) → range_with_len a (suc n) ≡ range_with_len a n ++ (a + n) ∷ []
range-more a zero =
    let same : a ≡ a + 0 = omega arith in
    ap (λ k. k ∷ []) same
range-more a (suc n) =
    let same : a + 1 + n ≡ a + suc n = omega arith in
    ap (λ ks. a ∷ ks) (range-more (a + 1) n ∙ ap (λ k. range_with_len (a + 1) n ++ k ∷ []) same)

filter-one : (p : ℕ → Bool) (n : ℕ) (b : Bool) → p n ≡ b → filter p (n ∷ []) ≡ (if b then n ∷ [] else [])
filter-one p n b h = ap (λ c. cond c (n ∷ []) []) h

filter-range : (p : ℕ → Bool) (n : ℕ) (b : Bool) → p n ≡ b → filter p (range_with_len 0 (n + 1)) ≡ filter p (range_with_len 0 n) ++ (if b then n ∷ [] else [])
filter-range p n b h =
    let here : 0 + n ≡ n = omega arith in
    ap (λ k. filter p (range_with_len 0 k)) (add-one n) ∙ ap (filter p) (range-more 0 n ∙ ap (λ k. range_with_len 0 n ++ k ∷ []) here)
    ∙ filter-append p (range_with_len 0 n) (n ∷ []) ∙ ap (λ ks. filter p (range_with_len 0 n) ++ ks) (filter-one p n b h)

-- one more position, at which the test holds
pub chosen-yes : {A R : Type 0} (make : ℕ → R) (test : A → Bool) (xs : List A) (i : ℕ) (d : A) (front before after : List R) → i < length xs → test (get_or xs i d) ≡ true
    → before ≡ front ++ map make (filter (holds_at test xs) (range_with_len 0 i)) → after ≡ before ++ make i ∷ []
    → after ≡ front ++ map make (filter (holds_at test xs) (range_with_len 0 (i + 1)))
chosen-yes make test xs i d front before after within ok is push =
    push ∙ ap (λ rs. rs ++ make i ∷ []) is
    ∙ append_assoc front (map make (filter (holds_at test xs) (range_with_len 0 i))) (make i ∷ [])
    ∙ ap (λ rs. front ++ rs)
    (sym (map-append make (filter (holds_at test xs) (range_with_len 0 i)) (i ∷ []))
    ∙ ap (map make) (sym (filter-range (holds_at test xs) i true (ap (holds test) (slice_get-get_or xs i d within) ∙ ok))))

-- one more position, at which the test fails
pub chosen-no : {A R : Type 0} (make : ℕ → R) (test : A → Bool) (xs : List A) (i : ℕ) (d : A) (front before : List R) → i < length xs → test (get_or xs i d) ≡ false
    → before ≡ front ++ map make (filter (holds_at test xs) (range_with_len 0 i))
    → before ≡ front ++ map make (filter (holds_at test xs) (range_with_len 0 (i + 1)))
chosen-no make test xs i d front before within ok is =
    is
    ∙ ap (λ rs. front ++ map make rs)
    (sym (append-nil (filter (holds_at test xs) (range_with_len 0 i)))
    ∙ sym (filter-range (holds_at test xs) i false (ap (holds test) (slice_get-get_or xs i d within) ∙ ok)))
