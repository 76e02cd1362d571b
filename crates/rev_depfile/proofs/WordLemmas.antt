-- The parts of a list, read from the left, and the bytes of a word.
use Rattle.std.proofs.Common.{◌≡◌, ℕ, ◌==◌, Bool, true, false, ◌&&◌, List, [], ◌∷◌, ◌++◌, take, drop, length, filter, refl, sym, ap, ◌∙◌, arith, suc, cond, if◌then◌else◌, append_assoc}
use Rattle.std.proofs.lemmas.Bool.{eqb-true}
use Rattle.rev_depfile.specs.declared.sign.Sign.{Sign}
use Rattle.rev_depfile.specs.Lines.{onto, parts, place, has_some, words, is_blank, single_dollars}

-- the parts of what follows the first part
abbrev pub parts_after : {A : Type 0} → (A → Bool) → List A → List (List A)
parts_after test [] = []
parts_after test (x ∷ xs) = parts test xs

-- the first part ends at the first element that passes the test
pub parts-first : {A : Type 0} (test : A → Bool) (xs : List A) → parts test xs ≡ take (place test xs) xs ∷ parts_after test (drop (place test xs) xs)
parts-first test [] = refl
parts-first test (x ∷ xs) =
    elim (test x) as (λ t. (if t then [] ∷ parts test xs else onto x (parts test xs))
    ≡ take (if t then 0 else suc (place test xs)) (x ∷ xs) ∷ parts_after test (drop (if t then 0 else suc (place test xs)) (x ∷ xs))) [
      | true ↦ refl
      | false ↦ ap (onto x) (parts-first test xs)
    ]

pub empty_of_length : {A : Type 0} (xs : List A) → length xs ≡ 0 → xs ≡ []
empty_of_length [] h = refl
empty_of_length (x ∷ xs) h = absurd (omega arith)

-- the words of a list whose first part ends at n
pub words-none : (xs : List Sign) (n : ℕ) → n ≡ place is_blank xs → drop n xs ≡ [] → words xs ≡ filter has_some (take n xs ∷ [])
words-none xs n e none =
    ap (filter has_some) (parts-first is_blank xs) ∙ ap (λ k. filter has_some (take k xs ∷ parts_after is_blank (drop k xs))) (sym e)
    ∙ ap (λ r. filter has_some (take n xs ∷ parts_after is_blank r)) none

pub words-some : (xs after : List Sign) (n : ℕ) (x : Sign) → n ≡ place is_blank xs → drop n xs ≡ x ∷ after → words xs ≡ filter has_some (take n xs ∷ parts is_blank after)
words-some xs after n x e some =
    ap (filter has_some) (parts-first is_blank xs) ∙ ap (λ k. filter has_some (take k xs ∷ parts_after is_blank (drop k xs))) (sym e)
    ∙ ap (λ r. filter has_some (take n xs ∷ parts_after is_blank r)) some

pub parts-none : {A : Type 0} (test : A → Bool) (xs : List A) (n : ℕ) → n ≡ place test xs → drop n xs ≡ [] → parts test xs ≡ take n xs ∷ []
parts-none test xs n e none =
    parts-first test xs ∙ ap (λ k. take k xs ∷ parts_after test (drop k xs)) (sym e) ∙ ap (λ r. take n xs ∷ parts_after test r) none

pub parts-some : {A : Type 0} (test : A → Bool) (xs after : List A) (n : ℕ) (x : A) → n ≡ place test xs → drop n xs ≡ x ∷ after → parts test xs ≡ take n xs ∷ parts test after
parts-some test xs after n x e some =
    parts-first test xs ∙ ap (λ k. take k xs ∷ parts_after test (drop k xs)) (sym e) ∙ ap (λ r. take n xs ∷ parts_after test r) some

filter-append : (xs ys : List (List Sign)) → filter has_some (xs ++ ys) ≡ filter has_some xs ++ filter has_some ys
filter-append [] ys = refl
filter-append (x ∷ xs) ys =
    elim (has_some x) as (λ t. cond t (x ∷ filter has_some (xs ++ ys)) (filter has_some (xs ++ ys)) ≡ cond t (x ∷ filter has_some xs) (filter has_some xs) ++ filter has_some ys) [
      | true ↦ ap (λ zs. x ∷ zs) (filter-append xs ys)
      | false ↦ filter-append xs ys
    ]

-- one more word, with the words of what is left
pub words-more : (done : List (List Sign)) (xs after : List Sign) (n : ℕ) (x : Sign) → n ≡ place is_blank xs → drop n xs ≡ x ∷ after
    → (done ++ filter has_some (take n xs ∷ [])) ++ words after ≡ done ++ words xs
words-more done xs after n x e some =
    append_assoc done (filter has_some (take n xs ∷ [])) (words after)
    ∙ ap (λ zs. done ++ zs) (sym (filter-append (take n xs ∷ []) (parts is_blank after)) ∙ sym (words-some xs after n x e some))

-- the bytes behind a dollar sign, or behind none, with two dollar signs for one
abbrev pub dollars_after : Bool → List ℕ → List ℕ
dollars_after after [] = []
dollars_after after (b ∷ bs) = if b == 36 && after then dollars_after false bs else b ∷ dollars_after (b == 36) bs

abbrev dollar_step : Bool → Bool → ℕ → List ℕ → List ℕ
dollar_step dollar after b bs = if dollar && after then dollars_after false bs else b ∷ dollars_after dollar bs

and_false : {A : Type 0} (t : Bool) (x y : A) → (if t && false then x else y) ≡ y
and_false true x y = refl
and_false false x y = refl

-- behind no dollar sign, a byte stays
dollars-after_none : (b : ℕ) (bs : List ℕ) → dollars_after false (b ∷ bs) ≡ b ∷ dollars_after (b == 36) bs
dollars-after_none b bs = and_false (b == 36) (dollars_after false bs) (b ∷ dollars_after (b == 36) bs)

-- two dollar signs, and a dollar sign alone
dollars-pair : (b c : ℕ) (bs : List ℕ) → (b == 36) ≡ true → (c == 36) ≡ true → dollars_after false (b ∷ c ∷ bs) ≡ 36 ∷ dollars_after false bs
dollars-pair b c bs e f =
    dollars-after_none b (c ∷ bs) ∙ ap (λ t. b ∷ dollar_step (c == 36) t c bs) e ∙ ap (λ t. b ∷ dollar_step t true c bs) f
    ∙ ap (λ n. n ∷ dollars_after false bs) (eqb-true b 36 e)

dollars-alone : (b c : ℕ) (bs : List ℕ) → (b == 36) ≡ true → (c == 36) ≡ false → dollars_after false (b ∷ c ∷ bs) ≡ b ∷ dollars_after false (c ∷ bs)
dollars-alone b c bs e f =
    dollars-after_none b (c ∷ bs) ∙ ap (λ t. b ∷ dollar_step (c == 36) t c bs) e ∙ ap (λ t. b ∷ dollar_step t true c bs) f
    ∙ ap (λ t. b ∷ dollar_step t false c bs) (sym f)

dollars-other : (b c : ℕ) (bs : List ℕ) → (b == 36) ≡ false → dollars_after false (b ∷ c ∷ bs) ≡ b ∷ dollars_after false (c ∷ bs)
dollars-other b c bs e = dollars-after_none b (c ∷ bs) ∙ ap (λ t. b ∷ dollar_step (c == 36) t c bs) e

pub dollars-single : (bs : List ℕ) → dollars_after false bs ≡ single_dollars bs
dollars-single [] = refl
dollars-single (b ∷ []) = dollars-after_none b []
dollars-single (b ∷ c ∷ bs) =
    elim (b == 36) as (λ t. (b == 36) ≡ t → dollars_after false (b ∷ c ∷ bs) ≡ (if t && c == 36 then 36 ∷ single_dollars bs else b ∷ single_dollars (c ∷ bs))) [
      | true ↦ λ e. elim (c == 36) as (λ u. (c == 36) ≡ u → dollars_after false (b ∷ c ∷ bs) ≡ (if true && u then 36 ∷ single_dollars bs else b ∷ single_dollars (c ∷ bs))) [
        | true ↦ λ f. dollars-pair b c bs e f ∙ ap (λ xs. 36 ∷ xs) (dollars-single bs)
        | false ↦ λ f. dollars-alone b c bs e f ∙ ap (λ xs. b ∷ xs) (dollars-single (c ∷ bs))
      ] refl
      | false ↦ λ e. dollars-other b c bs e ∙ ap (λ xs. b ∷ xs) (dollars-single (c ∷ bs))
    ] refl
