-- Names of which each counts once.
use Rattle.std.proofs.Common.{◌≡◌, ℕ, ◌<◌, Bool, true, false, not, ◌&&◌, ◌||◌, List, [], ◌∷◌, ◌++◌, length, filter, cond, bytes_eq, refl, sym, ap, ◌∙◌, append_assoc, arith, if◌then◌else◌}
use Rattle.std.specs.List.{list_any}
use Rattle.std.proofs.lemmas.List.Folds.{list_any-append}
use Rattle.std.proofs.lemmas.Slice.Eq.{bytes_eq-Decides}
use Rattle.std.proofs.Common.{map}
use Rattle.std.specs.Borrow.{Bor}
use Rattle.rev_syntax.specs.declared.text.Piece.{Piece}
use Rattle.rev_syntax.specs.declared.text.Piece.TheVariants.{Literal}
use Rattle.rev_syntax.specs.Bytes.{is_empty}
use Rattle.rev_syntax.specs.Pieces.{seen_piece}
use Rattle.rev_syntax.specs.Texts.{PieceValue, Byte}
use Rattle.rev_scopes.specs.Expansion.{expanded}
use Rattle.rev_scopes.proofs.ExpansionLemmas.{expanded-bytes}
use Rattle.indexmap.specs.IndexSet.{insert_key}
use Rattle.rev_manifest.specs.Names.{has_path}
use Rattle.rev_paths.specs.Mentions.{first_mentions}

pub distinct-short : (xs : List (List ℕ)) → length xs < 2 → first_mentions xs ≡ xs
distinct-short [] h = refl
distinct-short (x ∷ []) h = refl
distinct-short (x ∷ y ∷ ys) h = absurd (omega arith)

step : {A : Type 0} (p : A → Bool) (x : A) (fq fr : List A) (a b c : Bool) → p x ≡ a → c ≡ (a && b) → filter p fq ≡ fr → filter p (cond b (x ∷ fq) fq) ≡ cond c (x ∷ fr) fr
step p x fq fr true true c ea ec h = ap (λ t. cond t (x ∷ filter p fq) (filter p fq)) ea ∙ ap (λ t. x ∷ t) h ∙ sym (ap (λ t. cond t (x ∷ fr) fr) ec)
step p x fq fr false true c ea ec h = ap (λ t. cond t (x ∷ filter p fq) (filter p fq)) ea ∙ h ∙ sym (ap (λ t. cond t (x ∷ fr) fr) ec)
step p x fq fr true false c ea ec h = h ∙ sym (ap (λ t. cond t (x ∷ fr) fr) ec)
step p x fq fr false false c ea ec h = h ∙ sym (ap (λ t. cond t (x ∷ fr) fr) ec)

-- two tests in turn
filter-both : {A : Type 0} (p q r : A → Bool) → ((x : A) → r x ≡ (p x && q x)) → (xs : List A) → filter p (filter q xs) ≡ filter r xs
filter-both p q r same [] = refl
filter-both p q r same (x ∷ xs) = step p x (filter q xs) (filter r xs) (p x) (q x) (r x) refl (same x) (filter-both p q r same xs)

abbrev pub is_left : List (List ℕ) → List ℕ → Bool
is_left once other = not (has_path once other)

and_true : (b : Bool) → b ≡ (b && true)
and_true true = refl
and_true false = refl

-- a path that stands there already hides the same paths
same-old : (once : List (List ℕ)) (x y : List ℕ) → has_path once x ≡ true → is_left once y ≡ (is_left once y && not (bytes_eq y x))
same-old once x y h = by (bytes_eq y x) refl
  where
    by : (b : Bool) → bytes_eq y x ≡ b → is_left once y ≡ (is_left once y && not b)
    by false e = and_true (is_left once y)
    by true e =
        let same : y ≡ x = (bytes_eq-Decides y x).0 e in
        let gone : is_left once y ≡ false = ap (λ z. not (has_path once z)) same ∙ ap not h in
        gone ∙ sym (ap (λ b. b && false) gone)

not_or : (a b : Bool) → not (a || (b || false)) ≡ (not a && not b)
not_or true b = refl
not_or false true = refl
not_or false false = refl

same-new : (once : List (List ℕ)) (x y : List ℕ) → is_left (once ++ x ∷ []) y ≡ (is_left once y && not (bytes_eq y x))
same-new once x y = ap not (list_any-append (bytes_eq y) once (x ∷ [])) ∙ not_or (has_path once y) (bytes_eq y x)

-- a name that is there, and one that is new
pub distinct-old : (once rest : List (List ℕ)) (x : List ℕ) → has_path once x ≡ true
    → once ++ filter (is_left once) (first_mentions rest) ≡ once ++ filter (is_left once) (first_mentions (x ∷ rest))
distinct-old once rest x h =
    ap (λ t. once ++ t)
    (sym (filter-both (is_left once) (λ other. not (bytes_eq other x)) (is_left once) (λ y. same-old once x y h) (first_mentions rest))
    ∙ sym (ap (λ t. cond (not t) (x ∷ filter (is_left once) (filter (λ other. not (bytes_eq other x)) (first_mentions rest))) (filter (is_left once) (filter (λ other. not (bytes_eq other x)) (first_mentions rest)))) h))

pub distinct-new : (once rest : List (List ℕ)) (x : List ℕ) → has_path once x ≡ false
    → (once ++ x ∷ []) ++ filter (is_left (once ++ x ∷ [])) (first_mentions rest) ≡ once ++ filter (is_left once) (first_mentions (x ∷ rest))
distinct-new once rest x h =
    append_assoc once (x ∷ []) (filter (is_left (once ++ x ∷ [])) (first_mentions rest))
    ∙ ap (λ t. once ++ x ∷ t) (sym (filter-both (is_left once) (λ other. not (bytes_eq other x)) (is_left (once ++ x ∷ [])) (same-new once x) (first_mentions rest)))
    ∙ ap (λ t. once ++ t)
    (sym (ap (λ t. cond (not t) (x ∷ filter (is_left once) (filter (λ other. not (bytes_eq other x)) (first_mentions rest))) (filter (is_left once) (filter (λ other. not (bytes_eq other x)) (first_mentions rest)))) h))

pub filter-all : (xs : List (List ℕ)) → filter (is_left []) xs ≡ xs
filter-all [] = refl
filter-all (x ∷ xs) = ap (λ t. x ∷ t) (filter-all xs)

not-true : (b : Bool) → not b ≡ true → b ≡ false
not-true true h = cc
not-true false h = refl

not-false : (b : Bool) → not b ≡ false → b ≡ true
not-false true h = refl
not-false false h = cc

-- a set that has the names so far, and a name that is new to it or not
pub insert-new : (keys once : List (List ℕ)) (x v : List ℕ) → keys ≡ once → v ≡ x → not (list_any (bytes_eq v) keys) ≡ true
    → (insert_key bytes_eq keys v ≡ once ++ x ∷ []) × (has_path once x ≡ false)
insert-new keys once x v same_keys same new =
    let absent : list_any (bytes_eq v) keys ≡ false = not-true _ new in (
      ap (λ t. if t then keys else keys ++ v ∷ []) absent ∙ (λ i. same_keys i ++ same i ∷ []),
      sym (λ i. list_any (bytes_eq (same i)) (same_keys i)) ∙ absent,
    )

pub insert-old : (keys once : List (List ℕ)) (x v : List ℕ) → keys ≡ once → v ≡ x → not (list_any (bytes_eq v) keys) ≡ false
    → (insert_key bytes_eq keys v ≡ once) × (has_path once x ≡ true)
insert-old keys once x v same_keys same old =
    let present : list_any (bytes_eq v) keys ≡ true = not-false _ old in (
      ap (λ t. if t then keys else keys ++ v ∷ []) present ∙ same_keys,
      sym (λ i. list_any (bytes_eq (same i)) (same_keys i)) ∙ present,
    )

or_false : (b : Bool) → (b || false) ≡ b
or_false true = refl
or_false false = refl

or_true : (b : Bool) → b ≡ true → b ≡ (b || true)
or_true true h = refl
or_true false h = cc

or_assoc : (a b c : Bool) → ((a || b) || c) ≡ (a || (b || c))
or_assoc true b c = refl
or_assoc false b c = refl

pub has_path-push : (paths : List (List ℕ)) (x y : List ℕ) → has_path (paths ++ x ∷ []) y ≡ (has_path paths y || bytes_eq y x)
has_path-push paths x y = list_any-append (bytes_eq y) paths (x ∷ []) ∙ ap (λ b. has_path paths y || b) (or_false (bytes_eq y x))

insert-present : (keys : List (List ℕ)) (v y : List ℕ) (b : Bool) → bytes_eq y v ≡ b → list_any (bytes_eq v) keys ≡ true → has_path keys y ≡ (has_path keys y || b)
insert-present keys v y false e h = sym (or_false (has_path keys y))
insert-present keys v y true e h = or_true (has_path keys y) (ap (has_path keys) ((bytes_eq-Decides y v).0 e) ∙ h)

insert-by : (keys : List (List ℕ)) (v y : List ℕ) (b : Bool) → list_any (bytes_eq v) keys ≡ b → has_path (if b then keys else keys ++ v ∷ []) y ≡ (has_path keys y || bytes_eq y v)
insert-by keys v y true h = insert-present keys v y (bytes_eq y v) refl h
insert-by keys v y false h = has_path-push keys v y

pub has_path-insert : (keys : List (List ℕ)) (v y : List ℕ) → has_path (insert_key bytes_eq keys v) y ≡ (has_path keys y || bytes_eq y v)
has_path-insert keys v y = insert-by keys v y (list_any (bytes_eq v) keys) refl

-- a set with one more of the names
pub names_more : (keys first names : List (List ℕ)) (v x y : List ℕ) → v ≡ x → has_path keys y ≡ (has_path first y || has_path names y)
    → has_path (insert_key bytes_eq keys v) y ≡ (has_path first y || has_path (names ++ x ∷ []) y)
names_more keys first names v x y same h =
    has_path-insert keys v y ∙ ap (λ z. has_path keys y || bytes_eq y z) same ∙ ap (λ b. b || bytes_eq y x) h
    ∙ or_assoc (has_path first y) (has_path names y) (bytes_eq y x) ∙ ap (λ b. has_path first y || b) (sym (has_path-push names x y))

-- what a name that is none of some paths adds to one of these
pub skipped : (among paths : List (List ℕ)) (x path : List ℕ) → has_path among x ≡ false → has_path among path ≡ true → has_path paths path ≡ (has_path paths path || bytes_eq path x)
skipped among paths x path absent there = by (bytes_eq path x) refl
  where
    by : (b : Bool) → bytes_eq path x ≡ b → has_path paths path ≡ (has_path paths path || b)
    by false e = sym (or_false (has_path paths path))
    by true e =
        let same : path ≡ x = (bytes_eq-Decides path x).0 e in
        let wrong : false ≡ true = sym absent ∙ sym (ap (has_path among) same) ∙ there in
        cc

-- paths with one more
pub one_more : (first names : List (List ℕ)) (x path : List ℕ) (b : Bool) → b ≡ (has_path first path || has_path names path)
    → (b || bytes_eq path x) ≡ (has_path first path || has_path (names ++ x ∷ []) path)
one_more first names x path b h =
    ap (λ c. c || bytes_eq path x) h ∙ or_assoc (has_path first path) (has_path names path) (bytes_eq path x)
    ∙ ap (λ c. has_path first path || c) (sym (has_path-push names x path))

-- three lists in turn
pub three_more : (b : Bool) (xs ys zs : List (List ℕ)) (path : List ℕ) → (((b || has_path xs path) || has_path ys path) || has_path zs path) ≡ (b || has_path (xs ++ ys ++ zs) path)
three_more true xs ys zs path = refl
three_more false xs ys zs path =
    ap (λ c. c || has_path zs path) (sym (list_any-append (bytes_eq path) xs ys)) ∙ sym (list_any-append (bytes_eq path) (xs ++ ys) zs)

-- one test in place of another that agrees with it on the paths
pub filter-agreed : (p q : List ℕ → Bool) (xs : List (List ℕ)) → ((x : List ℕ) → has_path xs x ≡ true → p x ≡ q x) → filter p xs ≡ filter q xs
filter-agreed p q [] same = refl
filter-agreed p q (x ∷ xs) same =
    let here : has_path (x ∷ xs) x ≡ true = ap (λ b. b || has_path xs x) ((bytes_eq-Decides x x).1 refl) in
    let rest = filter-agreed p q xs (λ y there. same y (or_later (bytes_eq y x) (has_path xs y) there)) in
    (λ i. cond (same x here i) (x ∷ rest i) (rest i))
  where
    or_later : (a b : Bool) → b ≡ true → (a || b) ≡ true
    or_later true b h = refl
    or_later false b h = h

-- one test in place of an equal one
pub filter-same : (p q : List ℕ → Bool) → ((x : List ℕ) → p x ≡ q x) → (xs : List (List ℕ)) → filter p xs ≡ filter q xs
filter-same p q same [] = refl
filter-same p q same (x ∷ xs) = (λ i. cond (same x i) (x ∷ filter-same p q same xs i) (filter-same p q same xs i))

is-none : {A : Type 0} (xs : List A) → is_empty xs ≡ true → xs ≡ []
is-none [] h = refl
is-none (x ∷ xs) h = cc

append_nil : {A : Type 0} (xs : List A) → xs ++ [] ≡ xs
append_nil [] = refl
append_nil (x ∷ xs) = ap (λ ys. x ∷ ys) (append_nil xs)

-- a text that is one run of bytes stands for these
pub literal-stands : (text rest : List PieceValue) (piece : Piece) (bytes : Bor (List ℕ)) → text ≡ seen_piece piece ++ rest → is_empty rest ≡ true → piece ≡ Literal bytes
    → (look_up : List ℕ → List ℕ) → expanded look_up text ≡ bytes.now
literal-stands text rest piece bytes is none literal look_up =
    ap (expanded look_up) (is ∙ (λ i. seen_piece (literal i) ++ is-none rest none i) ∙ append_nil (map Byte bytes.now)) ∙ expanded-bytes look_up bytes.now
