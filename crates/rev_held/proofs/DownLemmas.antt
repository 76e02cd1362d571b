-- One more number on the way down.
use Rattle.std.proofs.Common.{◌≡◌, ℕ, zero, suc, ◌+◌, ◌<◌, ◌≤◌, length, get_or, drop, Bool, true, false, cond, ◌&&◌, List, [], ◌∷◌, ◌++◌, reverse, Option, Some, None, inl, inr, refl, sym, ap, subst, ◌∙◌, arith, append_assoc, nat_lt}
use Rattle.std.specs.Prelude.{filter, find}
use Rattle.std.specs.List.{AllByRecursion}
use Rattle.std.proofs.Math.Seq.{drop-cons}
use Rattle.std.proofs.lemmas.Bool.{lt-ltb, ltb-false, ltb-true}
use Rattle.std.proofs.lemmas.List.{map-append}
use Rattle.std.proofs.lemmas.List.Elements.{filter-append}
use mathlib.Core.List.{reverse-cons}
use Rattle.rev_causal.specs.Order.{Has}
use Rattle.rev_causal.specs.Store.{conflict}
use Rattle.rev_causal.proofs.Chosen.{All-append, IsRising-filter}
use Rattle.rev_cells.specs.Keys.{cell_cmp}
use Rattle.rev_footprint.specs.Value.{FootprintValue, print_of}
use Rattle.rev_history.specs.Timeline.{IsHistory, Timeline, kept_footprint}
use Rattle.rev_held.specs.Dependence.{depends_on, holds_between}
use Rattle.rev_held.specs.Firsts.{AreFirsts, IsDown, first_where, on_way, passes}
use Rattle.rev_held.specs.Laws.{IsFalling}
use Rattle.rev_held.specs.Ways.{first_on, found_on, ways_down, ways_to}
use Rattle.rev_held.specs.declared.firsts.Firsts.{Firsts}
use Rattle.rev_held.proofs.NameLemmas.{depends-not}
use Rattle.rev_held.proofs.SeveralLemmas.{never-on}
use Rattle.rev_held.proofs.WayLemmas.{all-of, falling-reverse, of-reverse}

-- NUMBERS THAT FALL
-- what comes later is below
falling-above : (xs ys : List ℕ) (one : ℕ) → IsFalling (xs ++ one ∷ ys) → AllByRecursion (λ k. one < k) xs
falling-above [] ys one falls = tt
falling-above (x ∷ xs) ys one falls = (at xs falls.0, falling-above xs ys one falls.1)
  where
    at : (zs : List ℕ) → AllByRecursion (λ y. y < x) (zs ++ one ∷ ys) → one < x
    at [] all = all.0
    at (z ∷ zs) all = at zs all.1

-- and without one they fall too
falling-without : (xs ys : List ℕ) (one : ℕ) → IsFalling (xs ++ one ∷ ys) → IsFalling (xs ++ ys)
falling-without [] ys one falls = falls.1
falling-without (x ∷ xs) ys one falls = (at xs falls.0, falling-without xs ys one falls.1)
  where
    at : (zs : List ℕ) → AllByRecursion (λ y. y < x) (zs ++ one ∷ ys) → AllByRecursion (λ y. y < x) (zs ++ ys)
    at [] all = all.1
    at (z ∷ zs) all = (all.0, at zs all.1)

-- the first parts fall
falling-first : (xs ys : List ℕ) → IsFalling (xs ++ ys) → IsFalling xs
falling-first [] ys falls = tt
falling-first (x ∷ xs) ys falls = (at xs falls.0, falling-first xs ys falls.1)
  where
    at : (zs : List ℕ) → AllByRecursion (λ y. y < x) (zs ++ ys) → AllByRecursion (λ y. y < x) zs
    at [] all = tt
    at (z ∷ zs) all = (all.0, at zs all.1)

find-same-in : (p q : ℕ → Bool) (xs : List ℕ) → AllByRecursion (λ x. p x ≡ q x) xs → find p xs ≡ find q xs
find-same-in p q [] all = refl
find-same-in p q (x ∷ xs) all = λ i. cond (all.0 i) (Some x) (find-same-in p q xs all.1 i)

find-nothing : (p : ℕ → Bool) (xs : List ℕ) → AllByRecursion (λ x. p x ≡ false) xs → find p xs ≡ None
find-nothing p [] all = refl
find-nothing p (x ∷ xs) all = ap (λ b. cond b (Some x) (find p xs)) all.0 ∙ find-nothing p xs all.1

all-more : (P Q : ℕ → Type 0) (xs : List ℕ) → ((x : ℕ) → P x → Q x) → AllByRecursion P xs → AllByRecursion Q xs
all-more P Q [] f all = tt
all-more P Q (x ∷ xs) f all = (f x all.0, all-more P Q xs f all.1)

-- ONE NUMBER
-- where it is not kept, none depends on it
pub on-none : (t : Timeline) (one : ℕ) (others : List ℕ) → kept_footprint t one ≡ None → first_on t one others ≡ None
on-none t one others none = find-nothing (λ other. depends_on t one other) others (all others)
  where
    all : (xs : List ℕ) → AllByRecursion (λ other. depends_on t one other ≡ false) xs
    all [] = tt
    all (x ∷ xs) = (never-on t one x none, all xs)

-- of those above it the first that conflicts with it is the first that depends on it
pub on-kept : (t : Timeline) (one : ℕ) (f : FootprintValue) (xs ys : List ℕ) → Some f ≡ kept_footprint t one → IsFalling (xs ++ one ∷ ys)
    → first_where t (λ g. conflict cell_cmp (print_of f) (print_of g)) xs ≡ first_on t one xs
on-kept t one f xs ys kept falls =
    find-same-in (λ other. passes (λ g. conflict cell_cmp (print_of f) (print_of g)) (kept_footprint t other)) (λ other. depends_on t one other) xs
    (all-more (λ k. one < k) (λ other. passes (λ g. conflict cell_cmp (print_of f) (print_of g)) (kept_footprint t other) ≡ depends_on t one other) xs same (falling-above xs ys one falls))
  where
    is : (o : Option FootprintValue) → passes (λ g. conflict cell_cmp (print_of f) (print_of g)) o ≡ holds_between (λ f g. conflict cell_cmp (print_of f) (print_of g)) (Some f) o
    is None = refl
    is (Some g) = refl

    same : (other : ℕ) → one < other → passes (λ g. conflict cell_cmp (print_of f) (print_of g)) (kept_footprint t other) ≡ depends_on t one other
    same other less =
        is (kept_footprint t other)
        ∙ (λ i. sym (lt-ltb one other less) i && holds_between (λ f g. conflict cell_cmp (print_of f) (print_of g)) (kept i) (kept_footprint t other))

-- it is passed by
pub down-without : (t : Timeline) (n one : ℕ) (ones : List ℕ) (firsts : Firsts) (pairs : List (ℕ × ℕ)) → first_on t one (on_way n pairs) ≡ None
    → IsDown t n (one ∷ ones) firsts pairs → IsDown t n ones firsts pairs
down-without t n one ones firsts pairs none down = record {
  all =
      ap (λ o. pairs ++ found_on one o (ways_down t (on_way n pairs) ones) (ways_down t (on_way n pairs ++ one ∷ []) ones)) (sym none)
      ∙ down.all;
  falls = falling-without (on_way n pairs) ones one down.falls;
  noted = down.noted;
}

on-way-more : (n one other : ℕ) (pairs : List (ℕ × ℕ)) → on_way n (pairs ++ (one, other) ∷ []) ≡ on_way n pairs ++ one ∷ []
on-way-more n one other pairs = ap (λ ks. n ∷ ks) (map-append (λ (pair : ℕ × ℕ). pair.0) pairs ((one, other) ∷ []))

-- it is added
pub down-with : (t : Timeline) (n one other : ℕ) (ones : List ℕ) (firsts more : Firsts) (pairs after : List (ℕ × ℕ)) → Some other ≡ first_on t one (on_way n pairs)
    → after ≡ pairs ++ (one, other) ∷ [] → AreFirsts t (on_way n pairs ++ one ∷ []) more → IsDown t n (one ∷ ones) firsts pairs → IsDown t n ones more after
down-with t n one other ones firsts more pairs after found pushed noted down = record {
  all =
      (λ i. pushed i ++ ways_down t (way i) ones)
      ∙ append_assoc pairs ((one, other) ∷ []) (ways_down t (on_way n pairs ++ one ∷ []) ones)
      ∙ ap (λ o. pairs ++ found_on one o (ways_down t (on_way n pairs) ones) (ways_down t (on_way n pairs ++ one ∷ []) ones)) found
      ∙ down.all;
  falls = subst IsFalling (sym (ap (λ ks. ks ++ ones) way ∙ append_assoc (on_way n pairs) (one ∷ []) ones)) down.falls;
  noted = subst (λ ks. AreFirsts t ks more) (sym way) noted;
}
  where
    way : on_way n after ≡ on_way n pairs ++ one ∷ []
    way = ap (on_way n) pushed ∙ on-way-more n one other pairs

pub way-falls : (t : Timeline) (n one : ℕ) (ones : List ℕ) (firsts : Firsts) (pairs : List (ℕ × ℕ)) → IsDown t n (one ∷ ones) firsts pairs → IsFalling (on_way n pairs)
way-falls t n one ones firsts pairs down = falling-first (on_way n pairs) (one ∷ ones) down.falls

-- those that are left
pub next-one : (xs : List ℕ) (i : ℕ) → i < length xs → drop i xs ≡ get_or xs i 0 ∷ drop (i + 1) xs
next-one xs i within = drop-cons xs i 0 within ∙ ap (λ j. get_or xs i 0 ∷ drop j xs) (let e : suc i ≡ i + 1 = omega arith in e)

pub none-left : (xs : List ℕ) (i : ℕ) → length xs ≤ i → drop i xs ≡ []
none-left [] zero h = refl
none-left [] (suc i) h = refl
none-left (x ∷ xs) zero h = absurd (omega (arith, h))
none-left (x ∷ xs) (suc i) h = none-left xs i (omega (arith, h))

-- BEGIN AND END
filter-reverse : (p : ℕ → Bool) (xs : List ℕ) → filter p (reverse xs) ≡ reverse (filter p xs)
filter-reverse p [] = refl
filter-reverse p (x ∷ xs) =
    ap (filter p) (reverse-cons x xs) ∙ filter-append p (reverse xs) (x ∷ []) ∙ ap (λ ys. ys ++ filter p (x ∷ [])) (filter-reverse p xs) ∙ by (p x)
  where
    nothing : (ys : List ℕ) → ys ++ [] ≡ ys
    nothing [] = refl
    nothing (y ∷ ys) = ap (λ zs. y ∷ zs) (nothing ys)

    by : (b : Bool) → reverse (filter p xs) ++ cond b (x ∷ []) [] ≡ reverse (cond b (x ∷ filter p xs) (filter p xs))
    by true = sym (reverse-cons x (filter p xs))
    by false = nothing (reverse (filter p xs))

-- nothing is found at numbers that are not below
ways-below : (t : Timeline) (n : ℕ) (found ones : List ℕ) → AllByRecursion (λ k. k ≤ n) found → ways_down t found (filter (λ k. nat_lt k n) ones) ≡ ways_down t found ones
ways-below t n found [] all = refl
ways-below t n found (one ∷ ones) all =
    by (nat_lt one n) refl (ways-below t n found ones all) (λ within. ways-below t n (found ++ one ∷ []) ones (All-append (λ k. k ≤ n) found (one ∷ []) all (within, tt)))
  where
    by : (b : Bool) → nat_lt one n ≡ b → ways_down t found (filter (λ k. nat_lt k n) ones) ≡ ways_down t found ones
        → (one ≤ n → ways_down t (found ++ one ∷ []) (filter (λ k. nat_lt k n) ones) ≡ ways_down t (found ++ one ∷ []) ones)
        → ways_down t found (cond b (one ∷ filter (λ k. nat_lt k n) ones) (filter (λ k. nat_lt k n) ones)) ≡ ways_down t found (one ∷ ones)
    by true e same more =
        let less = ltb-true one n e in
        let within : one ≤ n = omega (arith, less) in
        (λ i. found_on one (first_on t one found) (same i) (more within i))
    by false e same more =
        let none : first_on t one found ≡ None = find-nothing (λ other. depends_on t one other) found
        (all-more (λ k. k ≤ n) (λ other. depends_on t one other ≡ false) found (λ other h. let above = ltb-false one n e in sym (depends-not t one other (omega (arith, h, above)))) all) in
        same ∙ ap (λ o. found_on one o (ways_down t found ones) (ways_down t (found ++ one ∷ []) ones)) (sym none)

has-filter : (p : ℕ → Bool) (xs : List ℕ) (a : ℕ) → Has (filter p xs) a → p a ≡ true
has-filter p [] a h = absurd h
has-filter p (x ∷ xs) a h = by (p x) refl h (has-filter p xs a)
  where
    by : (b : Bool) → p x ≡ b → Has (cond b (x ∷ filter p xs) (filter p xs)) a → (Has (filter p xs) a → p a ≡ true) → p a ≡ true
    by true e (inl same) rest = ap p (sym same) ∙ e
    by true e (inr k) rest = rest k
    by false e k rest = rest k

-- nothing is found yet
pub down-first : (t : Timeline) (n : ℕ) (down : List ℕ) (firsts : Firsts) (pairs : List (ℕ × ℕ)) → IsHistory t → down ≡ reverse (filter (λ kept. nat_lt kept n) t.kept)
    → AreFirsts t (n ∷ []) firsts → pairs ≡ [] → IsDown t n down firsts pairs
down-first t n down firsts pairs history is noted none =
    subst (λ ps. IsDown t n down firsts ps) (sym none)
    (subst (λ ones. IsDown t n ones firsts []) (sym is) (record {
      all =
          ap (ways_down t (n ∷ [])) (sym (filter-reverse below t.kept))
          ∙ ways-below t n (n ∷ []) (reverse t.kept) (omega arith, tt);
      falls = (
        all-of (λ y. y < n) (reverse (filter below t.kept)) (λ a h. ltb-true a n (has-filter below t.kept a (of-reverse (filter below t.kept) a h))),
        falling-reverse (filter below t.kept) (IsRising-filter below t.kept history.rising),
      );
      noted = noted;
    }))
  where
    below : ℕ → Bool
    below k = nat_lt k n

-- all is found
pub down-last : (t : Timeline) (n : ℕ) (firsts : Firsts) (pairs : List (ℕ × ℕ)) → IsDown t n [] firsts pairs → pairs ≡ ways_to t n
down-last t n firsts pairs down = sym (nothing pairs) ∙ down.all
  where
    nothing : (ys : List (ℕ × ℕ)) → ys ++ [] ≡ ys
    nothing [] = refl
    nothing (y ∷ ys) = ap (λ zs. y ∷ zs) (nothing ys)
