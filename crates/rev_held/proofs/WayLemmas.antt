-- What is found on the way down the kept numbers is what a number rests on.
use Rattle.std.proofs.Common.{◌≡◌, ℕ, ◌<◌, ◌≤◌, Bool, true, false, cond, ◌&&◌, List, [], ◌∷◌, ◌++◌, map, reverse, Option, Some, None, ◌⊎◌, inl, inr, refl, sym, ap, subst, ◌∙◌, arith, true≢false}
use Rattle.std.specs.Prelude.{find, nat_eq, nat_lt}
use Rattle.std.specs.List.{AllByRecursion}
use Rattle.std.proofs.lemmas.Bool.{eqb-true, ltb-true}
use mathlib.Core.List.{reverse-cons}
use Rattle.rev_causal.specs.Chosen.{IsRising}
use Rattle.rev_causal.specs.History as causal
use Rattle.rev_causal.specs.Order.{Has}
use Rattle.rev_causal.specs.Store.{conflict}
use Rattle.rev_causal.proofs.Chosen.{All-append, All-chosen}
use Rattle.rev_cells.specs.Keys.{cell_cmp}
use Rattle.rev_cells.specs.State.{State}
use Rattle.rev_manifest.specs.Manifest.{ManifestValue}
use Rattle.rev_events.specs.declared.event.Event.{Event}
use Rattle.rev_events.specs.Machine.{after}
use Rattle.rev_footprint.specs.Footprint.{footprint}
use Rattle.rev_footprint.specs.Value.{FootprintValue, print_of}
use Rattle.rev_history.specs.Timeline.{Numbered, Timeline, footprints_along, kept_events, kept_footprint}
use Rattle.rev_held.specs.Dependence.{depends_on, holds_between}
use Rattle.rev_held.specs.Laws.{IsFalling, WaysAreAll}
use Rattle.rev_held.specs.Ways.{IsLatestOn, IsOnWay, RestsOn, RestsOn.at_once, RestsOn.by_another, first_on, found_on, ways_down, ways_to}

-- LISTS
find-has : {A : Type 0} (p : A → Bool) (xs : List A) (a : A) → Has xs a → p a ≡ true → (b : A) × (find p xs ≡ Some b)
find-has p [] a h q = absurd h
find-has {A} p (x ∷ xs) a h q = by (p x) refl h (λ k. find-has p xs a k q)
  where
    by : (c : Bool) → p x ≡ c → (x ≡ a) ⊎ Has xs a → (Has xs a → (b : A) × (find p xs ≡ Some b)) → (b : A) × (cond c (Some x) (find p xs) ≡ Some b)
    by true e h rest = (x, refl)
    by false e (inl s) rest = absurd (true≢false (sym q ∙ sym (ap p s) ∙ e))
    by false e (inr k) rest = rest k

pub find-is : {A : Type 0} (p : A → Bool) (xs : List A) (b : A) → find p xs ≡ Some b → Has xs b × (p b ≡ true)
find-is p [] b h = absurd (true≢false cc)
find-is p (x ∷ xs) b h = by (p x) refl h (find-is p xs b)
  where
    by : (c : Bool) → p x ≡ c → cond c (Some x) (find p xs) ≡ Some b → (find p xs ≡ Some b → Has xs b × (p b ≡ true)) → ((x ≡ b) ⊎ Has xs b) × (p b ≡ true)
    by true e h rest = let same : x ≡ b = cc in (inl same, sym (ap p same) ∙ e)
    by false e h rest = let k = rest h in (inr k.0, k.1)

pub all-at : (P : ℕ → Type 0) (xs : List ℕ) (a : ℕ) → AllByRecursion P xs → Has xs a → P a
all-at P [] a all h = absurd h
all-at P (x ∷ xs) a all (inl e) = subst P e all.0
all-at P (x ∷ xs) a all (inr k) = all-at P xs a all.1 k

pub all-of : (P : ℕ → Type 0) (xs : List ℕ) → ((a : ℕ) → Has xs a → P a) → AllByRecursion P xs
all-of P [] f = tt
all-of P (x ∷ xs) f = (f x (inl refl), all-of P xs (λ a h. f a (inr h)))

has-left : {A : Type 0} (xs ys : List A) (a : A) → Has xs a → Has (xs ++ ys) a
has-left [] ys a h = absurd h
has-left (x ∷ xs) ys a (inl e) = inl e
has-left (x ∷ xs) ys a (inr k) = inr (has-left xs ys a k)

has-right : {A : Type 0} (xs ys : List A) (a : A) → Has ys a → Has (xs ++ ys) a
has-right [] ys a h = h
has-right (x ∷ xs) ys a h = inr (has-right xs ys a h)

has-parts : {A : Type 0} (xs ys : List A) (a : A) → Has (xs ++ ys) a → Has xs a ⊎ Has ys a
has-parts [] ys a h = inr h
has-parts (x ∷ xs) ys a (inl e) = inl (inl e)
has-parts (x ∷ xs) ys a (inr k) = elim (has-parts xs ys a k) [ inl l ↦ inl (inr l) | inr r ↦ inr r ]

-- LISTS TURNED ROUND
has-reverse : (xs : List ℕ) (a : ℕ) → Has xs a → Has (reverse xs) a
has-reverse [] a h = absurd h
has-reverse (x ∷ xs) a (inl e) = subst (λ (l : List ℕ). Has l a) (sym (reverse-cons x xs)) (has-right (reverse xs) (x ∷ []) a (inl e))
has-reverse (x ∷ xs) a (inr k) = subst (λ (l : List ℕ). Has l a) (sym (reverse-cons x xs)) (has-left (reverse xs) (x ∷ []) a (has-reverse xs a k))

pub of-reverse : (xs : List ℕ) (a : ℕ) → Has (reverse xs) a → Has xs a
of-reverse [] a h = h
of-reverse (x ∷ xs) a h = elim (has-parts (reverse xs) (x ∷ []) a (subst (λ (l : List ℕ). Has l a) (reverse-cons x xs) h)) [
  | inl k ↦ inr (of-reverse xs a k)
  | inr (inl e) ↦ inl e
  | inr (inr k) ↦ absurd k
]

pub falling-push : (ks : List ℕ) (n : ℕ) → IsFalling ks → AllByRecursion (λ k. n < k) ks → IsFalling (ks ++ n ∷ [])
falling-push [] n f a = (tt, tt)
falling-push (k ∷ ks) n f a = (All-append (λ y. y < k) ks (n ∷ []) f.0 (a.0, tt), falling-push ks n f.1 a.1)

pub falling-reverse : (xs : List ℕ) → IsRising xs → IsFalling (reverse xs)
falling-reverse [] r = tt
falling-reverse (x ∷ xs) r =
    subst IsFalling (sym (reverse-cons x xs))
    (falling-push (reverse xs) x (falling-reverse xs r.1) (all-of (λ y. x < y) (reverse xs) (λ a h. all-at (λ y. x < y) xs a r.0 (of-reverse xs a h))))

-- of falling numbers the first that passes is the greatest
first-greatest : (p : ℕ → Bool) (xs : List ℕ) (a b : ℕ) → IsFalling xs → find p xs ≡ Some b → Has xs a → p a ≡ true → a ≤ b
first-greatest p [] a b falls f h q = absurd h
first-greatest p (x ∷ xs) a b falls f h q = by (p x) refl f h (λ g k. first-greatest p xs a b falls.1 g k q)
  where
    by : (c : Bool) → p x ≡ c → cond c (Some x) (find p xs) ≡ Some b → (x ≡ a) ⊎ Has xs a → (find p xs ≡ Some b → Has xs a → a ≤ b) → a ≤ b
    by true e f (inl s) rest = let same : x ≡ b = cc in omega (arith, s, same)
    by true e f (inr k) rest = let same : x ≡ b = cc in let less : a < x = all-at (λ y. y < x) xs a falls.0 k in omega (arith, less, same)
    by false e f (inl s) rest = absurd (true≢false (sym q ∙ sym (ap p s) ∙ e))
    by false e f (inr k) rest = rest f k

-- NUMBERS OF KEPT EVENTS
number-is : (m : ManifestValue) (s : State) (P : ℕ → Type 0) (es : Numbered) (k : ℕ) (f : FootprintValue)
    → AllByRecursion (λ (x : ℕ × Event). P x.0) es → causal.event_at k (footprints_along m s es) ≡ Some f → P k
number-is m s P [] k f all h = absurd (true≢false cc)
number-is m s P (e ∷ es) k f all h = by (nat_eq e.0 k) refl h (number-is m (after m s e.1) P es k f all.1)
  where
    rest : Option FootprintValue
    rest = causal.event_at k (footprints_along m (after m s e.1) es)

    by : (b : Bool) → nat_eq e.0 k ≡ b → cond b (Some (footprint m s e.1)) rest ≡ Some f → (rest ≡ Some f → P k) → P k
    by true is h more = subst P (eqb-true e.0 k is) all.0
    by false is h more = more h

has-footprint : (t : Timeline) (k : ℕ) (f : FootprintValue) → kept_footprint t k ≡ Some f → Has t.kept k
has-footprint t k f h =
    number-is t.manifest t.opening (Has t.kept) (kept_events t) k f (All-chosen (Has t.kept) t.accepted t.kept (all-of (Has t.kept) t.kept (λ a here. here))) h

-- what a number depends on is below it, and kept
record IsBelow (t : Timeline) (k m : ℕ) : Type 0 where
  less : k < m
  kept : Has t.kept k

below : (t : Timeline) (k m : ℕ) → depends_on t k m ≡ true → IsBelow t k m
below t k m h = by (nat_lt k m) (kept_footprint t k) refl refl h
  where
    by : (b : Bool) (o : Option FootprintValue) → nat_lt k m ≡ b → kept_footprint t k ≡ o
        → (b && holds_between (λ f g. conflict cell_cmp (print_of f) (print_of g)) o (kept_footprint t m)) ≡ true → IsBelow t k m
    by false o e is h = absurd (true≢false (sym h))
    by true None e is h = absurd (true≢false (sym h))
    by true (Some f) e is h = record { less = ltb-true k m e; kept = has-footprint t k f is }

rests-below : (t : Timeline) (n k : ℕ) → RestsOn t n k → IsBelow t k n
rests-below t n k (at_once j h) = below t j n h
rests-below t n k (by_another j m r h) =
    let one = below t j m h in
    let other = rests-below t n m r in
    record { less = omega (arith, one.less, other.less); kept = one.kept }

-- THE WAY DOWN
module _ (t : Timeline) (n : ℕ) where
  abbrev keys : List (ℕ × ℕ) → List ℕ
  keys ways = map (λ (way : ℕ × ℕ). way.0) ways

  -- what was found so far, and what is still to be asked
  record IsDown (found ones : List ℕ) : Type 0 where
    start : Has found n
    sound : (m : ℕ) → Has found m → IsOnWay t n m
    whole : (m : ℕ) → RestsOn t n m → Has found m ⊎ Has ones m
    falling : IsFalling found
    above : (m k : ℕ) → Has found m → Has ones k → (n ≡ m) ⊎ (k < m)
    left : IsFalling ones

  -- what is found from there on
  record IsFound (ones : List ℕ) (ways : List (ℕ × ℕ)) : Type 0 where
    sound : (k : ℕ) → Has (keys ways) k → Has ones k × RestsOn t n k
    whole : (k : ℕ) → Has ones k → RestsOn t n k → Has (keys ways) k
    latest : (k m : ℕ) → Has ways (k, m) → IsLatestOn t n k m
    fall : IsFalling (keys ways)

  -- one that rests on nothing found is none that n rests on
  not-found : (one : ℕ) (found ones : List ℕ) → IsDown found (one ∷ ones) → first_on t one found ≡ None → RestsOn t n one → ⊥
  not-found one found ones d none (at_once j h) = absurd (true≢false (ap is (sym none ∙ (find-has (λ other. depends_on t j other) found n d.start h).1)))
    where
      is : Option ℕ → Bool
      is None = true
      is (Some m) = false
  not-found one found ones d none (by_another j m r h) = elim (d.whole m r) [
    | inl here ↦ absurd (true≢false (ap is (sym none ∙ (find-has (λ other. depends_on t j other) found m here h).1)))
    | inr (inl same) ↦ let less = (below t j m h).less in absurd (omega (arith, same, less))
    | inr (inr later) ↦ let less = (below t j m h).less in let fell : m < j = all-at (λ y. y < j) ones m d.left.0 later in absurd (omega (arith, fell, less))
  ]
    where
      is : Option ℕ → Bool
      is None = true
      is (Some m) = false

  on-way : (one other : ℕ) → IsOnWay t n other → depends_on t one other ≡ true → RestsOn t n one
  on-way one other (inl same) h = at_once one (subst (λ m. depends_on t one m ≡ true) (sym same) h)
  on-way one other (inr r) h = by_another one other r h

  -- the first of those found that depends on one is the latest of all
  latest-on : (one other : ℕ) (found ones : List ℕ) → IsDown found (one ∷ ones) → first_on t one found ≡ Some other → IsLatestOn t n one other
  latest-on one other found ones d f = record {
    on_way = d.sound other is.0;
    depends = is.1;
    latest = λ l way h. first-greatest (λ m. depends_on t one m) found l other d.falling f (has l way h) h;
  }
    where
      is : Has found other × (depends_on t one other ≡ true)
      is = find-is (λ m. depends_on t one m) found other f

      has : (l : ℕ) → IsOnWay t n l → depends_on t one l ≡ true → Has found l
      has l (inl same) h = subst (Has found) same d.start
      has l (inr r) h = elim (d.whole l r) [
        | inl here ↦ here
        | inr (inl same) ↦ let less = (below t one l h).less in absurd (omega (arith, same, less))
        | inr (inr later) ↦ let less = (below t one l h).less in let fell : l < one = all-at (λ y. y < one) ones l d.left.0 later in absurd (omega (arith, fell, less))
      ]

  -- with one more that was found, and without one that was not
  down-with : (one : ℕ) (found ones : List ℕ) → IsDown found (one ∷ ones) → RestsOn t n one → IsDown (found ++ one ∷ []) ones
  down-with one found ones d r = record {
    start = has-left found (one ∷ []) n d.start;
    sound = λ m h. elim (has-parts found (one ∷ []) m h) [
      | inl here ↦ d.sound m here
      | inr (inl same) ↦ inr (subst (RestsOn t n) same r)
      | inr (inr none) ↦ absurd none
    ];
    whole = λ m rests. elim (d.whole m rests) [
      | inl here ↦ inl (has-left found (one ∷ []) m here)
      | inr (inl same) ↦ inl (has-right found (one ∷ []) m (inl same))
      | inr (inr later) ↦ inr later
    ];
    falling = falling-push found one d.falling (all-of (λ k. one < k) found (λ m h. elim (d.above m one h (inl refl)) [
      | inl same ↦ subst (λ k. one < k) same (rests-below t n one r).less
      | inr less ↦ less
    ]));
    above = λ m k h later. elim (has-parts found (one ∷ []) m h) [
      | inl here ↦ d.above m k here (inr later)
      | inr (inl same) ↦ inr (subst (λ j. k < j) same (all-at (λ y. y < one) ones k d.left.0 later))
      | inr (inr none) ↦ absurd none
    ];
    left = d.left.1;
  }

  down-without : (one : ℕ) (found ones : List ℕ) → IsDown found (one ∷ ones) → (RestsOn t n one → ⊥) → IsDown found ones
  down-without one found ones d lacks = record {
    start = d.start;
    sound = d.sound;
    whole = λ m rests. elim (d.whole m rests) [
      | inl here ↦ inl here
      | inr (inl same) ↦ absurd (lacks (subst (RestsOn t n) (sym same) rests))
      | inr (inr later) ↦ inr later
    ];
    falling = d.falling;
    above = λ m k h later. d.above m k h (inr later);
    left = d.left.1;
  }

  found-with : (one other : ℕ) (ones : List ℕ) (ways : List (ℕ × ℕ)) → IsFalling (one ∷ ones) → RestsOn t n one → IsLatestOn t n one other
      → IsFound ones ways → IsFound (one ∷ ones) ((one, other) ∷ ways)
  found-with one other ones ways falls r last f = record {
    sound = sound;
    whole = whole;
    latest = latest;
    fall = (all-of (λ y. y < one) (keys ways) (λ k h. all-at (λ y. y < one) ones k falls.0 (f.sound k h).0), f.fall);
  }
    where
      sound : (k : ℕ) → (one ≡ k) ⊎ Has (keys ways) k → ((one ≡ k) ⊎ Has ones k) × RestsOn t n k
      sound k (inl same) = (inl same, subst (RestsOn t n) same r)
      sound k (inr h) = let is = f.sound k h in (inr is.0, is.1)

      whole : (k : ℕ) → (one ≡ k) ⊎ Has ones k → RestsOn t n k → (one ≡ k) ⊎ Has (keys ways) k
      whole k (inl same) rests = inl same
      whole k (inr h) rests = inr (f.whole k h rests)

      latest : (k m : ℕ) → Has ((one, other) ∷ ways) (k, m) → IsLatestOn t n k m
      latest k m (inl same) = subst (λ (way : ℕ × ℕ). IsLatestOn t n way.0 way.1) same last
      latest k m (inr h) = f.latest k m h

  found-without : (one : ℕ) (ones : List ℕ) (ways : List (ℕ × ℕ)) → (RestsOn t n one → ⊥) → IsFound ones ways → IsFound (one ∷ ones) ways
  found-without one ones ways lacks f = record {
    sound = λ k h. let is = f.sound k h in (inr is.0, is.1);
    whole = whole;
    latest = f.latest;
    fall = f.fall;
  }
    where
      whole : (k : ℕ) → (one ≡ k) ⊎ Has ones k → RestsOn t n k → Has (keys ways) k
      whole k (inl same) rests = absurd (lacks (subst (RestsOn t n) (sym same) rests))
      whole k (inr h) rests = f.whole k h rests

  way-down : (ones found : List ℕ) → IsDown found ones → IsFound ones (ways_down t found ones)
  way-down [] found d = record { sound = λ k h. absurd h; whole = λ k h r. absurd h; latest = λ k m h. absurd h; fall = tt }
  way-down (one ∷ ones) found d = by (first_on t one found) refl (λ r. way-down ones (found ++ one ∷ []) (down-with one found ones d r)) (λ lacks. way-down ones found (down-without one found ones d lacks))
    where
      without : List (ℕ × ℕ)
      without = ways_down t found ones

      more_ways : List (ℕ × ℕ)
      more_ways = ways_down t (found ++ one ∷ []) ones

      by : (o : Option ℕ) → first_on t one found ≡ o → (RestsOn t n one → IsFound ones more_ways) → ((RestsOn t n one → ⊥) → IsFound ones without)
          → IsFound (one ∷ ones) (found_on one o without more_ways)
      by (Some other) f more less =
          let last = latest-on one other found ones d f in
          let r = on-way one other last.on_way last.depends in
          found-with one other ones more_ways d.left r last (more r)
      by None f more less =
          let lacks : RestsOn t n one → ⊥ = not-found one found ones d f in
          found-without one ones without lacks (less lacks)

pub ways-are-all : WaysAreAll
ways-are-all t n history = record {
  all = λ k. (λ h. (f.sound k h).1, λ r. f.whole k (has-reverse t.kept k (rests-below t n k r).kept) r);
  fall = f.fall;
  latest = f.latest;
}
  where
    down : IsDown t n (n ∷ []) (reverse t.kept)
    down = record {
      start = inl refl;
      sound = λ m h. elim h [ inl same ↦ inl same | inr none ↦ absurd none ];
      whole = λ m r. inr (has-reverse t.kept m (rests-below t n m r).kept);
      falling = (tt, tt);
      above = λ m k h later. elim h [ inl same ↦ inl same | inr none ↦ absurd none ];
      left = falling-reverse t.kept history.rising;
    }

    f : IsFound t n (reverse t.kept) (ways_to t n)
    f = way-down t n (reverse t.kept) (n ∷ []) down
