-- What leads somewhere is what reaches a node that passes.
use Rattle.std.proofs.Common.{◌≡◌, ◌≢◌, ℕ, ◌+◌, ◌-◌, ◌<◌, ◌≤◌, zero, suc, Bool, true, false, cond, ◌||◌, List, [], ◌∷◌, length, Contains, ◌⊎◌, inl, inr, refl, sym, ap, subst, ◌∙◌, arith}
use Rattle.std.specs.List.{list_any}
use Rattle.std.proofs.lemmas.Bool.{cases_lt, cases_eq}
use Rattle.std.proofs.lemmas.List.{get_or_past}
use Rattle.std.proofs.lemmas.List.Folds.{list_any_at}
use Rattle.std.proofs.lemmas.List.Elements.{Contains-get_or, Contains-append_right}
use Rattle.rev_ranks.specs.Graph.{successors_of, Steps, Reaches, Reaches.step, Reaches.further}
use Rattle.rev_ranks.specs.Leads.{leads_within, leads_to, ReachesOne, LeadsExactly}

pub or-cases : (a b : Bool) → (a || b) ≡ true → (a ≡ true) ⊎ (b ≡ true)
or-cases true b h = inl refl
or-cases false b h = inr h

pub or-left : (a b : Bool) → a ≡ true → (a || b) ≡ true
or-left true b h = refl
or-left false b h = cc

pub or-right : (a b : Bool) → b ≡ true → (a || b) ≡ true
or-right true b h = refl
or-right false b h = h

-- an item that passes
pub record Passing (p : ℕ → Bool) (xs : List ℕ) : Type 0 where
  pub item : ℕ
  pub there : Contains xs item
  pub passes : p item ≡ true

passing-by : (p : ℕ → Bool) (x : ℕ) (xs : List ℕ) → (p x ≡ true) ⊎ (list_any p xs ≡ true) → (list_any p xs ≡ true → Passing p xs) → Passing p (x ∷ xs)
passing-by p x xs (inl here) rest = record { item = x; there = Contains-get_or (x ∷ xs) 0 x (omega arith); passes = here }
passing-by p x xs (inr later) rest =
    let f = rest later in
    record { item = f.item; there = Contains-append_right (x ∷ []) xs f.item f.there; passes = f.passes }

pub passing : (p : ℕ → Bool) (xs : List ℕ) → list_any p xs ≡ true → Passing p xs
passing p [] h = cc
passing p (x ∷ xs) h = passing-by p x xs (or-cases (p x) (list_any p xs) h) (passing p xs)

pub any-passes : (p : ℕ → Bool) (xs : List ℕ) (x : ℕ) → Contains xs x → p x ≡ true → list_any p xs ≡ true
any-passes p xs x (k, within, at) h = list_any_at p xs k x within (ap p at ∙ h)

-- a step to what passes or leads on
step-on : (graph : List (List ℕ)) (test : ℕ → Bool) (most n s : ℕ) → Steps graph n s → (test s || leads_within graph test most s) ≡ true → leads_within graph test (suc most) n ≡ true
step-on graph test most n s h k = any-passes (λ next. test next || leads_within graph test most next) (successors_of graph n) s h k

-- what is said to lead somewhere does
sound-by : (graph : List (List ℕ)) (test : ℕ → Bool) (n s : ℕ) → Steps graph n s → (test s ≡ true) ⊎ ReachesOne graph test s → ReachesOne graph test n
sound-by graph test n s h (inl here) = record { other = s; way = step h; passes = here }
sound-by graph test n s h (inr on) = record { other = on.other; way = further h on.way; passes = on.passes }

sound : (graph : List (List ℕ)) (test : ℕ → Bool) (most n : ℕ) → leads_within graph test most n ≡ true → ReachesOne graph test n
sound graph test zero n h =
    let no : false ≡ true = h in
    cc
sound graph test (suc most) n h =
    let f = passing (λ next. test next || leads_within graph test most next) (successors_of graph n) h in
    sound-by graph test n f.item f.there (elim (or-cases (test f.item) (leads_within graph test most f.item) f.passes) [ inl here ↦ inl here | inr on ↦ inr (sound graph test most f.item on) ])

-- a greater bound sees no less
more : (graph : List (List ℕ)) (test : ℕ → Bool) (most n : ℕ) → leads_within graph test most n ≡ true → leads_within graph test (suc most) n ≡ true
more graph test zero n h =
    let no : false ≡ true = h in
    cc
more graph test (suc most) n h =
    let f = passing (λ next. test next || leads_within graph test most next) (successors_of graph n) h in
    step-on graph test (suc most) n f.item f.there (elim (or-cases (test f.item) (leads_within graph test most f.item) f.passes) [
      | inl here ↦ or-left (test f.item) (leads_within graph test (suc most) f.item) here
      | inr on ↦ or-right (test f.item) (leads_within graph test (suc most) f.item) (more graph test most f.item on)
    ])

more_on : (graph : List (List ℕ)) (test : ℕ → Bool) (n most extra : ℕ) → leads_within graph test most n ≡ true → leads_within graph test (extra + most) n ≡ true
more_on graph test n most zero h = subst (λ k. leads_within graph test k n ≡ true) (let e : most ≡ 0 + most = omega arith in e) h
more_on graph test n most (suc extra) h =
    subst (λ k. leads_within graph test k n ≡ true) (let e : suc (extra + most) ≡ suc extra + most = omega arith in e) (more graph test (extra + most) n (more_on graph test n most extra h))

-- a bound that sees as much as the next
abbrev IsStable : List (List ℕ) → (ℕ → Bool) → ℕ → Type 0
IsStable graph test most = (n : ℕ) → leads_within graph test (suc most) n ≡ true → leads_within graph test most n ≡ true

-- it sees all
stable-sees : (graph : List (List ℕ)) (test : ℕ → Bool) (most : ℕ) → IsStable graph test most → {n m : ℕ} → Reaches graph n m → test m ≡ true → leads_within graph test most n ≡ true
stable-sees graph test most stable {n} {m} (step h) passes = stable n (step-on graph test most n m h (or-left (test m) (leads_within graph test most m) passes))
stable-sees graph test most stable {n} (further {s = s} h way) passes =
    stable n (step-on graph test most n s h (or-right (test s) (leads_within graph test most s) (stable-sees graph test most stable way passes)))

-- how many numbers below a bound pass
abbrev count : (ℕ → Bool) → ℕ → ℕ
count p zero = 0
count p (suc n) = cond (p n) (count p n + 1) (count p n)

count-within : (p : ℕ → Bool) (n : ℕ) → count p n ≤ n
count-within p zero = omega arith
count-within p (suc n) = by (p n) (count p n) (count-within p n)
  where
    by : (b : Bool) (k : ℕ) → k ≤ n → cond b (k + 1) k ≤ suc n
    by true k h = omega arith
    by false k h = omega arith

grown-by : (a b : Bool) (j k : ℕ) → (a ≡ true → b ≡ true) → j ≤ k → cond a (j + 1) j ≤ cond b (k + 1) k
grown-by true true j k h le = omega arith
grown-by true false j k h le =
    let no : false ≡ true = h refl in
    cc
grown-by false true j k h le = omega arith
grown-by false false j k h le = le

count-grows : (p q : ℕ → Bool) → ((n : ℕ) → p n ≡ true → q n ≡ true) → (n : ℕ) → count p n ≤ count q n
count-grows p q h zero = omega arith
count-grows p q h (suc n) = grown-by (p n) (q n) (count p n) (count q n) (h n) (count-grows p q h n)

one-more : (a b : Bool) (j k : ℕ) → a ≡ false → b ≡ true → j ≤ k → cond a (j + 1) j < cond b (k + 1) k
one-more true b j k none some le = cc
one-more false true j k none some le = omega arith
one-more false false j k none some le = cc

less-by : (a b : Bool) (j k : ℕ) → (a ≡ true → b ≡ true) → j < k → cond a (j + 1) j < cond b (k + 1) k
less-by true true j k h lt = omega arith
less-by true false j k h lt =
    let no : false ≡ true = h refl in
    cc
less-by false true j k h lt = omega arith
less-by false false j k h lt = lt

strict-by : (p q : ℕ → Bool) (n i : ℕ) → ((k : ℕ) → p k ≡ true → q k ≡ true) → i < suc n → p i ≡ false → q i ≡ true → (i < n → count p n < count q n) → (i ≡ n) ⊎ (i ≢ n) → count p (suc n) < count q (suc n)
strict-by p q n i h within none some rest (inl same) =
    one-more (p n) (q n) (count p n) (count q n) (ap p (sym same) ∙ none) (ap q (sym same) ∙ some) (count-grows p q h n)
strict-by p q n i h within none some rest (inr other) = less-by (p n) (q n) (count p n) (count q n) (h n) (rest (omega arith))

count-rises : (p q : ℕ → Bool) → ((k : ℕ) → p k ≡ true → q k ≡ true) → (n i : ℕ) → i < n → p i ≡ false → q i ≡ true → count p n < count q n
count-rises p q h zero i within none some = absurd (omega arith)
count-rises p q h (suc n) i within none some = strict-by p q n i h within none some (λ less. count-rises p q h n i less none some) (cases_eq i n)

-- where one test passes and another does not
record Gap (p q : ℕ → Bool) (n : ℕ) : Type 0 where
  place : ℕ
  within : place < n
  none : p place ≡ false
  some : q place ≡ true

abbrev NoGap : (ℕ → Bool) → (ℕ → Bool) → ℕ → Type 0
NoGap p q n = (k : ℕ) → k < n → q k ≡ true → p k ≡ true

wider : (p q : ℕ → Bool) (n : ℕ) → Gap p q n → Gap p q (suc n)
wider p q n g = record { place = g.place; within = omega (arith, g.within); none = g.none; some = g.some }

no-more : (p q : ℕ → Bool) (n : ℕ) → NoGap p q n → (q n ≡ true → p n ≡ true) → NoGap p q (suc n)
no-more p q n below here k within some =
    elim (cases_eq k n) [
      | inl same ↦ ap p same ∙ here (ap q (sym same) ∙ some)
      | inr other ↦ below k (omega arith) some
    ]

gap-at : (p q : ℕ → Bool) (n : ℕ) (a b : Bool) → p n ≡ a → q n ≡ b → NoGap p q n ⊎ Gap p q n → NoGap p q (suc n) ⊎ Gap p q (suc n)
gap-at p q n a b pa qb (inr g) = inr (wider p q n g)
gap-at p q n true b pa qb (inl below) = inl (no-more p q n below (λ _. pa))
gap-at p q n false false pa qb (inl below) = inl (no-more p q n below (λ some. let no : false ≡ true = sym qb ∙ some in cc))
gap-at p q n false true pa qb (inl below) = inr (record { place = n; within = omega arith; none = pa; some = qb })

gap : (p q : ℕ → Bool) (n : ℕ) → NoGap p q n ⊎ Gap p q n
gap p q zero = inl (λ k within some. absurd (omega arith))
gap p q (suc n) = gap-at p q n (p n) (q n) refl refl (gap p q n)

-- what is no node leads nowhere
past : (graph : List (List ℕ)) (test : ℕ → Bool) (most n : ℕ) → length graph ≤ n → leads_within graph test most n ≡ true → ⊥
past graph test most n h r = no-way (sound graph test most n r).way
  where
    no-step : (s : ℕ) → Steps graph n s → ⊥
    no-step s (k, within, at) = omega (arith, within, ap length (get_or_past graph n [] h))

    no-way : {m : ℕ} → Reaches graph n m → ⊥
    no-way {m} (step s) = no-step m s
    no-way (further {s = s} first way) = no-step s first

stable-or : (graph : List (List ℕ)) (test : ℕ → Bool) (most : ℕ) → IsStable graph test most ⊎ (count (leads_within graph test most) (length graph) < count (leads_within graph test (suc most)) (length graph))
stable-or graph test most =
    elim (gap (leads_within graph test most) (leads_within graph test (suc most)) (length graph)) [
      | inl none ↦ inl (λ n r. elim (cases_lt n (length graph)) [ inl within ↦ none n within r | inr out ↦ absurd (past graph test (suc most) n (omega arith) r) ])
      | inr g ↦ inr (count-rises (leads_within graph test most) (leads_within graph test (suc most)) (more graph test most) (length graph) g.place g.within g.none g.some)
    ]

-- a stable bound
record Stable (graph : List (List ℕ)) (test : ℕ → Bool) (most : ℕ) : Type 0 where
  bound : ℕ
  within : bound ≤ most
  is : IsStable graph test bound

climb-by : (graph : List (List ℕ)) (test : ℕ → Bool) (most : ℕ) → most ≤ count (leads_within graph test most) (length graph)
    → IsStable graph test most ⊎ (count (leads_within graph test most) (length graph) < count (leads_within graph test (suc most)) (length graph))
    → Stable graph test (suc most) ⊎ (suc most ≤ count (leads_within graph test (suc most)) (length graph))
climb-by graph test most h (inl stable) = inl (record { bound = most; within = omega arith; is = stable })
climb-by graph test most h (inr rises) = inr (omega arith)

climb-on : (graph : List (List ℕ)) (test : ℕ → Bool) (most : ℕ) → Stable graph test most ⊎ (most ≤ count (leads_within graph test most) (length graph))
    → Stable graph test (suc most) ⊎ (suc most ≤ count (leads_within graph test (suc most)) (length graph))
climb-on graph test most (inl s) = inl (record { bound = s.bound; within = omega (arith, s.within); is = s.is })
climb-on graph test most (inr h) = climb-by graph test most h (stable-or graph test most)

climb : (graph : List (List ℕ)) (test : ℕ → Bool) (most : ℕ) → Stable graph test most ⊎ (most ≤ count (leads_within graph test most) (length graph))
climb graph test zero = inr (omega arith)
climb graph test (suc most) = climb-on graph test most (climb graph test most)

last-by : (graph : List (List ℕ)) (test : ℕ → Bool) → length graph ≤ count (leads_within graph test (length graph)) (length graph)
    → IsStable graph test (length graph) ⊎ (count (leads_within graph test (length graph)) (length graph) < count (leads_within graph test (suc (length graph))) (length graph)) → Stable graph test (length graph)
last-by graph test h (inl stable) = record { bound = length graph; within = omega arith; is = stable }
last-by graph test h (inr rises) = absurd (omega (arith, count-within (leads_within graph test (suc (length graph))) (length graph)))

-- some bound up to the number of nodes is stable
stable-there : (graph : List (List ℕ)) (test : ℕ → Bool) → Stable graph test (length graph)
stable-there graph test = elim (climb graph test (length graph)) [ inl s ↦ s | inr h ↦ last-by graph test h (stable-or graph test (length graph)) ]

-- so what reaches a node that passes is seen to
complete : (graph : List (List ℕ)) (test : ℕ → Bool) (n m : ℕ) → Reaches graph n m → test m ≡ true → leads_within graph test (length graph) n ≡ true
complete graph test n m way passes =
    let s = stable-there graph test in
    let e : (length graph - s.bound) + s.bound ≡ length graph = omega (arith, s.within) in
    subst (λ k. leads_within graph test k n ≡ true) e (more_on graph test n s.bound (length graph - s.bound) (stable-sees graph test s.bound s.is way passes))

pub leads-sound : (graph : List (List ℕ)) (test : ℕ → Bool) (n : ℕ) → leads_to graph test n ≡ true → ReachesOne graph test n
unfolding leads_to
leads-sound graph test n h = sound graph test (length graph) n h

pub leads-complete : (graph : List (List ℕ)) (test : ℕ → Bool) (n m : ℕ) → Reaches graph n m → test m ≡ true → leads_to graph test n ≡ true
unfolding leads_to
leads-complete graph test n m way passes = complete graph test n m way passes

pub leads-exactly : LeadsExactly
leads-exactly graph test node = (leads-sound graph test node, λ r. leads-complete graph test node r.other r.way r.passes)
