-- Marks of direct producers, and places with nothing to tell.
use Rattle.std.proofs.Common.{◌≡◌, ◌≢◌, ℕ, zero, suc, ◌+◌, ◌<◌, ◌≤◌, nat_le, true, List, [], ◌∷◌, ◌++◌, length, get_or, set, take, Option, Some, None, ◌⊎◌, inl, inr, refl, sym, ap, subst, ◌∙◌, arith, Contains}
use Rattle.std.specs.Global.{Vec}
use Rattle.std.proofs.lemmas.Bool.{cases_eq, cases_lt, or_cases, leb-true, and_parts}
use Rattle.std.proofs.lemmas.List.{get_or-map as at-map, length-map, length-set, get_or_default, get_or-set_same, get_or-set_other}
use Rattle.std.proofs.lemmas.List.Elements.{Contains-append_left, Contains-push}
use Rattle.std.proofs.lemmas.List.Folds.{list_any_more}
use Rattle.rev_manifest.specs.Manifest.{BuildValue}
use Rattle.rev_graph.specs.Graph.{successor_lists, EdgeReaches.step as one_edge_step}
use Rattle.rev_graph.proofs.StepLemmas.{edge_step}
use Rattle.rev_ranks.specs.Graph.{Steps, graph_of, successors_of}
use Rattle.rev_waits.specs.Waits.{Waits}
use Rattle.rev_conflicts.specs.Ranges.{has_path, is_in}
use Rattle.rev_observed.specs.declared.path_set.PathRange.{PathRange}
use Rattle.rev_races.specs.Searches.{AreDirect}
use Rattle.rev_conflicts.specs.Tables.{AreNexts, AreQuiet}

-- MARKS OF DIRECT PRODUCERS
pub no-marks : (graph : List (List ℕ)) (marks : List (Option ℕ)) → length marks ≡ length graph → ((k : ℕ) → get_or marks k None ≡ None) → AreDirect graph marks
no-marks graph marks each none = record {
  each = each;
  sound = λ node from h.
      let no : None ≡ Some from = sym (none node) ∙ h in
      cc;
}

pub marked-waits : (builds : List BuildValue) (marks : List (Option ℕ)) (user edge : ℕ) → AreDirect (successor_lists builds) marks → get_or marks edge None ≡ Some user → Waits builds user edge
marked-waits builds marks user edge are is = one_edge_step (edge_step builds user edge (are.sound edge user is))

-- WHO TOUCHES A PLACE, ONE AFTER THE OTHER
abbrev pub IsQuietOne : List BuildValue → List ℕ → ℕ → ℕ → Type 0
IsQuietOne builds edges user c = (get_or edges c 0 ≡ user) ⊎ Waits builds user (get_or edges c 0)

pub quiet-more : (builds : List BuildValue) (edges commands : List ℕ) (user i : ℕ) → IsQuietOne builds edges user (get_or commands i 0) → ((k : ℕ) → k < i → IsQuietOne builds edges user (get_or commands k 0))
    → (k : ℕ) → k < i + 1 → IsQuietOne builds edges user (get_or commands k 0)
quiet-more builds edges commands user i one before k below = elim (cases_eq k i) [
  | inl same ↦ subst (λ n. IsQuietOne builds edges user (get_or commands n 0)) (sym same) one
  | inr other ↦ before k (omega (arith, below, other))
]

pub quiet-all : (builds : List BuildValue) (edges commands : List ℕ) (user n : ℕ) → length commands ≤ n → ((k : ℕ) → k < n → IsQuietOne builds edges user (get_or commands k 0)) → AreQuiet builds edges user commands
quiet-all builds edges commands user n all are c (k, within, at) =
    subst (IsQuietOne builds edges user) (get_or_default commands k 0 c within ∙ at) (are k (omega (arith, within, all)))

pub quiet-none : (builds : List BuildValue) (edges : List ℕ) (user : ℕ) (commands : List ℕ) → ((c : ℕ) → Contains commands c → ⊥) → AreQuiet builds edges user commands
quiet-none builds edges user commands none c h = absurd (none c h)

-- THE NEXT PLACES, FROM THE LAST ON
pub record AreNextsFrom (lists : List (List ℕ)) (nexts : List ℕ) (left : ℕ) : Type 0 where
  pub each : length nexts ≡ length lists + 1
  pub within_left : left ≤ length lists
  pub least : (n : ℕ) → left ≤ n → n ≤ length lists → n ≤ get_or nexts n 0
  pub within : (n : ℕ) → left ≤ n → n ≤ length lists → get_or nexts n 0 ≤ length lists
  pub between : (n p c : ℕ) → left ≤ n → n ≤ p → p < get_or nexts n 0 → Steps lists p c → ⊥

pub nexts-none : (lists : List (List ℕ)) (nexts : List ℕ) → length nexts ≡ length lists + 1 → get_or nexts (length lists) 0 ≡ length lists → AreNextsFrom lists nexts (length lists)
nexts-none lists nexts each last = record {
  each = each;
  within_left = omega arith;
  least = λ n from to. let same : n ≡ length lists = omega (arith, from, to) in subst (λ k. k ≤ get_or nexts k 0) (sym same) (omega (arith, last));
  within = λ n from to. let same : n ≡ length lists = omega (arith, from, to) in subst (λ k. get_or nexts k 0 ≤ length lists) (sym same) (omega (arith, last));
  between = λ n p c from up below step. elim (cases_lt (length lists) n) [
    | inl past ↦ absurd (no-more n p past below)
    | inr to ↦
        let same : n ≡ length lists = omega (arith, from, to) in
        let at : get_or nexts n 0 ≡ length lists = ap (λ k. get_or nexts k 0) same ∙ last in
        absurd (omega (arith, at, below, up, same))
  ];
}
  where
    no-more : (n p : ℕ) → length lists < n → p < get_or nexts n 0 → ⊥
    no-more n p past below = let none : get_or nexts n 0 ≡ 0 = past-end nexts n (omega (arith, past, each)) in omega (arith, none, below)
      where
        past-end : (xs : List ℕ) (n : ℕ) → length xs ≤ n → get_or xs n 0 ≡ 0
        past-end [] n h = refl
        past-end (x ∷ xs) zero h = absurd (omega (arith, h))
        past-end (x ∷ xs) (suc n) h = past-end xs n (omega (arith, h))

pub nexts-start : (lists : List (Vec ℕ)) (nexts : List ℕ) (n : ℕ) → n ≡ length lists → length nexts ≡ n + 1 → AreNextsFrom (graph_of lists) (set nexts n n) n
nexts-start lists nexts n is each =
    let many : length (graph_of lists) ≡ n = length-map lists (λ (v : Vec ℕ). v.items) ∙ sym is in
    let last : get_or (set nexts n n) n 0 ≡ n = get_or-set_same nexts n n 0 (omega (arith, each)) in
    subst (AreNextsFrom (graph_of lists) (set nexts n n)) many
    (nexts-none (graph_of lists) (set nexts n n) (length-set nexts n n ∙ each ∙ ap (λ k. k + 1) (sym many)) (ap (λ k. get_or (set nexts n n) k 0) many ∙ last ∙ sym many))

pub nexts-more : (lists : List (List ℕ)) (nexts all : List ℕ) (left v : ℕ) → AreNextsFrom lists nexts (left + 1) → all ≡ set nexts left v
    → (v ≡ left) ⊎ ((v ≡ get_or nexts (left + 1) 0) × ((c : ℕ) → Steps lists left c → ⊥)) → AreNextsFrom lists all left
nexts-more lists nexts all left v are is step = subst (λ xs. AreNextsFrom lists xs left) (sym is) (record {
  each = length-set nexts left v ∙ are.each;
  within_left = omega (arith, inside);
  least = λ n from to. elim (cases_eq n left) [
    | inl same ↦ subst (λ k. k ≤ get_or (set nexts left v) k 0) (sym same) (subst (λ x. left ≤ x) (sym here) least-here)
    | inr other ↦ subst (λ x. n ≤ x) (sym (there n other)) (are.least n (omega (arith, from, other)) to)
  ];
  within = λ n from to. elim (cases_eq n left) [
    | inl same ↦ subst (λ k. get_or (set nexts left v) k 0 ≤ length lists) (sym same) (subst (λ x. x ≤ length lists) (sym here) within-here)
    | inr other ↦ subst (λ x. x ≤ length lists) (sym (there n other)) (are.within n (omega (arith, from, other)) to)
  ];
  between = λ n p c from up below one. elim (cases_eq n left) [
    | inl same ↦ between-here p c (omega (arith, up, same)) (subst (λ x. p < x) (ap (λ k. get_or (set nexts left v) k 0) same ∙ here) below) one
    | inr other ↦ are.between n p c (omega (arith, from, other)) up (subst (λ x. p < x) (there n other) below) one
  ];
})
  where
    inside : left + 1 ≤ length lists
    inside = are.within_left

    here : get_or (set nexts left v) left 0 ≡ v
    here = get_or-set_same nexts left v 0 (let e = are.each in omega (arith, e, inside))

    there : (n : ℕ) → n ≢ left → get_or (set nexts left v) n 0 ≡ get_or nexts n 0
    there n other = get_or-set_other nexts left n v 0 other

    least-here : left ≤ v
    least-here = elim step [
      | inl same ↦ omega (arith, same)
      | inr both ↦ let e = both.0 in let l = are.least (left + 1) (omega arith) inside in omega (arith, e, l)
    ]

    within-here : v ≤ length lists
    within-here = elim step [
      | inl same ↦ omega (arith, same, inside)
      | inr both ↦ let e = both.0 in let l = are.within (left + 1) (omega arith) inside in omega (arith, e, l)
    ]

    between-here : (p c : ℕ) → left ≤ p → p < v → Steps lists p c → ⊥
    between-here p c up below one = elim step [
      | inl same ↦ absurd (omega (arith, same, up, below))
      | inr both ↦ elim (cases_eq p left) [
        | inl at ↦ both.1 c (subst (λ k. Steps lists k c) at one)
        | inr other ↦ are.between (left + 1) p c (omega arith) (omega (arith, up, other)) (subst (λ x. p < x) both.0 below) one
      ]
    ]

pub nexts-all : (lists : List (List ℕ)) (nexts : List ℕ) (left : ℕ) → left ≡ 0 → AreNextsFrom lists nexts left → AreNexts lists nexts
nexts-all lists nexts left none are = record {
  each = are.each;
  least = λ n to. are.least n (omega (arith, none)) to;
  within = λ n to. are.within n (omega (arith, none)) to;
  between = λ n p c up below one. are.between n p c (omega (arith, none)) up below one;
}

-- WHAT IS FOUND OF A RANGE
-- the next place of one that was read, by its list
pub next-of : (lists : List (Vec ℕ)) (nexts : List ℕ) (left v r : ℕ) (list : Vec ℕ) (now : List ℕ) → left < length lists → AreNextsFrom (graph_of lists) nexts (left + 1) → list ≡ get_or lists left list → now ≡ list.items
    → r ≡ get_or nexts (left + 1) r → (v ≡ left) ⊎ ((v ≡ r) × (length now ≡ 0)) → (v ≡ left) ⊎ ((v ≡ get_or nexts (left + 1) 0) × ((c : ℕ) → Steps (graph_of lists) left c → ⊥))
next-of lists nexts left v r list now within are is same read (inl e) = inl e
next-of lists nexts left v r list now within are is same read (inr both) = inr (
  both.0 ∙ read ∙ get_or_default nexts (left + 1) r 0 (let e = are.each in let w = are.within_left in omega (arith, e, w)),
  λ c h.
      let here : successors_of (graph_of lists) left ≡ list.items = at-map (λ (y : Vec ℕ). y.items) lists left list [] within ∙ sym (ap (λ (y : Vec ℕ). y.items) is) in
      let k = subst (λ (l : List ℕ). Contains l c) (here ∙ sym same) h in
      let w = k.1 in
      let none = both.1 in
      omega (arith, w, none),
)

-- nobody is between a place and the next one
pub between-quiet : (builds : List BuildValue) (edges : List ℕ) (user : ℕ) (lists : List (List ℕ)) (nexts : List ℕ) → AreNexts lists nexts → (n v : ℕ) → n ≤ length lists → v ≡ get_or nexts n v → (p : ℕ) → n ≤ p → p < v
    → AreQuiet builds edges user (successors_of lists p)
between-quiet builds edges user lists nexts are n v within read p up below =
    quiet-none builds edges user (successors_of lists p) (λ c h. are.between n p c up (subst (λ x. p < x) (read ∙ get_or_default nexts n v 0 (let e = are.each in omega (arith, e, within))) below) h)

pub next-within : (lists : List (List ℕ)) (nexts : List ℕ) → AreNexts lists nexts → (n v : ℕ) → n ≤ length lists → v ≡ get_or nexts n v → (n ≤ v) × (v ≤ length lists)
next-within lists nexts are n v within read =
    let is : v ≡ get_or nexts n 0 = read ∙ get_or_default nexts n v 0 (let e = are.each in omega (arith, e, within)) in
    let l = are.least n within in
    let w = are.within n within in
    (omega (arith, is, l), omega (arith, is, w))

-- the place itself, and those up to the next one
pub suspects-more : (Q : ℕ → Type 0) (old new : List ℕ) (first last number next : ℕ) → ((n : ℕ) → first ≤ n → n < number → n ≤ last → Contains old n ⊎ Q n) → ((n : ℕ) → Contains old n → Contains new n)
    → Contains new number ⊎ Q number → ((p : ℕ) → number + 1 ≤ p → p < next → Q p) → (n : ℕ) → first ≤ n → n < next → n ≤ last → Contains new n ⊎ Q n
suspects-more Q old new first last number next before grown here between n from below to = elim (cases_lt n number) [
  | inl less ↦ elim (before n from less to) [ inl c ↦ inl (grown n c) | inr q ↦ inr q ]
  | inr more ↦ elim (cases_eq n number) [
    | inl same ↦ subst (λ k. Contains new k ⊎ Q k) (sym same) here
    | inr other ↦ inr (between n (omega (arith, more, other)) below)
  ]
]

-- one range more
pub rest-ranges : (Q : ℕ → Type 0) (ranges : List PathRange) (i : ℕ) (d : PathRange) (old new : List ℕ) → i < length ranges → ((n : ℕ) → Contains old n → Contains new n)
    → ((n : ℕ) → has_path (take i ranges) n ≡ true → Contains old n ⊎ Q n) → ((n : ℕ) → (get_or ranges i d).first ≤ n → n ≤ (get_or ranges i d).last → Contains new n ⊎ Q n)
    → (n : ℕ) → has_path (take (i + 1) ranges) n ≡ true → Contains new n ⊎ Q n
rest-ranges Q ranges i d old new within grown before here n h = elim (or_cases (has_path (take i ranges) n) (is_in n (get_or ranges i d)) (sym (list_any_more (is_in n) ranges i d within) ∙ h)) [
  | inl was ↦ elim (before n was) [ inl c ↦ inl (grown n c) | inr q ↦ inr q ]
  | inr is ↦
      let both = and_parts (nat_le (get_or ranges i d).first n) (nat_le n (get_or ranges i d).last) is in
      here n (leb-true (get_or ranges i d).first n both.0) (leb-true n (get_or ranges i d).last both.1)
]

-- what one list grows by another
pub grown-by : (old new : List ℕ) (x : ℕ) → new ≡ old ++ x ∷ [] → (n : ℕ) → Contains old n → Contains new n
grown-by old new x is n h = subst (λ (l : List ℕ). Contains l n) (sym is) (Contains-append_left old (x ∷ []) n h)

pub grown-here : (old new : List ℕ) (x : ℕ) → new ≡ old ++ x ∷ [] → Contains new x
grown-here old new x is = subst (λ (l : List ℕ). Contains l x) (sym is) (Contains-push old x)
