-- How a depth-first walk goes on.
use Rattle.std.proofs.Common.{◌≡◌, ◌≢◌, ℕ, ◌+◌, ◌<◌, ◌≤◌, zero, suc, Bool, true, false, List, [], ◌∷◌, ◌++◌, length, get_or, set, take, replicate, if◌then◌else◌, ◌⊎◌, inl, inr, refl, sym, ap, subst, ◌∙◌, arith}
use Rattle.std.specs.List.{Contains}
use Rattle.std.proofs.lemmas.Bool.{cases_lt, cases_eq}
use Rattle.std.proofs.lemmas.List.{get_or_append_left, get_or_push, get_or-set_same, get_or-set_other, get_or_default, get_or-replicate, length-set, length_push, length-replicate, take-append-le, take_all}
use Rattle.std.proofs.lemmas.List.Elements.{Contains-get_or, Contains-push, Contains-push_cases, Contains-append_left}
use Rattle.rev_ranks.specs.Graph.{successors_of, Reaches, Reaches.step, Steps}
use Rattle.rev_ranks.specs.Sets.{IsMarked, unmarked}
use Rattle.rev_ranks.specs.Walks.{at, steps_left, work_left, IsLeaving, IsWalk}
use Rattle.rev_ranks.proofs.Ways.{reaches_more}
use Rattle.rev_ranks.proofs.Marks.{marked_kept, marked_none, marked_only, marked_same, marked_within, unmarked_less}

-- PLACES IN A LIST AND ONE MORE
-- the numbers of a list with one more: an old one, or the new one at the end
place-cases : (xs : List ℕ) (x j : ℕ) → j < length (xs ++ x ∷ []) → ((j < length xs) × (at (xs ++ x ∷ []) j ≡ at xs j)) ⊎ ((j ≡ length xs) × (at (xs ++ x ∷ []) j ≡ x))
place-cases xs x j h = elim (cases_lt j (length xs)) [
  | inl below ↦ inl (below, get_or_append_left xs (x ∷ []) 0 j below)
  | inr past ↦
      let same : j ≡ length xs = omega (arith, h, length_push xs x) in
      inr (same, get_or_push xs x 0 j (sym same))
]

-- a relation of two numbers at rising places, with one more to which it holds from all
pairs-push : (R : ℕ → ℕ → Type 0) (xs : List ℕ) (x : ℕ) → ((i j : ℕ) → i < j → j < length xs → R (at xs i) (at xs j)) → ((i : ℕ) → i < length xs → R (at xs i) x) → (i j : ℕ) → i < j → j < length (xs ++ x ∷ []) → R (at (xs ++ x ∷ []) i) (at (xs ++ x ∷ []) j)
pairs-push R xs x was new i j lt within = elim (place-cases xs x j within) [
  | inl old ↦ subst (λ (n : ℕ). R n (at (xs ++ x ∷ []) j)) (sym (get_or_append_left xs (x ∷ []) 0 i (omega (arith, lt, old.0)))) (subst (R (at xs i)) (sym old.1) (was i j lt old.0))
  | inr end ↦
      let below : i < length xs = omega (arith, lt, end.0) in
      subst (λ (n : ℕ). R n (at (xs ++ x ∷ []) j)) (sym (get_or_append_left xs (x ∷ []) 0 i below)) (subst (R (at xs i)) (sym end.1) (new i below))
]

pairs-pop : (R : ℕ → ℕ → Type 0) (xs : List ℕ) (x : ℕ) → ((i j : ℕ) → i < j → j < length (xs ++ x ∷ []) → R (at (xs ++ x ∷ []) i) (at (xs ++ x ∷ []) j)) → (i j : ℕ) → i < j → j < length xs → R (at xs i) (at xs j)
pairs-pop R xs x was i j lt within =
    subst (λ (n : ℕ). R n (at xs j)) (get_or_append_left xs (x ∷ []) 0 i (omega (arith, lt, within)))
    (subst (R (at (xs ++ x ∷ []) i)) (get_or_append_left xs (x ∷ []) 0 j within) (was i j lt (omega (arith, within, length_push xs x))))

-- to the last from all before it
pairs-last : (R : ℕ → ℕ → Type 0) (xs : List ℕ) (x n : ℕ) → ((i j : ℕ) → i < j → j < length (xs ++ x ∷ []) → R (at (xs ++ x ∷ []) i) (at (xs ++ x ∷ []) j)) → Contains xs n → R n x
pairs-last R xs x n was (k, within, is) =
    let last : at (xs ++ x ∷ []) (length xs) ≡ x = get_or_push xs x 0 (length xs) refl in
    let there : at (xs ++ x ∷ []) k ≡ n = get_or_append_left xs (x ∷ []) 0 k within ∙ get_or_default xs k 0 n within ∙ is in
    subst (λ (m : ℕ). R m x) there (subst (R (at (xs ++ x ∷ []) k)) last (was k (length xs) within (omega (arith, length_push xs x))))

-- NODES THAT ARE LEFT
pub leaving-none : (graph : List (List ℕ)) → IsLeaving graph []
leaving-none graph = record { once = λ i j lt within. absurd (omega (arith, within)); closed = λ i n s within. absurd (omega (arith, within)) }

module _ (graph : List (List ℕ)) (left : List ℕ) (w : ℕ) where
  pub leaving-more : IsLeaving graph left → (Contains left w → ⊥) → ((n s : ℕ) → Contains (left ++ w ∷ []) n → Steps graph n s → Contains (left ++ w ∷ []) s ⊎ Reaches graph s w) → IsLeaving graph (left ++ w ∷ [])
  leaving-more was new closed = record {
    once = pairs-push (λ n m. n ≢ m) left w was.once (λ i below same. new (subst (Contains left) same (Contains-get_or left i 0 below)));
    closed = λ i n s within there st. elim (place-cases left w i within) [
      | inl old ↦
          let front : take (i + 1) (left ++ w ∷ []) ≡ take (i + 1) left = take-append-le (i + 1) left (w ∷ []) (omega (arith, old.0)) in
          elim (was.closed i n s old.0 (subst (λ (xs : List ℕ). Contains xs n) front there) st) [
            | inl in' ↦ inl (subst (λ (xs : List ℕ). Contains xs s) (sym front) in')
            | inr way ↦ inr (subst (Reaches graph s) (sym old.1) way)
          ]
      | inr end ↦
          let whole : take (i + 1) (left ++ w ∷ []) ≡ left ++ w ∷ [] = take_all (i + 1) (left ++ w ∷ []) (omega (arith, end.0, length_push left w)) in
          elim (closed n s (subst (λ (xs : List ℕ). Contains xs n) whole there) st) [
            | inl in' ↦ inl (subst (λ (xs : List ℕ). Contains xs s) (sym whole) in')
            | inr way ↦ inr (subst (Reaches graph s) (sym end.1) way)
          ]
    ];
  }

  pub leaving-less : IsLeaving graph (left ++ w ∷ []) → IsLeaving graph left
  leaving-less was = record {
    once = pairs-pop (λ n m. n ≢ m) left w was.once;
    closed = λ i n s within there st.
        let front : take (i + 1) (left ++ w ∷ []) ≡ take (i + 1) left = take-append-le (i + 1) left (w ∷ []) (omega (arith, within)) in
        let place : at (left ++ w ∷ []) i ≡ at left i = get_or_append_left left (w ∷ []) 0 i within in
        elim (was.closed i n s (omega (arith, within, length_push left w)) (subst (λ (xs : List ℕ). Contains xs n) (sym front) there) st) [
          | inl in' ↦ inl (subst (λ (xs : List ℕ). Contains xs s) front in')
          | inr way ↦ inr (subst (Reaches graph s) place way)
        ];
  }

  pub leaving-once : IsLeaving graph (left ++ w ∷ []) → Contains left w → ⊥
  leaving-once was there = pairs-last (λ n m. n ≢ m) left w w was.once there refl

-- THE WALK
pub marked-not : (marks : List Bool) (n : ℕ) → get_or marks n false ≡ false → IsMarked marks n → ⊥
marked-not marks n fresh seen =
    let both : false ≡ true = sym fresh ∙ seen in
    cc

module _ (graph : List (List ℕ)) where
  pub walk-none : (met : List Bool) (taken path left : List ℕ) → met ≡ replicate (length graph) false → taken ≡ replicate (length graph) 0 → path ≡ [] → left ≡ [] → IsWalk graph met taken path left
  walk-none met taken path left mets takens paths lefts = rw (mets, takens, paths, lefts) (record {
    each_met = length-replicate (length graph) false;
    each_taken = length-replicate (length graph) 0;
    known = λ n h. absurd (marked_none (length graph) n h);
    left_met = λ n c. absurd (omega (arith, c.1));
    path_met = λ n c. absurd (omega (arith, c.1));
    apart = λ n c d. omega (arith, c.1);
    leads = λ i j lt within. absurd (omega (arith, within));
    once = λ i j lt within. absurd (omega (arith, within));
    untaken = λ n h. untaken n;
    followed = λ n k c. absurd (omega (arith, c.1));
    closed = λ n s c. absurd (omega (arith, c.1));
    leaving = leaving-none graph;
    few = unmarked-all (length graph);
  })
    where
      untaken : (n : ℕ) → at (replicate (length graph) 0) n ≡ 0
      untaken n = elim (cases_lt n (length graph)) [ inl below ↦ get_or-replicate (length graph) n 0 0 below | inr past ↦ zeros (length graph) n ]
        where
          zeros : (k n : ℕ) → at (replicate k 0) n ≡ 0
          zeros zero n = refl
          zeros (suc k) zero = refl
          zeros (suc k) (suc n) = zeros k n

      unmarked-all : (k : ℕ) → unmarked (replicate k false) + 0 ≡ k
      unmarked-all zero = refl
      unmarked-all (suc k) = omega (arith, unmarked-all k)

  -- it meets a node to which all of its path leads
  pub walk-adds : (met : List Bool) (taken path left : List ℕ) (x : ℕ) → IsWalk graph met taken path left → get_or met x false ≡ false → x < length graph → ((i : ℕ) → i < length path → Reaches graph (at path i) x) → IsWalk graph (set met x true) taken (path ++ x ∷ []) left
  walk-adds met taken path left x was fresh within leads = record {
    each_met = length-set met x true ∙ was.each_met;
    each_taken = was.each_taken;
    known = λ n h. elim (marked_only met x n h) [
      | inl old ↦ elim (was.known n old) [ inl c ↦ inl c | inr c ↦ inr (Contains-append_left path (x ∷ []) n c) ]
      | inr same ↦ inr (subst (Contains (path ++ x ∷ [])) same (Contains-push path x))
    ];
    left_met = λ n c. marked_kept met x n (was.left_met n c);
    path_met = λ n c. elim (Contains-push_cases path x n c) [
      | inl old ↦ marked_kept met x n (was.path_met n old)
      | inr same ↦ subst (IsMarked (set met x true)) same (marked_same met x (omega (arith, within, was.each_met)))
    ];
    apart = λ n c d. elim (Contains-push_cases path x n d) [
      | inl old ↦ was.apart n c old
      | inr same ↦ marked-not met x fresh (was.left_met x (subst (Contains left) (sym same) c))
    ];
    leads = pairs-push (Reaches graph) path x was.leads leads;
    once = pairs-push (λ n m. n ≢ m) path x was.once (λ i below same. marked-not met x fresh (subst (IsMarked met) same (was.path_met (at path i) (Contains-get_or path i 0 below))));
    untaken = λ n h. was.untaken n (before n h);
    followed = λ n k c lt below. elim (Contains-push_cases path x n c) [
      | inl old ↦ marked_kept met x (at (successors_of graph n) k) (was.followed n k old lt below)
      | inr same ↦ absurd (omega (arith, lt, was.untaken x fresh, ap (at taken) same))
    ];
    closed = λ n s c st. marked_kept met x s (was.closed n s c st);
    leaving = was.leaving;
    few = omega (arith, was.few, length_push path x, unmarked_less met x (omega (arith, within, was.each_met)) fresh);
  }
    where
      before : (n : ℕ) → get_or (set met x true) n false ≡ false → get_or met n false ≡ false
      before n h = by (get_or met n false) refl
        where
          by : (b : Bool) → get_or met n false ≡ b → get_or met n false ≡ false
          by true e = absurd (marked-not (set met x true) n h (marked_kept met x n e))
          by false e = e

  -- it takes a step of a node of its path to a node that it has met
  pub walk-steps : (met : List Bool) (taken path left : List ℕ) (n k : ℕ) → IsWalk graph met taken path left → Contains path n → k ≡ at taken n → IsMarked met (at (successors_of graph n) k) → IsWalk graph met (set taken n (k + 1)) path left
  walk-steps met taken path left n k was there is seen = record {
    each_met = was.each_met;
    each_taken = length-set taken n (k + 1) ∙ was.each_taken;
    known = was.known;
    left_met = was.left_met;
    path_met = was.path_met;
    apart = was.apart;
    leads = was.leads;
    once = was.once;
    untaken = λ m h. elim (cases_eq m n) [
      | inl same ↦ absurd (marked-not met m h (subst (IsMarked met) (sym same) (was.path_met n there)))
      | inr other ↦ get_or-set_other taken n m (k + 1) 0 other ∙ was.untaken m h
    ];
    followed = λ m j c lt below. elim (cases_eq m n) [
      | inl same ↦
          let here : at (set taken n (k + 1)) m ≡ k + 1 = ap (at (set taken n (k + 1))) same ∙ get_or-set_same taken n (k + 1) 0 within in
          elim (cases_lt j k) [
            | inl old ↦ was.followed m j c (omega (arith, old, is, ap (at taken) same)) below
            | inr new ↦
                let last : k ≡ j = omega (arith, lt, here, new) in
                subst (λ i. IsMarked met (at (successors_of graph m) i)) last (subst (λ i. IsMarked met (at (successors_of graph i) k)) (sym same) seen)
          ]
      | inr other ↦ was.followed m j c (omega (arith, lt, get_or-set_other taken n m (k + 1) 0 other)) below
    ];
    closed = was.closed;
    leaving = was.leaving;
    few = was.few;
  }
    where
      within : n < length taken
      within = omega (arith, was.each_taken, was.each_met, marked_within met n (was.path_met n there))

  -- it leaves the end of its path
  pub walk-leaves : (met : List Bool) (taken path left : List ℕ) (n : ℕ) → IsWalk graph met taken (path ++ n ∷ []) left → length (successors_of graph n) ≤ at taken n → IsWalk graph met taken path (left ++ n ∷ [])
  walk-leaves met taken path left n was all = record {
    each_met = was.each_met;
    each_taken = was.each_taken;
    known = λ m h. elim (was.known m h) [
      | inl c ↦ inl (Contains-append_left left (n ∷ []) m c)
      | inr c ↦ elim (Contains-push_cases path n m c) [ inl old ↦ inr old | inr same ↦ inl (subst (Contains (left ++ n ∷ [])) same (Contains-push left n)) ]
    ];
    left_met = λ m c. elim (Contains-push_cases left n m c) [ inl old ↦ was.left_met m old | inr same ↦ subst (IsMarked met) same (was.path_met n (Contains-push path n)) ];
    path_met = λ m c. was.path_met m (Contains-append_left path (n ∷ []) m c);
    apart = λ m c d. elim (Contains-push_cases left n m c) [
      | inl old ↦ was.apart m old (Contains-append_left path (n ∷ []) m d)
      | inr same ↦ pairs-last (λ a b. a ≢ b) path n m was.once d (sym same)
    ];
    leads = pairs-pop (Reaches graph) path n was.leads;
    once = pairs-pop (λ a b. a ≢ b) path n was.once;
    untaken = was.untaken;
    followed = λ m k c. was.followed m k (Contains-append_left path (n ∷ []) m c);
    closed = λ m s c st. elim (Contains-push_cases left n m c) [ inl old ↦ was.closed m s old st | inr same ↦ steps-met s (subst (λ i. Steps graph i s) (sym same) st) ];
    leaving = leaving-more graph left n was.leaving (λ c. was.apart n c (Contains-push path n)) (λ m s c st. there s (elim (Contains-push_cases left n m c) [ inl old ↦ was.closed m s old st | inr same ↦ steps-met s (subst (λ i. Steps graph i s) (sym same) st) ]));
    few = omega (arith, was.few, length_push path n, length_push left n);
  }
    where
      steps-met : (s : ℕ) → Steps graph n s → IsMarked met s
      steps-met s (k, below, is) =
          subst (IsMarked met) (get_or_default (successors_of graph n) k 0 s below ∙ is) (was.followed n k (Contains-push path n) (omega (arith, below, all)) below)

      there : (s : ℕ) → IsMarked met s → Contains (left ++ n ∷ []) s ⊎ Reaches graph s n
      there s h = elim (was.known s h) [
        | inl c ↦ inl (Contains-append_left left (n ∷ []) s c)
        | inr c ↦ elim (Contains-push_cases path n s c) [
          | inl old ↦ inr (pairs-last (Reaches graph) path n s was.leads old)
          | inr same ↦ inl (subst (Contains (left ++ n ∷ [])) same (Contains-push left n))
        ]
      ]

  -- it meets the next node of the end of its path
  pub walk-meets : (met : List Bool) (taken path left : List ℕ) (n k x : ℕ) → IsWalk graph met taken (path ++ n ∷ []) left → k ≡ at taken n → k < length (successors_of graph n) → x ≡ at (successors_of graph n) k → x < length graph → get_or met x false ≡ false → IsWalk graph (set met x true) (set taken n (k + 1)) ((path ++ n ∷ []) ++ x ∷ []) left
  walk-meets met taken path left n k x was is below next within fresh =
      walk-steps (set met x true) taken ((path ++ n ∷ []) ++ x ∷ []) left n k
      (walk-adds met taken (path ++ n ∷ []) left x was fresh within leads)
      (Contains-append_left (path ++ n ∷ []) (x ∷ []) n (Contains-push path n)) is
      (subst (IsMarked (set met x true)) next (marked_same met x (omega (arith, within, was.each_met))))
    where
      steps : Steps graph n x
      steps = subst (Steps graph n) (sym next) (Contains-get_or (successors_of graph n) k 0 below)

      leads : (i : ℕ) → i < length (path ++ n ∷ []) → Reaches graph (at (path ++ n ∷ []) i) x
      leads i h = elim (place-cases path n i h) [
        | inl old ↦ reaches_more (subst (Reaches graph (at (path ++ n ∷ []) i)) (get_or_push path n 0 (length path) refl) (was.leads i (length path) old.0 (omega (arith, length_push path n)))) steps
        | inr end ↦ subst (λ m. Reaches graph m x) (sym end.1) (step steps)
      ]

-- a step less to take
pub steps-less : (graph : List (List ℕ)) (taken : List ℕ) (n k : ℕ) → n < length taken → k ≡ at taken n → k < length (successors_of graph n) → steps_left graph (set taken n (k + 1)) + 1 ≡ steps_left graph taken
steps-less [] taken n k within is below = absurd (omega (arith, below))
steps-less (nexts ∷ graph) [] n k within is below = absurd (omega (arith, within))
steps-less (nexts ∷ graph) (t ∷ taken) zero k within is below = omega (arith, is, below)
steps-less (nexts ∷ graph) (t ∷ taken) (suc n) k within is below = omega (arith, steps-less graph taken n k (omega (arith, within)) is below)

-- the walk takes a step of the end of its path, and meets where it leads
module _ (graph : List (List ℕ)) (met : List Bool) (taken path left : List ℕ) (n k x : ℕ) where
  pub walk-goes : IsWalk graph met taken (path ++ n ∷ []) left → k ≡ at taken n → k < length (successors_of graph n) → x ≡ at (successors_of graph n) k → x < length graph
      → (met' : List Bool) (path' : List ℕ) → met' ≡ (if get_or met x false then met else set met x true) → path' ≡ (if get_or met x false then path ++ n ∷ [] else (path ++ n ∷ []) ++ x ∷ [])
      → IsWalk graph met' (set taken n (k + 1)) path' left × (work_left graph met' (set taken n (k + 1)) path' < work_left graph met taken (path ++ n ∷ []))
  walk-goes was is below next within met' path' mets paths = by (get_or met x false) refl mets paths
    where
      less : steps_left graph (set taken n (k + 1)) + 1 ≡ steps_left graph taken
      less = steps-less graph taken n k (omega (arith, was.each_taken, was.each_met, marked_within met n (was.path_met n (Contains-push path n)))) is below

      by : (b : Bool) → get_or met x false ≡ b → met' ≡ (if b then met else set met x true) → path' ≡ (if b then path ++ n ∷ [] else (path ++ n ∷ []) ++ x ∷ [])
          → IsWalk graph met' (set taken n (k + 1)) path' left × (work_left graph met' (set taken n (k + 1)) path' < work_left graph met taken (path ++ n ∷ []))
      by true seen e f = rw (e, f) (
        walk-steps graph met taken (path ++ n ∷ []) left n k was (Contains-push path n) is (subst (IsMarked met) next seen),
        omega (arith, less),
      )
      by false fresh e f = rw (e, f) (
        walk-meets graph met taken path left n k x was is below next within fresh,
        omega (arith, less, unmarked_less met x (omega (arith, within, was.each_met)) fresh, length_push (path ++ n ∷ []) x),
      )

-- the walk meets a root, which it may have met before
module _ (graph : List (List ℕ)) (met : List Bool) (taken path left : List ℕ) (x : ℕ) where
  pub walk-starts : IsWalk graph met taken path left → path ≡ [] → x < length graph → (met' : List Bool) (path' : List ℕ) → met' ≡ (if get_or met x false then met else set met x true) → path' ≡ (if get_or met x false then path else path ++ x ∷ [])
      → IsWalk graph met' taken path' left × IsMarked met' x × ((n : ℕ) → IsMarked met n → IsMarked met' n)
  walk-starts was none within met' path' mets paths = by (get_or met x false) refl mets paths
    where
      by : (b : Bool) → get_or met x false ≡ b → met' ≡ (if b then met else set met x true) → path' ≡ (if b then path else path ++ x ∷ []) → IsWalk graph met' taken path' left × IsMarked met' x × ((n : ℕ) → IsMarked met n → IsMarked met' n)
      by true seen e f = rw (e, f) (was, seen, λ n h. h)
      by false fresh e f = rw (e, f) (
        walk-adds graph met taken path left x was fresh within (λ i h. absurd (omega (arith, h, ap length none))),
        marked_same met x (omega (arith, within, was.each_met)),
        λ n h. marked_kept met x n h,
      )
