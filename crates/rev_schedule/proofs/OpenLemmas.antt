-- The outputs of an edge are ready: what is known of inputs, and which edges become ready.
use Rattle.std.proofs.Common.{◌≡◌, ℕ, ◌<◌, Bool, true, false, cond, inl, inr, List, [], length, get_or, set, sym, subst, ap, ◌∙◌, arith, eqb, get_or-set_other, get_or-set_same}
use Rattle.std.specs.Global.{Vec}
use Rattle.std.specs.List.{Contains}
use Rattle.std.specs.List.Sorted.{IsPermutation, IsSortedBy}
use Rattle.std.specs.Ordering.{nat_cmp, ordering_then, is_lt}
use Rattle.std.proofs.lemmas.Bool.{cases_eq, cases_lt}
use Rattle.std.proofs.lemmas.List.{get_or_default, get_or-map}
use Rattle.std.proofs.lemmas.List.Sorted.{Contains-permutation, IsPermutation-sym, sum_by-IsPermutation}
use Rattle.rev_ranks.specs.Graph.{graph_of, successors_of}
use Rattle.rev_schedule.specs.declared.job.Build.{Build}
use Rattle.rev_schedule.specs.Builds.{edges_of, makers_of, turn_of}
use Rattle.rev_schedule.specs.Inputs.{is_through, Sees, IsKnown, IsLooked}
use Rattle.rev_schedule.specs.Ninja.{AllThrough, BecomeReady}
use Rattle.rev_schedule.specs.Turns.{Turn}
use Rattle.rev_schedule.proofs.TurnLemmas.{rising}

-- the list of a node
pub list-of : (xs : List (Vec ℕ)) (n : ℕ) (v : Vec ℕ) → n < length xs → v ≡ get_or xs n v → successors_of (graph_of xs) n ≡ v.items
list-of xs n v h e = get_or-map (λ (w : Vec ℕ). w.items) xs n v [] h ∙ ap (λ (w : Vec ℕ). w.items) (sym e)

-- a mark stays where another one is made
pub still-through : (through : List Bool) (e m : ℕ) → e < length through → get_or through m false ≡ true → get_or (set through e true) m false ≡ true
still-through through e m h is = elim (cases_eq m e) [
  | inl same ↦ subst (λ k. get_or (set through e true) k false ≡ true) (sym same) (get_or-set_same through e true false h)
  | inr other ↦ get_or-set_other through e m true false other ∙ is
]

both-ways : (b : Bool) → b ≡ true → b ≡ false → ⊥
both-ways b t f = cc

module _ (build : Build) (through : List Bool) (missing : List ℕ) (known : IsKnown build through missing) (e : ℕ) (in' : e < length through) where
  pub sees-opened : Sees build (set through e true) missing
  sees-opened = record {
    length_is = known.sees.length_is;
    within = known.sees.within;
    passed = λ edge k h lt. still-through through e (get_or (makers_of build edge) k 0) in' (known.sees.passed edge k h lt);
  }

  module _ (users : List ℕ) (back : (u : ℕ) → Contains (makers_of build u) e → Contains users u) (after : List ℕ) (turns : List Turn) (is : IsLooked build (set through e true) users missing after turns) where
    to_come-opened : (u : ℕ) → u < edges_of build → get_or after u 0 < length (makers_of build u) → is_through build (set through e true) u (get_or after u 0) ≡ false
    to_come-opened u h less =
        let k : ℕ = get_or missing u 0 in
        let maker : ℕ = get_or (makers_of build u) k 0 in
        let before_less : k < length (makers_of build u) = omega (arith, is.rises u) in
        elim (cases_eq maker e) [
          | inl same ↦ is.to_come u (back u (k, before_less, get_or_default (makers_of build u) k e 0 before_less ∙ same)) less
          | inr other ↦ elim (cases_lt k (get_or after u 0)) [
            | inl risen ↦ absurd (both-ways (get_or through maker false)
                (sym (get_or-set_other through e maker true false other) ∙ is.sees.passed u k h risen) (known.to_come u h before_less))
            | inr stays ↦
                let there : get_or after u 0 ≡ k = omega (arith, is.rises u) in
                subst (λ j. is_through build (set through e true) u j ≡ false) (sym there) (get_or-set_other through e maker true false other ∙ known.to_come u h before_less)
          ]
        ]

    pub known-opened : IsKnown build (set through e true) after
    known-opened = record { sees = is.sees; to_come = to_come-opened }

    all-through : (u : ℕ) → u < edges_of build → get_or after u 0 ≡ length (makers_of build u) → AllThrough build (set through e true) u
    all-through u h full = λ k d lt. subst (λ m. get_or (set through e true) m false ≡ true) (get_or_default (makers_of build u) k 0 d lt) (is.sees.passed u k h (omega arith))

    full-of : (u : ℕ) → u < edges_of build → AllThrough build (set through e true) u → get_or after u 0 ≡ length (makers_of build u)
    full-of u h all = elim (cases_lt (get_or after u 0) (length (makers_of build u))) [
      | inl lt ↦ absurd (both-ways _ (all (get_or after u 0) 0 lt) (to_come-opened u h lt))
      | inr ge ↦ omega (arith, is.sees.within u h)
    ]

    was-less : (u : ℕ) → u < edges_of build → (AllThrough build through u → ⊥) → get_or missing u 0 < length (makers_of build u)
    was-less u h not = elim (cases_lt (get_or missing u 0) (length (makers_of build u))) [
      | inl lt ↦ lt
      | inr ge ↦ absurd (not (λ k d lt. subst (λ m. get_or through m false ≡ true) (get_or_default (makers_of build u) k 0 d lt) (known.sees.passed u k h (omega arith))))
    ]

    was-not : (u : ℕ) → u < edges_of build → get_or missing u 0 < length (makers_of build u) → AllThrough build through u → ⊥
    was-not u h lt all = both-ways _ (all (get_or missing u 0) 0 lt) (known.to_come u h lt)

    pub become : (sorted : List Turn) → IsPermutation turns sorted → IsSortedBy (λ x y. is_lt (ordering_then (nat_cmp x.0 y.0) (nat_cmp x.1 y.1))) sorted
        → BecomeReady build (turn_of build) (λ u. AllThrough build (set through e true) u × (AllThrough build through u → ⊥)) sorted
    become sorted perm up = record {
      each = λ u h to. Contains-permutation turns sorted (turn_of build u) perm (is.each u h (was-less u h to.1) (full-of u h to.0));
      only = λ t h.
          let o = is.only t (Contains-permutation sorted turns t (IsPermutation-sym turns sorted perm) h) in
          (o.0, o.1, (all-through t.1 o.0 o.3, was-not t.1 o.0 o.2));
      once = λ u. omega (arith, is.once u, sum_by-IsPermutation (λ (t : Turn). cond (eqb t.1 u) 1 0) turns sorted perm);
      in_turn = rising sorted up;
    }
