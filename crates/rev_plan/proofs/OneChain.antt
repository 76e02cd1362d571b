-- An edge has one chain.
use Rattle.std.proofs.Common.{◌≡◌, ◌≢◌, ℕ, ◌+◌, ◌<◌, ◌≤◌, zero, suc, get_or, set, replicate, Bool, true, false, not, ◌&&◌, List, [], ◌∷◌, ◌++◌, length, map, Contains, Option, Some, None, ◌⊎◌, inl, inr, refl, sym, ap, subst, ◌∙◌, arith, true≢false, if◌then◌else◌}
use Rattle.std.specs.Prelude.{slice_get, option_and_then}
use Rattle.std.specs.List.{position}
use Rattle.std.proofs.lemmas.Bool.{cases_lt}
use Rattle.std.proofs.lemmas.List.{length-replicate, length-set}
use Rattle.std.proofs.lemmas.List.Elements.{Contains-push, Contains-push_cases, Contains-append_left}
use Rattle.std.proofs.lemmas.Option.{slice_get-get_or, get_or_from_slice_get}
use Rattle.rev_manifest.specs.Manifest.{BuildValue}
use Rattle.rev_graph.specs.Graph.{build_at, producer_of}
use Rattle.rev_graph.proofs.GraphLemmas.{producer_of-within}
use Rattle.rev_cells.specs.State.{State, mark_of}
use Rattle.rev_cells.specs.declared.mark.Mark.{Mark}
use Rattle.rev_cells.specs.declared.mark.Mark.TheVariants as mark
use Rattle.rev_dirty.specs.declared.reason.Reason.{Reason}
use Rattle.rev_dirty.specs.Inputs.{InputValue, inputs, counts}
use Rattle.rev_dirty.specs.Reasons.{holds, reasons_of}
use Rattle.rev_ranks.specs.Leads.{is_one_of}
use Rattle.rev_ranks.specs.Sets.{is_marked, unmarked}
use Rattle.rev_ranks.proofs.Marks.{marked_same, marked_kept, marked_only, marked_none, unmarked_less}
use Rattle.rev_ranks.proofs.SetLemmas.{same-tests, one-of, is-one-of}
use Rattle.rev_plan.specs.Chain.{ChainValue, CanGoBy, GoesBy, IsChain, IsChain.unwanted, IsChain.explained, IsChain.stuck, IsChain.stepping, is_wanted_mark, has_wanted_mark, counted_producer, counted_producers, can_follow, next_input, producer_at, step_from, step_before, ends_at, chain_on, chain_by, chain_within, chain_of}
use Rattle.rev_plan.specs.Laws.{OneChain}
use Rattle.rev_plan.proofs.LeastLemmas.{and-both, both-and}
use Rattle.rev_plan.proofs.Searches.{HoldsLeast, PassesAt, position-holds, none-some}

-- MARKS
pub wanted-is : (m : Mark) → is_wanted_mark m ≡ true → m ≡ mark.Wanted
wanted-is mark.Wanted h = refl
wanted-is _ h = cc

not-wanted : (m : Mark) → is_wanted_mark m ≡ false → m ≢ mark.Wanted
not-wanted m h is = true≢false (sym (ap is_wanted_mark is) ∙ h)

not-true : (b : Bool) → not b ≡ true → b ≡ true → ⊥
not-true true h k = true≢false (sym h)
not-true false h k = true≢false (sym k)

true-not : (b : Bool) → (b ≡ true → ⊥) → not b ≡ true
true-not true h = absurd (h refl)
true-not false h = refl

some-reason : (reason : Reason) (rest : List Reason) → reason ∷ rest ≢ []
some-reason reason rest h =
    let no : reason ∷ rest ≡ [] = h in
    cc

-- INPUTS THAT AN EDGE PRODUCES
-- the input at a position is not order-only, and an edge produces it
pub record ProducedAt (builds : List BuildValue) (all : List InputValue) (at next : ℕ) : Type 0 where
  pub input : InputValue
  pub stands_there : slice_get all at ≡ Some input
  pub not_order_only : counts input.kind ≡ true
  pub produced : producer_of builds input.path ≡ Some next

produced-by : (builds : List BuildValue) (input : InputValue) (all : List InputValue) (next : ℕ) (b : Bool) → counts input.kind ≡ b → (if b then producer_of builds input.path else None) ≡ Some next → ProducedAt builds (input ∷ all) 0 next
produced-by builds input all next true e h = record { input = input; stands_there = refl; not_order_only = e; produced = h }
produced-by builds input all next false e h =
    let no : None ≡ Some next = h in
    cc

pub produced-at : (builds : List BuildValue) (all : List InputValue) (at next : ℕ) → get_or (map (counted_producer builds) all) at None ≡ Some next → ProducedAt builds all at next
produced-at builds [] at next h =
    let no : None ≡ Some next = h in
    cc
produced-at builds (input ∷ all) zero next h = produced-by builds input all next (counts input.kind) refl h
produced-at builds (input ∷ all) (suc at) next h =
    let p = produced-at builds all at next h in
    record { input = p.input; stands_there = p.stands_there; not_order_only = p.not_order_only; produced = p.produced }

counted-at : (builds : List BuildValue) (input : InputValue) (b : Bool) → counts input.kind ≡ b → b ≡ true → (if b then producer_of builds input.path else None) ≡ producer_of builds input.path
counted-at builds input true e h = refl
counted-at builds input false e h = absurd (true≢false (sym h))

at-produced : (builds : List BuildValue) (all : List InputValue) (at next : ℕ) → ProducedAt builds all at next → slice_get (map (counted_producer builds) all) at ≡ Some (Some next)
at-produced builds [] at next p =
    let no : None ≡ Some p.input = p.stands_there in
    cc
at-produced builds (input ∷ all) zero next p =
    let same : input ≡ p.input = cc in
    ap Some (counted-at builds input (counts input.kind) refl (ap (λ (i : InputValue). counts i.kind) same ∙ p.not_order_only) ∙ ap (λ (i : InputValue). producer_of builds i.path) same ∙ p.produced)
at-produced builds (input ∷ all) (suc at) next p =
    at-produced builds all at next (record { input = p.input; stands_there = p.stands_there; not_order_only = p.not_order_only; produced = p.produced })

slice-within : {X : Type 0} (xs : List X) (k : ℕ) (x : X) → slice_get xs k ≡ Some x → k < length xs
slice-within [] k x h =
    let no : None ≡ Some x = h in
    cc
slice-within (y ∷ ys) zero x h = omega arith
slice-within (y ∷ ys) (suc k) x h = omega (arith, slice-within ys k x h)

module _ (builds : List BuildValue) (state : State) (chain : List ℕ) (edge : ℕ) where
  abbrev all : List InputValue
  all = inputs state (build_at builds edge)

  abbrev producers : List (Option ℕ)
  producers = counted_producers builds state edge

  abbrev test : Option ℕ → Bool
  test = holds (can_follow state (is_one_of chain))

  -- the chain can go on by the input at a position
  pub record CanGo (at : ℕ) : Type 0 where
    pub next : ℕ
    pub can : CanGoBy builds state chain edge at next

  can-go : (at next : ℕ) → get_or producers at None ≡ Some next → can_follow state (is_one_of chain) next ≡ true → CanGoBy builds state chain edge at next
  can-go at next is h =
      let p = produced-at builds all at next is in
      let both = and-both (has_wanted_mark state next) (not (is_one_of chain next)) h in
      record {
        input = p.input;
        stands_there = p.stands_there;
        not_order_only = p.not_order_only;
        produced = p.produced;
        is_wanted = wanted-is (mark_of state next) both.0;
        not_yet = λ old. not-true (is_one_of chain next) both.1 (is-one-of chain next old);
      }

  at-go : (at next : ℕ) → CanGoBy builds state chain edge at next → slice_get producers at ≡ Some (Some next)
  at-go at next c = at-produced builds all at next (record { input = c.input; stands_there = c.stands_there; not_order_only = c.not_order_only; produced = c.produced })

  go-passes : (at next : ℕ) → CanGoBy builds state chain edge at next → test (Some next) ≡ true
  go-passes at next c =
      both-and (has_wanted_mark state next) (not (is_one_of chain next)) (ap is_wanted_mark c.is_wanted) (true-not (is_one_of chain next) (λ h. c.not_yet (one-of chain next h)))

  passing : (at : ℕ) (o : Option ℕ) → get_or producers at None ≡ o → test o ≡ true → CanGo at
  passing at None is h =
      let no : false ≡ true = h in
      cc
  passing at (Some next) is h = record { next = next; can = can-go at next is h }

  go-holds : HoldsLeast CanGo (next_input builds state (is_one_of chain) edge)
  go-holds =
      position-holds test producers None CanGo (λ k p. passing k (get_or producers k None) refl p.passes)
      (λ k c. record {
        within = slice-within producers k (Some c.next) (at-go k c.next c.can);
        passes = ap test (get_or_from_slice_get producers k (Some c.next) None (at-go k c.next c.can)) ∙ go-passes k c.next c.can;
      })

  producer-is : (at next : ℕ) → CanGoBy builds state chain edge at next → producer_at builds state edge at ≡ Some next
  producer-is at next c = ap (option_and_then (λ (producer : Option ℕ). producer)) (at-go at next c)

  -- where a chain goes from an edge, as a reader knows it
  pub record Step (step : Option (ℕ × ℕ)) : Type 0 where
    pub some : (at next : ℕ) → step ≡ Some (at, next) → GoesBy builds state chain edge at next
    pub none : step ≡ None → (at next : ℕ) → CanGoBy builds state chain edge at next → ⊥

  first-of : ℕ × ℕ → ℕ
  first-of step = step.0

  pair-first : (p q : ℕ × ℕ) → Some p ≡ Some q → p ≡ q
  pair-first p q h = cc

  step-by : (o : Option ℕ) → next_input builds state (is_one_of chain) edge ≡ o → Step (option_and_then (λ at. option_and_then (λ next. Some (at, next)) (producer_at builds state edge at)) o)
  step-by None is = record {
    some = λ at next h. let no : None ≡ Some (at, next) = h in cc;
    none = λ h at next c. go-holds.none is at (record { next = next; can = c });
  }
  step-by (Some k) is =
      let l = go-holds.some k is in
      let made : option_and_then (λ next. Some (k, next)) (producer_at builds state edge k) ≡ Some (k, l.has.next) = ap (option_and_then (λ next. Some (k, next))) (producer-is k l.has.next l.has.can) in
      record {
        some = λ at next h.
            let same : (k, l.has.next) ≡ (at, next) = pair-first (k, l.has.next) (at, next) (sym made ∙ h) in
            subst (λ (p : ℕ × ℕ). GoesBy builds state chain edge p.0 p.1) same
            (record { can = l.has.can; first = λ earlier other less c. l.least earlier less (record { next = other; can = c }) });
        none = λ h at next c. none-some (k, l.has.next) (sym made ∙ h);
      }

  pub step-is : Step (step_from builds state (is_one_of chain) edge)
  step-is = step-by (next_input builds state (is_one_of chain) edge) refl

-- THE CHAIN OF THE FUNCTION IS ONE
-- the edges of a chain have a mark, as many as are left have none, and the next is one of these
pub record IsOnWay (builds : List BuildValue) (marks : List Bool) (before : List ℕ) (edge : ℕ) : Type 0 where
  pub length_is : length marks ≡ length builds
  pub is_edge : edge < length builds
  pub fresh : is_marked marks edge ≡ false
  pub same : (n : ℕ) → is_marked marks n ≡ is_one_of before n

module _ (builds : List BuildValue) (state : State) where
  not-marked : (b : Bool) → (b ≡ true → ⊥) → b ≡ false
  not-marked true h = absurd (h refl)
  not-marked false h = refl

  on-way : (marks : List Bool) (before : List ℕ) (edge at next : ℕ) → IsOnWay builds marks before edge → CanGoBy builds state (before ++ edge ∷ []) edge at next → IsOnWay builds (set marks edge true) (before ++ edge ∷ []) next
  on-way marks before edge at next w c = record {
    length_is = length-set marks edge true ∙ w.length_is;
    is_edge = producer_of-within c.input.path builds next c.produced;
    fresh = not-marked (is_marked (set marks edge true) next) (λ h. c.not_yet (one-of (before ++ edge ∷ []) next (sym (each next) ∙ h)));
    same = each;
  }
    where
      each : (n : ℕ) → is_marked (set marks edge true) n ≡ is_one_of (before ++ edge ∷ []) n
      each n = same-tests (is_marked (set marks edge true) n) (is_one_of (before ++ edge ∷ []) n)
          (λ h. elim (marked_only marks edge n h) [
            | inl old ↦ is-one-of (before ++ edge ∷ []) n (Contains-append_left before (edge ∷ []) n (one-of before n (sym (w.same n) ∙ old)))
            | inr new ↦ is-one-of (before ++ edge ∷ []) n (subst (Contains (before ++ edge ∷ [])) new (Contains-push before edge))
          ])
          (λ h. elim (Contains-push_cases before edge n (one-of (before ++ edge ∷ []) n h)) [
            | inl old ↦ marked_kept marks edge n (w.same n ∙ is-one-of before n old)
            | inr new ↦ subst (λ k. is_marked (set marks edge true) k ≡ true) new (marked_same marks edge (omega (arith, w.is_edge, w.length_is)))
          ])

  module _ (before : List ℕ) (edge : ℕ) (rest : ℕ → ChainValue) (goes : (at next : ℕ) → CanGoBy builds state (before ++ edge ∷ []) edge at next → IsChain builds state (before ++ edge ∷ []) next (rest next)) where
    by-step : mark_of state edge ≡ mark.Wanted → reasons_of builds state edge ≡ [] → (step : Option (ℕ × ℕ)) → Step builds state (before ++ edge ∷ []) edge step → IsChain builds state before edge (chain_on rest edge step)
    by-step is bare None s = stuck is bare (s.none refl)
    by-step is bare (Some (at, next)) s =
        let g = s.some at next refl in
        stepping at next (rest next) is bare g (goes at next g.can)

    by-reasons : mark_of state edge ≡ mark.Wanted → (reasons : List Reason) → reasons_of builds state edge ≡ reasons
        → IsChain builds state before edge (chain_by (step_from builds state (is_one_of (before ++ edge ∷ [])) edge) rest edge reasons)
    by-reasons is [] h = by-step is h (step_from builds state (is_one_of (before ++ edge ∷ [])) edge) (step-is builds state (before ++ edge ∷ []) edge)
    by-reasons is (r ∷ rs) h =
        subst (λ reasons. IsChain builds state before edge (ends_at edge reasons)) h
        (explained is (subst (λ reasons. reasons ≢ []) (sym h) (some-reason r rs)))

    by-mark : (b : Bool) → has_wanted_mark state edge ≡ b
        → IsChain builds state before edge (if b then chain_by (step_from builds state (is_one_of (before ++ edge ∷ [])) edge) rest edge (reasons_of builds state edge) else ends_at edge [])
    by-mark true h = by-reasons (wanted-is (mark_of state edge) h) (reasons_of builds state edge) refl
    by-mark false h = unwanted (not-wanted (mark_of state edge) h)

  less-left : (most n m : ℕ) → m ≡ suc most → n + 1 ≡ m → n ≡ most
  less-left most n m h k = omega (arith, h, k)

  chain-sound : (most : ℕ) (marks : List Bool) (before : List ℕ) (edge : ℕ) → IsOnWay builds marks before edge → unmarked marks ≡ most → IsChain builds state before edge (chain_within builds state most before edge)
  chain-sound zero marks before edge w left =
      let less = unmarked_less marks edge (omega (arith, w.is_edge, w.length_is)) w.fresh in
      absurd (omega (arith, less, left))
  chain-sound (suc most) marks before edge w left =
      let less = unmarked_less marks edge (omega (arith, w.is_edge, w.length_is)) w.fresh in
      by-mark before edge (chain_within builds state most (before ++ edge ∷ []))
      (λ at next c. chain-sound most (set marks edge true) (before ++ edge ∷ []) next (on-way marks before edge at next w c) (less-left most (unmarked (set marks edge true)) (unmarked marks) left less))
      (has_wanted_mark state edge) refl

  unmarked-all : (n : ℕ) → unmarked (replicate n false) ≡ n
  unmarked-all zero = refl
  unmarked-all (suc n) =
      let e : unmarked (replicate n false) + 1 ≡ suc n = omega (arith, unmarked-all n) in
      e

  pub chain-is : (edge : ℕ) → edge < length builds → IsChain builds state [] edge (chain_of builds state edge)
  unfolding chain_of
  chain-is edge within =
      let none : List Bool = replicate (length builds) false in
      chain-sound (length builds) none [] edge
      (record {
        length_is = length-replicate (length builds) false;
        is_edge = within;
        fresh = not-marked (is_marked none edge) (marked_none (length builds) edge);
        same = λ n. not-marked (is_marked none n) (marked_none (length builds) n);
      })
      (unmarked-all (length builds))

  -- THERE IS NO OTHER
  same-input : {chain : List ℕ} {edge at next other : ℕ} → CanGoBy builds state chain edge at next → CanGoBy builds state chain edge at other → next ≡ other
  same-input {chain} {edge} {at} {next} {other} a b =
      let one : Some (Some next) ≡ Some (Some other) = sym (at-go builds state chain edge at next a) ∙ at-go builds state chain edge at other b in
      cc

  pub record SameStep (at next at_other other : ℕ) : Type 0 where
    pub position : at ≡ at_other
    pub edge : next ≡ other

  same-step : {chain : List ℕ} {edge at next at_other other : ℕ} → GoesBy builds state chain edge at next → GoesBy builds state chain edge at_other other → SameStep at next at_other other
  same-step {chain} {edge} {at} {next} {at_other} {other} a b = elim (cases_lt at at_other) [
    | inl less ↦ absurd (b.first at next less a.can)
    | inr up ↦ elim (cases_lt at_other at) [
      | inl less ↦ absurd (a.first at_other other less b.can)
      | inr down ↦
          let same : at ≡ at_other = omega arith in
          record { position = same; edge = same-input (subst (λ k. CanGoBy builds state chain edge k next) same a.can) b.can }
    ]
  ]

  pub one-chain : {before : List ℕ} {edge : ℕ} {a b : ChainValue} → IsChain builds state before edge a → IsChain builds state before edge b → a ≡ b
  one-chain (unwanted n) (unwanted m) = refl
  one-chain (unwanted n) (explained w r) = absurd (n w)
  one-chain (unwanted n) (stuck w r s) = absurd (n w)
  one-chain (unwanted n) (stepping at next chain w r g rest) = absurd (n w)
  one-chain (explained w r) (unwanted n) = absurd (n w)
  one-chain (explained w r) (explained v q) = refl
  one-chain (explained w r) (stuck v q s) = absurd (r q)
  one-chain (explained w r) (stepping at next chain v q g rest) = absurd (r q)
  one-chain (stuck w r s) (unwanted n) = absurd (n w)
  one-chain (stuck w r s) (explained v q) = absurd (q r)
  one-chain (stuck w r s) (stuck v q t) = refl
  one-chain (stuck w r s) (stepping at next chain v q g rest) = absurd (s at next g.can)
  one-chain (stepping at next chain w r g rest) (unwanted n) = absurd (n w)
  one-chain (stepping at next chain w r g rest) (explained v q) = absurd (q r)
  one-chain (stepping at next chain w r g rest) (stuck v q s) = absurd (s at next g.can)
  one-chain {before} {edge} (stepping at next chain w r g rest) (stepping at_other other more v q f on) =
      let same = same-step g f in
      let tail : chain ≡ more = one-chain (subst (λ n. IsChain builds state (before ++ edge ∷ []) n chain) same.edge rest) on in
      λ i. step_before (edge, same.position i) (tail i)

pub one-chain-law : OneChain
one-chain-law builds state edge chain within =
    (λ e. subst (IsChain builds state [] edge) e (chain-is builds state edge within), λ c. one-chain builds state (chain-is builds state edge within) c)
