-- How a chain goes on.
use Rattle.std.proofs.Common.{◌≡◌, ◌≢◌, ℕ, ◌+◌, ◌<◌, ◌≤◌, zero, suc, Bool, true, false, cond, not, nat_eq, ◌&&◌, ◌||◌, List, [], ◌∷◌, ◌++◌, map, length, get_or, set, replicate, Contains, Option, Some, None, ◌⊎◌, inl, inr, refl, sym, ap, subst, ◌∙◌, arith, true≢false, if◌then◌else◌}
use Rattle.std.specs.Prelude.{slice_get, option_and_then}
use Rattle.std.specs.List.{position, list_any}
use Rattle.std.proofs.lemmas.Option.{get_or_from_slice_get}
use Rattle.std.proofs.lemmas.List.Quantifiers.{position-Some}
use Rattle.std.proofs.lemmas.List.{length-map, length-replicate, length-set, append_assoc, append-nil, map-append}
use Rattle.std.proofs.lemmas.List.Elements.{Contains-push, Contains-push_cases, Contains-append_left}
use Rattle.rev_manifest.specs.Manifest.{BuildValue}
use Rattle.rev_graph.specs.Graph.{build_at, producer_of}
use Rattle.rev_graph.proofs.GraphLemmas.{producer_of-within}
use Rattle.rev_cells.specs.State.{State}
use Rattle.rev_dirty.specs.declared.input.InputKind.{InputKind}
use Rattle.rev_dirty.specs.declared.input.InputKind.TheVariants.{OnLine, OrderOnly, Listed}
use Rattle.rev_dirty.specs.declared.reason.Reason.{Reason}
use Rattle.rev_dirty.specs.Inputs.{InputValue, an, counts, inputs, paths_in, deps_record}
use Rattle.rev_dirty.specs.Reasons.{holds, reasons_of}
use Rattle.rev_ranks.specs.Leads.{is_one_of}
use Rattle.rev_ranks.specs.Sets.{is_marked, unmarked}
use Rattle.rev_ranks.proofs.Marks.{marked_none, marked_same, marked_kept, marked_only, unmarked_less}
use Rattle.rev_ranks.proofs.SetLemmas.{same-tests, one-of, is-one-of}
use Rattle.rev_plan.specs.Chain.{ChainValue, has_wanted_mark, counted_producer, counted_producers, can_follow, next_input, producer_at, step_from, step_before, ends_at, chain_by, chain_on, chain_within, chain_of}

not-yes : (b : Bool) → (b ≡ true → ⊥) → b ≡ false
not-yes true h = absurd (h refl)
not-yes false h = refl

-- the edges that stand before the last one
abbrev pub edges_in : List (ℕ × ℕ) → List ℕ
edges_in steps = map (λ (step : ℕ × ℕ). step.0) steps

-- a chain behind steps
abbrev pub behind_steps : List (ℕ × ℕ) → ChainValue → ChainValue
behind_steps steps chain = record { steps = steps ++ chain.steps; last = chain.last; reasons = chain.reasons }

-- What holds of a chain that has come to an edge by these steps, of which the edges have a mark.
pub record IsUnderWay (builds : List BuildValue) (state : State) (start : ℕ) (marks : List Bool) (steps : List (ℕ × ℕ)) (last : ℕ) : Type 0 where
  pub length_is : length marks ≡ length builds
  pub is_edge : last < length builds
  pub fresh : is_marked marks last ≡ false
  pub same : (n : ℕ) → is_marked marks n ≡ is_one_of (edges_in steps) n
  pub whole : chain_of builds state start ≡ behind_steps steps (chain_within builds state (unmarked marks) (edges_in steps) last)

unmarked-all : (n : ℕ) → unmarked (replicate n false) ≡ n
unmarked-all zero = refl
unmarked-all (suc n) = let e : unmarked (replicate n false) + 1 ≡ suc n = omega (arith, unmarked-all n) in e

none-marked : (n k : ℕ) → is_marked (replicate n false) k ≡ false
none-marked n k = not-yes (is_marked (replicate n false) k) (marked_none n k)

pub begins : (builds : List BuildValue) (state : State) (start : ℕ) (marks : List Bool) → start < length builds → marks ≡ replicate (length builds) false → IsUnderWay builds state start marks [] start
unfolding chain_of
begins builds state start marks within are = record {
  length_is = ap length are ∙ length-replicate (length builds) false;
  is_edge = within;
  fresh = ap (λ (all : List Bool). is_marked all start) are ∙ none-marked (length builds) start;
  same = λ n. ap (λ (all : List Bool). is_marked all n) are ∙ none-marked (length builds) n;
  whole = ap (λ most. chain_within builds state most [] start) (sym (ap unmarked are ∙ unmarked-all (length builds)));
}

-- an edge without a mark leaves some to go on with
some-left : (n m : ℕ) → n + 1 ≡ m → m ≡ suc n
some-left n m h = omega arith

module _ (builds : List BuildValue) (state : State) (start : ℕ) (marks : List Bool) (steps : List (ℕ × ℕ)) (last : ℕ) (was : IsUnderWay builds state start marks steps last) where
  abbrev later : List Bool
  later = set marks last true

  left : unmarked marks ≡ suc (unmarked later)
  left = some-left (unmarked later) (unmarked marks) (unmarked_less marks last (omega (arith, was.is_edge, was.length_is)) was.fresh)

  here : chain_of builds state start ≡ behind_steps steps (chain_within builds state (suc (unmarked later)) (edges_in steps) last)
  here = was.whole ∙ ap (λ most. behind_steps steps (chain_within builds state most (edges_in steps) last)) left

  ended-at : (reasons : List Reason) → chain_within builds state (suc (unmarked later)) (edges_in steps) last ≡ ends_at last reasons → chain_of builds state start ≡ record { steps = steps; last = last; reasons = reasons }
  ended-at reasons h = here ∙ ap (behind_steps steps) h ∙ (λ i. record { steps = append-nil steps i; last = last; reasons = reasons })

  pub ends-unwanted : has_wanted_mark state last ≡ false → chain_of builds state start ≡ record { steps = steps; last = last; reasons = [] }
  ends-unwanted h =
      ended-at [] (ap (λ b. if b then
      chain_by (step_from builds state (is_one_of (edges_in steps ++ last ∷ [])) last) (chain_within builds state (unmarked later) (edges_in steps ++ last ∷ [])) last (reasons_of builds state last) else ends_at last []) h)

  wanted-on : has_wanted_mark state last ≡ true
      → chain_within builds state (suc (unmarked later)) (edges_in steps) last
      ≡ chain_by (step_from builds state (is_one_of (edges_in steps ++ last ∷ [])) last) (chain_within builds state (unmarked later) (edges_in steps ++ last ∷ [])) last (reasons_of builds state last)
  wanted-on h = ap (λ b. if b then
      chain_by (step_from builds state (is_one_of (edges_in steps ++ last ∷ [])) last) (chain_within builds state (unmarked later) (edges_in steps ++ last ∷ [])) last (reasons_of builds state last) else ends_at last []) h

  by-some : (step : Option (ℕ × ℕ)) (rest : ℕ → ChainValue) (reasons : List Reason) → 0 < length reasons → chain_by step rest last reasons ≡ ends_at last reasons
  by-some step rest [] h = absurd (omega arith)
  by-some step rest (r ∷ rs) h = refl

  pub ends-explained : has_wanted_mark state last ≡ true → (reasons : List Reason) → reasons ≡ reasons_of builds state last → 0 < length reasons → chain_of builds state start ≡ record { steps = steps; last = last; reasons = reasons }
  ends-explained h reasons are some =
      ended-at reasons (wanted-on h ∙ ap (chain_by _ _ last) (sym are) ∙ by-some _ _ reasons some)

  -- the edges of the chain and this one
  pub same-later : is_marked later ≡ is_one_of (edges_in steps ++ last ∷ [])
  same-later = λ i n. each n i
    where
      each : (n : ℕ) → is_marked later n ≡ is_one_of (edges_in steps ++ last ∷ []) n
      each n = same-tests (is_marked later n) (is_one_of (edges_in steps ++ last ∷ []) n)
          (λ h. elim (marked_only marks last n h) [
            | inl old ↦ is-one-of (edges_in steps ++ last ∷ []) n (Contains-append_left (edges_in steps) (last ∷ []) n (one-of (edges_in steps) n (sym (was.same n) ∙ old)))
            | inr new ↦ is-one-of (edges_in steps ++ last ∷ []) n (subst (Contains (edges_in steps ++ last ∷ [])) new (Contains-push (edges_in steps) last))
          ])
          (λ h. elim (Contains-push_cases (edges_in steps) last n (one-of (edges_in steps ++ last ∷ []) n h)) [
            | inl old ↦ marked_kept marks last n (was.same n ∙ is-one-of (edges_in steps) n old)
            | inr new ↦ subst (λ k. is_marked later k ≡ true) new (marked_same marks last (omega (arith, was.is_edge, was.length_is)))
          ])

  -- without reasons it goes by its step
  bare-on : has_wanted_mark state last ≡ true → reasons_of builds state last ≡ [] → (step : Option (ℕ × ℕ)) → step ≡ step_from builds state (is_marked later) last
      → chain_within builds state (suc (unmarked later)) (edges_in steps) last ≡ chain_on (chain_within builds state (unmarked later) (edges_in steps ++ last ∷ [])) last step
  bare-on h none step is =
      wanted-on h ∙ ap (chain_by _ _ last) none
      ∙ ap (chain_on (chain_within builds state (unmarked later) (edges_in steps ++ last ∷ [])) last) (sym (is ∙ ap (λ (has : ℕ → Bool). step_from builds state has last) same-later))

  pub ends-stuck : has_wanted_mark state last ≡ true → reasons_of builds state last ≡ [] → None ≡ step_from builds state (is_marked later) last → chain_of builds state start ≡ record { steps = steps; last = last; reasons = [] }
  ends-stuck h none is = ended-at [] (bare-on h none None is)

  pub goes-on : has_wanted_mark state last ≡ true → reasons_of builds state last ≡ [] → (at next : ℕ) → Some (at, next) ≡ step_from builds state (is_marked later) last → next < length builds → is_marked later next ≡ false
      → IsUnderWay builds state start later (steps ++ (last, at) ∷ []) next
  goes-on h none at next is within fresh = record {
    length_is = length-set-is;
    is_edge = within;
    fresh = fresh;
    same = λ n. (λ i. same-later i n) ∙ ap (λ (edges : List ℕ). is_one_of edges n) (sym edges-push);
    whole =
        here ∙ ap (behind_steps steps) (bare-on h none (Some (at, next)) is)
        ∙ (λ i. record {
          steps = sym (append_assoc steps ((last, at) ∷ []) (chain_within builds state (unmarked later) (edges_in steps ++ last ∷ []) next).steps) i;
          last = (chain_within builds state (unmarked later) (edges_in steps ++ last ∷ []) next).last;
          reasons = (chain_within builds state (unmarked later) (edges_in steps ++ last ∷ []) next).reasons;
        })
        ∙ ap (λ (edges : List ℕ). behind_steps (steps ++ (last, at) ∷ []) (chain_within builds state (unmarked later) edges next)) (sym edges-push);
  }
    where
      length-set-is : length later ≡ length builds
      length-set-is = length-set marks last true ∙ was.length_is

      edges-push : edges_in (steps ++ (last, at) ∷ []) ≡ edges_in steps ++ last ∷ []
      edges-push = map-append (λ (step : ℕ × ℕ). step.0) steps ((last, at) ∷ [])

-- PRODUCERS
producers-some : (builds : List BuildValue) (kind : InputKind) → counts kind ≡ true → (paths : List (List ℕ)) → map (counted_producer builds) (map (an kind) paths) ≡ map (producer_of builds) paths
producers-some builds OnLine h [] = refl
producers-some builds OnLine h (p ∷ ps) = ap (λ (rest : List (Option ℕ)). producer_of builds p ∷ rest) (producers-some builds OnLine h ps)
producers-some builds Listed h [] = refl
producers-some builds Listed h (p ∷ ps) = ap (λ (rest : List (Option ℕ)). producer_of builds p ∷ rest) (producers-some builds Listed h ps)
producers-some builds OrderOnly h paths = let no : false ≡ true = h in cc

producers-none : (builds : List BuildValue) (paths : List (List ℕ)) → map (counted_producer builds) (map (an OrderOnly) paths) ≡ replicate (length paths) None
producers-none builds [] = refl
producers-none builds (p ∷ ps) = ap (λ (rest : List (Option ℕ)). None ∷ rest) (producers-none builds ps)

pub producers-are : (builds : List BuildValue) (state : State) (edge : ℕ)
    → map (producer_of builds) ((build_at builds edge).explicit ++ (build_at builds edge).implicit) ++ replicate (length (build_at builds edge).order_only) None ++ map (producer_of builds) (paths_in (deps_record state (build_at builds edge)))
    ≡ counted_producers builds state edge
producers-are builds state edge =
    let build = build_at builds edge in
    let line = map (an OnLine) (build.explicit ++ build.implicit) in
    let later = map (an OrderOnly) build.order_only in
    let listed = map (an Listed) (paths_in (deps_record state build)) in
    sym (map-append (counted_producer builds) (line ++ later) listed ∙ ap (λ (front : List (Option ℕ)). front ++ map (counted_producer builds) listed) (map-append (counted_producer builds) line later)
    ∙ (λ i. producers-some builds OnLine refl (build.explicit ++ build.implicit) i ++ producers-none builds build.order_only i ++ producers-some builds Listed refl (paths_in (deps_record state build)) i))

-- WHERE A STEP LEADS
pub record Follows (builds : List BuildValue) (has : ℕ → Bool) (next : ℕ) : Type 0 where
  pub is_edge : next < length builds
  pub fresh : has next ≡ false

not-had : (a b : Bool) → (a && not b) ≡ true → b ≡ false
not-had true true h = absurd (true≢false (sym h))
not-had true false h = refl
not-had false b h = absurd (true≢false (sym h))

counted-within : (builds : List BuildValue) (path : List ℕ) (b : Bool) (m : ℕ) → (if b then producer_of builds path else None) ≡ Some m → m < length builds
counted-within builds path true m h = producer_of-within path builds m h
counted-within builds path false m h = let no : None ≡ Some m = h in cc

step-leads : (builds : List BuildValue) (state : State) (has : ℕ → Bool) (all : List InputValue) (k m : ℕ) → position (holds (can_follow state has)) (map (counted_producer builds) all) ≡ Some k
    → slice_get (map (counted_producer builds) all) k ≡ Some (Some m) → Follows builds has m
step-leads builds state has all k m first there =
    let passes = (position-Some (holds (can_follow state has)) (map (counted_producer builds) all) k None first).1 in
    let same : get_or (map (counted_producer builds) all) k None ≡ Some m = get_or_from_slice_get (map (counted_producer builds) all) k (Some m) None there in
    let can : (has_wanted_mark state m && not (has m)) ≡ true = sym (ap (holds (can_follow state has)) same) ∙ passes in
    record { is_edge = within all k there; fresh = not-had (has_wanted_mark state m) (has m) can }
  where
    within : (all : List InputValue) (k : ℕ) → slice_get (map (counted_producer builds) all) k ≡ Some (Some m) → m < length builds
    within [] k h = let no : None ≡ Some (Some m) = h in cc
    within (x ∷ xs) zero h = let is : counted_producer builds x ≡ Some m = cc in counted-within builds x.path (counts x.kind) m is
    within (x ∷ xs) (suc k) h = within xs k h

slice-some : (o : Option (Option ℕ)) (m : ℕ) → option_and_then (λ (producer : Option ℕ). producer) o ≡ Some m → o ≡ Some (Some m)
slice-some None m h = let no : None ≡ Some m = h in cc
slice-some (Some None) m h = let no : None ≡ Some m = h in cc
slice-some (Some (Some n)) m h = ap Some h

abbrev second-of : Option (ℕ × ℕ) → ℕ
second-of None = 0
second-of (Some step) = step.1

none-some : {A : Type 0} (x : A) → Some x ≡ None → ⊥
none-some x h = let no : Some x ≡ None = h in cc

abbrev pub stepped : ℕ → ℕ → Option (ℕ × ℕ)
stepped at next = Some (at, next)

follows-made : (builds : List BuildValue) (state : State) (has : ℕ → Bool) (edge at next k : ℕ) → next_input builds state has edge ≡ Some k → (q : Option ℕ) → producer_at builds state edge k ≡ q
    → stepped at next ≡ option_and_then (λ m. stepped k m) q → Follows builds has next
follows-made builds state has edge at next k first None made is = absurd (none-some {A = ℕ × ℕ} _ is)
follows-made builds state has edge at next k first (Some m) made is =
    subst (Follows builds has) (sym (ap second-of is))
    (step-leads builds state has (inputs state (build_at builds edge)) k m first (slice-some (slice_get (counted_producers builds state edge) k) m made))

follows-by : (builds : List BuildValue) (state : State) (has : ℕ → Bool) (edge at next : ℕ) (o : Option ℕ) → next_input builds state has edge ≡ o
    → stepped at next ≡ option_and_then (λ k. option_and_then (λ m. stepped k m) (producer_at builds state edge k)) o → Follows builds has next
follows-by builds state has edge at next None first is = absurd (none-some {A = ℕ × ℕ} _ is)
follows-by builds state has edge at next (Some k) first is = follows-made builds state has edge at next k first (producer_at builds state edge k) refl is

pub follows : (builds : List BuildValue) (state : State) (has : ℕ → Bool) (edge at next : ℕ) → stepped at next ≡ step_from builds state has edge → Follows builds has next
follows builds state has edge at next is = follows-by builds state has edge at next (next_input builds state has edge) refl is

pub empty-list : {A : Type 0} (xs : List A) → length xs ≡ 0 → xs ≡ []
empty-list [] h = refl
empty-list (x ∷ xs) h = absurd (omega arith)
