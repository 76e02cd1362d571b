-- One order more makes an edge wait, and no cycle where there was no way back.
use Rattle.std.proofs.Common.{◌≡◌, ◌≢◌, ℕ, ◌+◌, ◌<◌, List, [], ◌∷◌, ◌++◌, length, get_or, set, Some, ◌⊎◌, inl, inr, refl, sym, ap, subst, ◌∙◌, arith, true≢false, Contains, zero, suc, append_assoc, if◌then◌else◌}
use Rattle.std.specs.Prelude.{slice_get}
use Rattle.std.proofs.lemmas.Bool.{cases_eq}
use Rattle.std.proofs.lemmas.List.{get_or-set_same, get_or-set_other}
use Rattle.std.proofs.lemmas.List.Elements.{Contains-get_or, Contains-append_cases, Contains-append_right}
use Rattle.rev_manifest.specs.Manifest.{BuildValue}
use Rattle.rev_graph.specs.Graph.{GraphValue, IsGraph, EdgeSteps, EdgeReaches, EdgeReaches.step as one_step, EdgeReaches.further as then_on, build_at, inputs_of, no_build, outputs_of, producer_from, producer_of, has_path}
use Rattle.rev_graph.proofs.StepLemmas.{ranked-acyclic}
use Rattle.rev_waits.specs.Mending.{CanMend, IsApart, Mends, ordered, with_order}

-- WHAT AN ORDER CHANGES
-- no output, and so no producer
producers-stay : (n : ℕ) (path : List ℕ) (builds : List BuildValue) (user : ℕ) (build : BuildValue) → outputs_of build ≡ outputs_of (get_or builds user no_build)
    → producer_from n path (set builds user build) ≡ producer_from n path builds
producers-stay n path [] user build same = refl
producers-stay n path (b ∷ bs) zero build same = ap (λ outs. if has_path outs path then Some n else producer_from (n + 1) path bs) same
producers-stay n path (b ∷ bs) (suc user) build same =
    ap (λ o. if has_path (outputs_of b) path then Some n else o) (producers-stay (n + 1) path bs user build same)

module _ (builds : List BuildValue) (user maker : ℕ) (out : List ℕ) (inside : user < length builds) (made : producer_of builds out ≡ Some maker) where
  same-producer : (path : List ℕ) → producer_of (with_order builds user out) path ≡ producer_of builds path
  same-producer path = producers-stay 0 path builds user (ordered (build_at builds user) out) refl

  at-user : build_at (with_order builds user out) user ≡ ordered (build_at builds user) out
  at-user = get_or-set_same builds user (ordered (build_at builds user) out) no_build inside

  at-other : (edge : ℕ) → edge ≢ user → build_at (with_order builds user out) edge ≡ build_at builds edge
  at-other edge other = get_or-set_other builds user edge (ordered (build_at builds user) out) no_build other

  inputs-more : inputs_of (ordered (build_at builds user) out) ≡ inputs_of (build_at builds user) ++ out ∷ []
  inputs-more = sym (append_assoc ((build_at builds user).explicit ++ (build_at builds user).implicit) (build_at builds user).order_only (out ∷ []))

  only-one : (path : List ℕ) → Contains (out ∷ []) path → out ≡ path
  only-one path (zero, within, at) = at
  only-one path (suc k, within, at) = absurd (omega (arith, within))

  -- the edge steps to the maker
  new-step : EdgeSteps (with_order builds user out) user maker
  new-step = record {
    path = out;
    is_input = subst (λ (b : BuildValue). Contains (inputs_of b) out) (sym at-user)
        (subst (λ ins. Contains ins out) (sym inputs-more) (Contains-append_right (inputs_of (build_at builds user)) (out ∷ []) out (Contains-get_or (out ∷ []) 0 out (omega arith))));
    produced = same-producer out ∙ made;
  }

  -- a step is an old one, or that
  step-was : (a b : ℕ) → EdgeSteps (with_order builds user out) a b → EdgeSteps builds a b ⊎ ((a ≡ user) × (b ≡ maker))
  step-was a b s = elim (cases_eq a user) [
    | inl here ↦ elim (Contains-append_cases (inputs_of (build_at builds user)) (out ∷ []) s.path (subst (λ ins. Contains ins s.path) inputs-more
        (subst (λ (x : BuildValue). Contains (inputs_of x) s.path) (ap (build_at (with_order builds user out)) here ∙ at-user) s.is_input))) [
          | inl old ↦ inl (record {
            path = s.path;
            is_input = subst (λ e. Contains (inputs_of (build_at builds e)) s.path) (sym here) old;
            produced = sym (same-producer s.path) ∙ s.produced;
          })
          | inr new ↦
              let both : Some b ≡ Some maker = sym (sym (same-producer s.path) ∙ s.produced) ∙ ap (producer_of builds) (sym (only-one s.path new)) ∙ made in
              let same : b ≡ maker = cc in
              inr (here, same)
        ]
    | inr other ↦ inl (record {
      path = s.path;
      is_input = subst (λ (x : BuildValue). Contains (inputs_of x) s.path) (at-other a other) s.is_input;
      produced = sym (same-producer s.path) ∙ s.produced;
    })
  ]

  -- at an edge, or on a way to it
  abbrev AtOrTo : ℕ → ℕ → Type 0
  AtOrTo a b = (a ≡ b) ⊎ EdgeReaches builds a b

  to-further : (a m b : ℕ) → EdgeSteps builds a m → AtOrTo m b → EdgeReaches builds a b
  to-further a m b s (inl same) = one_step (subst (λ x. EdgeSteps builds a x) same s)
  to-further a m b s (inr way) = then_on s way

  -- a way is an old one, or goes by the new step
  way-was : {a b : ℕ} → EdgeReaches (with_order builds user out) a b → EdgeReaches builds a b ⊎ (AtOrTo a user × AtOrTo maker b)
  way-was {a} {b} (one_step s) = elim (step-was a b s) [ inl old ↦ inl (one_step old) | inr new ↦ inr (inl new.0, inl (sym new.1)) ]
  way-was {a} {b} (then_on {middle = m} s rest) = by (step-was a m s) (way-was rest)
    where
      by : EdgeSteps builds a m ⊎ ((a ≡ user) × (m ≡ maker)) → EdgeReaches builds m b ⊎ (AtOrTo m user × AtOrTo maker b) → EdgeReaches builds a b ⊎ (AtOrTo a user × AtOrTo maker b)
      by (inl old) (inl way) = inl (then_on old way)
      by (inl old) (inr p) = inr (inr (to-further a m user old p.0), p.1)
      by (inr new) (inl way) = inr (inl new.0, inr (subst (λ x. EdgeReaches builds x b) new.1 way))
      by (inr new) (inr p) = inr (inl new.0, p.1)

  then-way : {a b c : ℕ} → EdgeReaches builds a b → EdgeReaches builds b c → EdgeReaches builds a c
  then-way {a} {b} {c} (one_step s) way = then_on s way
  then-way {a} {b} {c} (then_on {middle = m} s rest) way = then_on s (then-way rest way)

  no-round : IsApart builds user maker → (edge : ℕ) → AtOrTo edge user → AtOrTo maker edge → ⊥
  no-round apart edge (inl here) (inl there) = apart.others (there ∙ here)
  no-round apart edge (inl here) (inr way) = apart.forth (subst (λ x. EdgeReaches builds maker x) here way)
  no-round apart edge (inr way) (inl there) = apart.forth (subst (λ x. EdgeReaches builds x user) (sym there) way)
  no-round apart edge (inr one) (inr other) = apart.forth (then-way other one)

  pub mends : (graph : GraphValue) → IsGraph graph → graph.manifest.builds ≡ builds → IsApart builds user maker → Mends builds user maker out
  mends graph is same apart = record {
    waits = one_step new-step;
    acyclic = λ edge way. elim (way-was way) [
      | inl old ↦ ranked-acyclic graph.manifest.builds graph.ranks is.ranked edge (subst (λ bs. EdgeReaches bs edge edge) (sym same) old)
      | inr p ↦ no-round apart edge p.0 p.1
    ];
  }

-- WHERE THERE IS NONE
pub none-past : (builds : List BuildValue) (user maker : ℕ) → (user < length builds → ⊥) → CanMend builds user maker → ⊥
none-past builds user maker past can = past can.user_is

pub first-contained : (outs : List (List ℕ)) (out : List ℕ) → slice_get outs 0 ≡ Some out → Contains outs out
first-contained [] out h = absurd (true≢false cc)
first-contained (x ∷ xs) out h =
    let same : x ≡ out = cc in
    (0, omega arith, same)
