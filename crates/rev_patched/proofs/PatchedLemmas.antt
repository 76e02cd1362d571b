-- What orders change of the ways between edges, and what one order makes of a manifest.
use Rattle.std.proofs.Common.{◌≡◌, ◌≢◌, ℕ, zero, suc, ◌+◌, ◌<◌, ◌≤◌, Bool, true, false, cond, List, [], ◌∷◌, ◌++◌, length, set, Contains, Option, Some, None, IfSome, ◌⊎◌, inl, inr, refl, sym, ap, subst, ◌∙◌, arith, append-nil, append_assoc, true≢false, zero-add, if◌then◌else◌}
use Rattle.std.specs.Prelude.{find}
use Rattle.std.specs.Option.{option_or}
use Rattle.std.proofs.lemmas.Bool.{cases_lt}
use Rattle.std.proofs.lemmas.List.{get_or_past}
use Rattle.std.proofs.lemmas.List.Elements.{Contains-append_left, Contains-append_right, Contains-get_or}
use Rattle.rev_manifest.specs.Manifest.{BuildValue, ManifestValue}
use Rattle.rev_graph.specs.declared.fault.GraphFault.{GraphFault}
use Rattle.rev_graph.specs.declared.fault.GraphFault.TheVariants.{Memory, TooManyEdges, MultipleProducers, Cycle}
use Rattle.rev_graph.specs.Fault.{Explains, IsFaultless}
use Rattle.rev_graph.specs.Graph.{GraphValue, IsGraph, EdgeSteps, EdgeReaches, EdgeReaches.step as one_step, EdgeReaches.further as then_on, build_at, inputs_of, no_build, outputs_of, producer_from, producer_of, has_path}
use Rattle.rev_waits.specs.Mending.{ordered, with_order}
use Rattle.rev_waits.specs.Waits.{Waits}
use Rattle.rev_waits.proofs.MendLemmas.{mends}
use Rattle.rev_patched.specs.declared.orders.Order.{Order}
use Rattle.rev_patched.specs.Orders.{IsPatched, ordered_from, paths_for, with_inputs, with_orders}
use Rattle.rev_patched.proofs.OrderLemmas.{paths-here, paths-other}
use Rattle.rev_patched.specs.Laws.{BackwardsIsFaulty, IsUntouched, OrdersWait, OthersStay}
use Rattle.rev_patched.specs.Provoked.{SayProvoked}

-- WHAT ORDERS CHANGE
-- no output, and so no producer
producers-stay : (m : ℕ) (path : List ℕ) (n : ℕ) (orders : List Order) (builds : List BuildValue)
    → producer_from m path (ordered_from n orders builds) ≡ producer_from m path builds
producers-stay m path n orders [] = refl
producers-stay m path n orders (b ∷ bs) = ap (λ o. if has_path (outputs_of b) path then Some m else o) (producers-stay (m + 1) path (suc n) orders bs)

length-from : (n : ℕ) (orders : List Order) (builds : List BuildValue) → length (ordered_from n orders builds) ≡ length builds
length-from n orders [] = refl
length-from n orders (b ∷ bs) = ap suc (length-from (suc n) orders bs)

at-from : (n : ℕ) (orders : List Order) (builds : List BuildValue) (k : ℕ) → k < length builds
    → build_at (ordered_from n orders builds) k ≡ with_inputs (build_at builds k) (paths_for orders (n + k))
at-from n orders [] k within = absurd (omega arith)
at-from n orders (b ∷ bs) zero within = let e : n ≡ n + 0 = omega arith in ap (λ m. with_inputs b (paths_for orders m)) e
at-from n orders (b ∷ bs) (suc k) within =
    let e : suc n + k ≡ n + suc k = omega arith in
    at-from (suc n) orders bs k (omega arith) ∙ ap (λ m. with_inputs (build_at bs k) (paths_for orders m)) e

no-input : (path : List ℕ) → Contains (inputs_of no_build) path → ⊥
no-input path (k, within, at) = omega (arith, within)

past-step : (builds : List BuildValue) (a b : ℕ) → length builds ≤ a → EdgeSteps builds a b → ⊥
past-step builds a b past s = no-input s.path (subst (λ (x : BuildValue). Contains (inputs_of x) s.path) (get_or_past builds a no_build past) s.is_input)

module _ (builds : List BuildValue) (orders : List Order) where
  abbrev new : List BuildValue
  new = with_orders builds orders

  inputs-at : (k : ℕ) → k < length builds → inputs_of (build_at new k) ≡ inputs_of (build_at builds k) ++ paths_for orders k
  inputs-at k within =
      let b = build_at builds k in
      ap inputs_of (at-from 0 orders builds k within ∙ ap (λ m. with_inputs b (paths_for orders m)) (zero-add k))
      ∙ sym (append_assoc (b.explicit ++ b.implicit) b.order_only (paths_for orders k))

  pub step-stays : (a b : ℕ) → EdgeSteps builds a b → EdgeSteps new a b
  step-stays a b s = elim (cases_lt a (length builds)) [
    | inl within ↦ record {
      path = s.path;
      is_input = subst (λ ins. Contains ins s.path) (sym (inputs-at a within)) (Contains-append_left (inputs_of (build_at builds a)) (paths_for orders a) s.path s.is_input);
      produced = producers-stay 0 s.path 0 orders builds ∙ s.produced;
    }
    | inr past ↦ absurd (past-step builds a b past s)
  ]

  pub step-back : (a b : ℕ) → paths_for orders a ≡ [] → EdgeSteps new a b → EdgeSteps builds a b
  step-back a b none s = elim (cases_lt a (length builds)) [
    | inl within ↦ record {
      path = s.path;
      is_input = subst (λ ins. Contains ins s.path)
          (inputs-at a within ∙ ap (λ ps. inputs_of (build_at builds a) ++ ps) none ∙ append-nil (inputs_of (build_at builds a))) s.is_input;
      produced = sym (producers-stay 0 s.path 0 orders builds) ∙ s.produced;
    }
    | inr past ↦
        let beyond : length new ≤ a = omega (arith, past, length-from 0 orders builds) in
        absurd (past-step new a b beyond s)
  ]

  pub order-step : (k maker : ℕ) (path : List ℕ) → k < length builds → Contains (paths_for orders k) path → producer_of builds path ≡ Some maker → EdgeSteps new k maker
  order-step k maker path within has made = record {
    path = path;
    is_input = subst (λ ins. Contains ins path) (sym (inputs-at k within)) (Contains-append_right (inputs_of (build_at builds k)) (paths_for orders k) path has);
    produced = producers-stay 0 path 0 orders builds ∙ made;
  }

  pub way-stays : {a b : ℕ} → EdgeReaches builds a b → EdgeReaches new a b
  way-stays {a} {b} (one_step s) = one_step (step-stays a b s)
  way-stays {a} {b} (then_on {middle = m} s rest) = then_on (step-stays a m s) (way-stays rest)

  pub way-back : {a b : ℕ} → IsUntouched builds orders a → EdgeReaches new a b → EdgeReaches builds a b
  way-back {a} {b} u (one_step s) = one_step (step-back a b u.here s)
  way-back {a} {b} u (then_on {middle = m} s rest) =
      let t = step-back a m u.here s in
      then_on t (way-back (record { here = u.behind m (one_step t); behind = λ o w. u.behind o (then_on t w) }) rest)

pub orders-wait : OrdersWait
orders-wait old n orders edge maker path is within has made =
    subst (λ bs. Waits bs edge maker) (sym is.builds) (one_step (order-step old.builds orders edge maker path within has made))

pub others-stay : OthersStay
others-stay old n orders a b is = (
  λ w. subst (λ bs. Waits bs a b) (sym is.builds) (way-stays old.builds orders w),
  λ u w. way-back old.builds orders u (subst (λ bs. Waits bs a b) is.builds w),
)

pub backwards-is-faulty : BackwardsIsFaulty
backwards-is-faulty old n orders edge maker path is within has made back faultless =
    let first = order-step old.builds orders edge maker path within has made in
    let round : EdgeReaches (with_orders old.builds orders) edge edge = elim back [
      | inl same ↦ one_step (subst (λ m. EdgeSteps (with_orders old.builds orders) edge m) same first)
      | inr way ↦ then_on first (way-stays old.builds orders way)
    ] in
    faultless.acyclic edge (subst (λ bs. EdgeReaches bs edge edge) (sym is.builds) round)

-- ONE ORDER
with-none : (b : BuildValue) → with_inputs b [] ≡ b
with-none b = ap (λ ps. record b { order_only = ps }) (append-nil b.order_only)

unordered : (n : ℕ) (o : Order) (builds : List BuildValue) → o.edge < n → ordered_from n (o ∷ []) builds ≡ builds
unordered n o [] before = refl
unordered n o (b ∷ bs) before =
    let other : o.edge ≢ n = λ e. absurd (omega (arith, e)) in
    (λ i. (ap (with_inputs b) (paths-other o n other) ∙ with-none b) i ∷ unordered (suc n) o bs (omega arith) i)

one-from : (n : ℕ) (o : Order) (builds : List BuildValue) (k : ℕ) → n + k ≡ o.edge
    → ordered_from n (o ∷ []) builds ≡ set builds k (ordered (build_at builds k) o.path.now)
one-from n o [] k at = refl
one-from n o (b ∷ bs) zero at =
    let here : o.edge ≡ n = omega (arith, at) in
    (λ i. with_inputs b (paths-here o n here i) ∷ unordered (suc n) o bs (omega (arith, at)) i)
one-from n o (b ∷ bs) (suc k) at =
    let other : o.edge ≢ n = λ e. absurd (omega (arith, at, e)) in
    (λ i. (ap (with_inputs b) (paths-other o n other) ∙ with-none b) i ∷ one-from (suc n) o bs k (omega (arith, at)) i)

-- where the user does not wait for the maker, the patched manifest has the maker wait for the user
pub provoked : (g : GraphValue) (old : ManifestValue) (files : List (List ℕ × List ℕ)) (o : Order) (user maker : ℕ) → IsGraph g → g.manifest ≡ old → o.edge ≡ maker
    → maker < length old.builds → (((user ≡ maker) ⊎ Waits old.builds user maker) → ⊥) → Contains (outputs_of (build_at old.builds user)) o.path.now
    → producer_of old.builds o.path.now ≡ Some user → IsPatched old (o ∷ []) files → SayProvoked old user maker files
provoked g old files o user maker is same edge inside apart has made p =
    let at : 0 + maker ≡ o.edge = omega (arith, edge) in
    let builds : p.new.builds ≡ with_order old.builds maker o.path.now = p.ordered.builds ∙ one-from 0 o old.builds maker at in
    let m = mends old.builds maker user o.path.now inside made g is (ap (λ (x : ManifestValue). x.builds) same)
    (record { others = λ e. apart (inl e); forth = λ w. apart (inr w) }) in
    record {
      new = p.new;
      read = p.read;
      provoked = record {
        path = o.path.now;
        is_output = has;
        builds = builds;
        pools = p.ordered.pools;
        defaults = p.ordered.defaults;
        waits = subst (λ bs. Waits bs maker user) (sym builds) m.waits;
        faultless = p.faultless;
      };
    }

-- FAULTS AND OUTPUTS
-- edges without faults have no fault but want of memory
pub faulty : (builds : List BuildValue) (f : GraphFault) → Explains f builds → IsFaultless builds → f ≡ Memory
faulty builds Memory e h = refl
faulty builds TooManyEdges e h = let few = h.few in let never : ⊥ = omega (arith, e, few) in absurd never
faulty builds (MultipleProducers path) e h = let never : None ≡ Some path = sym h.single ∙ e.1 in cc
faulty builds (Cycle path) e h = absurd (h.acyclic e.2.edge e.2.least.on_cycle)

later : (x : List ℕ) (xs : List (List ℕ)) (y : List ℕ) → Contains xs y → Contains (x ∷ xs) y
later x xs y h = Contains-append_right (x ∷ []) xs y h

found-by : (p : List ℕ → Bool) (x : List ℕ) (xs : List (List ℕ)) (y : List ℕ) (b : Bool) → (find p xs ≡ Some y → Contains xs y)
    → cond b (Some x) (find p xs) ≡ Some y → Contains (x ∷ xs) y
found-by p x xs y true rest h =
    let whole : Some x ≡ Some y = h in
    let is : x ≡ y = cc in
    subst (λ z. Contains (x ∷ xs) z) is (Contains-get_or (x ∷ xs) 0 x (omega arith))
found-by p x xs y false rest h = later x xs y (rest h)

-- what is found among paths is one of them
found-among : (p : List ℕ → Bool) (xs : List (List ℕ)) (y : List ℕ) → find p xs ≡ Some y → Contains xs y
found-among p [] y h =
    let never : None ≡ Some y = h in
    absurd (true≢false cc)
found-among p (x ∷ xs) y h = found-by p x xs y (p x) (found-among p xs y) h

either-by : (xs ys : List (List ℕ)) (y : List ℕ) (o r : Option (List ℕ)) → (o ≡ Some y → Contains xs y) → (r ≡ Some y → Contains ys y) → option_or o r ≡ Some y → Contains (xs ++ ys) y
either-by xs ys y None r first second h = Contains-append_right xs ys y (second h)
either-by xs ys y (Some x) r first second h = Contains-append_left xs ys y (first h)

-- what is found among the explicit outputs of an edge, or else among the implicit ones, is an output of it
pub found-output : (p : List ℕ → Bool) (b : BuildValue) (y : List ℕ) → option_or (find p b.explicit_outs) (find p b.implicit_outs) ≡ Some y → Contains (outputs_of b) y
found-output p b y h = either-by b.explicit_outs b.implicit_outs y (find p b.explicit_outs) (find p b.implicit_outs) (found-among p b.explicit_outs y) (found-among p b.implicit_outs y) h

pub output-of : (p : List ℕ → Bool) (o : Option (List ℕ)) (b d : BuildValue) → o ≡ option_or (find p b.explicit_outs) (find p b.implicit_outs) → b ≡ d
    → IfSome o (Contains (outputs_of d))
output-of p None b d e same = tt
output-of p (Some y) b d e same = subst (λ (x : BuildValue). Contains (outputs_of x) y) same (found-output p b y (sym e))
