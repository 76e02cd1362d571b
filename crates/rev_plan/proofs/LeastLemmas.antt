-- The functions of a plan give the least sets.
use Rattle.std.proofs.Common.{◌≡◌, ℕ, Bool, true, false, not, ◌&&◌, List, [], ◌∷◌, slice_index_or, Contains, ◌⊎◌, inl, inr, refl, sym, ap, subst, ◌∙◌, arith, true≢false, if◌then◌else◌}
use Rattle.std.specs.List.{filter_map}
use Rattle.std.proofs.Math.ListN.{get_or-map}
use Rattle.std.proofs.lemmas.List.Elements.{Contains-get_or, Contains-append_right, Contains-append_left, Contains-append_cases}
use Rattle.rev_manifest.specs.Manifest.{BuildValue}
use Rattle.rev_graph.specs.Graph.{build_at, no_build, producer_of}
use Rattle.rev_graph.proofs.StepLemmas.{source, kept, only}
use Rattle.rev_cells.specs.State.{State}
use Rattle.rev_dirty.specs.Inputs.{InputValue, inputs, counts, paths_of, producers_in}
use Rattle.rev_dirty.specs.Reasons.{counted}
use Rattle.rev_ranks.specs.Graph.{successors_of, Steps, Reaches, Reaches.step as one, Reaches.further as on}
use Rattle.rev_plan.specs.Laws.{SetsAreLeast}
use Rattle.rev_ranks.specs.Leads.{leads_to, IsReachable, IsReachable.root as first, IsReachable.behind as from}
use Rattle.rev_plan.specs.Least.{StepsBy, Reached, Reached.target, Reached.needed, Wanted, Wanted.dirty, Wanted.behind, Through, Through.near, Through.beyond}
use Rattle.rev_plan.specs.Plan.{input_paths, counted_paths, needed_paths, edges_by, is_dirty, is_reached, is_wanted, is_through}
use Rattle.rev_ranks.proofs.LeadsLemmas.{or-cases, or-left, or-right, leads-sound, leads-complete}
use Rattle.rev_ranks.proofs.ReachableLemmas.{reachable_more}
use Rattle.rev_ranks.proofs.SetLemmas.{reachable-sound, reachable-complete}

pub and-both : (a b : Bool) → (a && b) ≡ true → (a ≡ true) × (b ≡ true)
and-both true b h = (refl, h)
and-both false b h = absurd (true≢false (sym h))

pub both-and : (a b : Bool) → a ≡ true → b ≡ true → (a && b) ≡ true
both-and true b h k = k
both-and false b h k = cc

not-not : (b : Bool) → not b ≡ true → b ≡ true → ⊥
not-not true h k = absurd (true≢false (sym h))
not-not false h k = absurd (true≢false (sym k))

is-not : (b : Bool) → (b ≡ true → ⊥) → not b ≡ true
is-not true h = absurd (h refl)
is-not false h = refl

decide : (b : Bool) → (b ≡ true) ⊎ (b ≡ true → ⊥)
decide true = inl refl
decide false = inr (λ h. true≢false (sym h))

-- STEPS OF EDGES AND OF NODES
module _ (paths : BuildValue → List (List ℕ)) (empty : paths no_build ≡ []) (builds : List BuildValue) where
  pub list-at : (edge : ℕ) → successors_of (edges_by paths builds) edge ≡ filter_map (producer_of builds) (paths (build_at builds edge))
  list-at edge =
      ap (λ ps. slice_index_or (edges_by paths builds) edge (filter_map (producer_of builds) ps)) (sym empty)
      ∙ get_or-map (λ build. filter_map (producer_of builds) (paths build)) builds edge no_build

  pub to-node : (edge other : ℕ) → StepsBy paths builds edge other → Steps (edges_by paths builds) edge other
  to-node edge other s = subst (λ list. Contains list other) (sym (list-at edge)) (kept (producer_of builds) (paths (build_at builds edge)) s.path other s.is_path s.produced)

  pub from-node : (edge other : ℕ) → Steps (edges_by paths builds) edge other → StepsBy paths builds edge other
  from-node edge other h =
      let s = source (producer_of builds) (paths (build_at builds edge)) other (subst (λ list. Contains list other) (list-at edge) h) in
      record { path = s.item; is_path = s.is_item; produced = s.gives }

module _ (builds : List BuildValue) (state : State) (targets : List (List ℕ)) where
  abbrev roots : List ℕ
  roots = producers_in builds targets

  abbrev Needs : List (List ℕ)
  Needs = edges_by (needed_paths state) builds

  abbrev Counted : List (List ℕ)
  Counted = edges_by (counted_paths state) builds

  abbrev Inputs : List (List ℕ)
  Inputs = edges_by (input_paths state) builds

  need : (edge other : ℕ) → StepsBy (needed_paths state) builds edge other → Steps Needs edge other
  need = to-node (needed_paths state) refl builds

  is-need : (edge other : ℕ) → Steps Needs edge other → StepsBy (needed_paths state) builds edge other
  is-need = from-node (needed_paths state) refl builds

  -- REACHED
  along : {a b : ℕ} → Reached builds state targets a → Reaches Needs a b → Reached builds state targets b
  along {a} {b} r (one h) = needed r (is-need a b h)
  along {a} r (on {s = s} h way) = along (needed r (is-need a s h)) way

  root-reached : (edge : ℕ) → Contains roots edge → Reached builds state targets edge
  root-reached edge h =
      let s = source (producer_of builds) targets edge h in
      target s.item s.is_item s.gives

  reached-of : (edge : ℕ) → IsReachable Needs roots edge → Reached builds state targets edge
  reached-of edge (first h) = root-reached edge h
  reached-of edge (from {start = start} h way) = along (root-reached start h) way

  reachable-of : {edge : ℕ} → Reached builds state targets edge → IsReachable Needs roots edge
  reachable-of {edge} (target path h e) = first (kept (producer_of builds) targets path edge h e)
  reachable-of {edge} (needed {edge = middle} r s) = reachable_more edge (reachable-of r) (need middle edge s)

  pub reached-sound : (edge : ℕ) → is_reached builds state roots edge ≡ true → Reached builds state targets edge
  unfolding is_reached
  reached-sound edge h = reached-of edge (reachable-sound Needs roots edge h)

  pub reached-complete : {edge : ℕ} → Reached builds state targets edge → is_reached builds state roots edge ≡ true
  unfolding is_reached
  reached-complete {edge} r = reachable-complete Needs roots edge (reachable-of r)

  -- STEPS OF FEWER KINDS ARE STEPS OF MORE
  pub input-need : (edge other : ℕ) → StepsBy (input_paths state) builds edge other → StepsBy (needed_paths state) builds edge other
  input-need edge other s =
      let build = build_at builds edge in
      record { path = s.path; is_path = Contains-append_left (input_paths state build) build.validations s.path s.is_path; produced = s.produced }

  counted-by : (input : InputValue) (all : List InputValue) (path : List ℕ) → (Contains (paths_of (counted all)) path → Contains (paths_of all) path)
      → (b : Bool) → Contains (paths_of (if b then input ∷ counted all else counted all)) path → Contains (paths_of (input ∷ all)) path
  counted-by input all path rest true h = elim (Contains-append_cases (input.path ∷ []) (paths_of (counted all)) path h) [
    | inl here ↦ subst (Contains (paths_of (input ∷ all))) (only input.path path here) (Contains-get_or (paths_of (input ∷ all)) 0 input.path (omega arith))
    | inr there ↦ Contains-append_right (input.path ∷ []) (paths_of all) path (rest there)
  ]
  counted-by input all path rest false h = Contains-append_right (input.path ∷ []) (paths_of all) path (rest h)

  counted-input : (all : List InputValue) (path : List ℕ) → Contains (paths_of (counted all)) path → Contains (paths_of all) path
  counted-input [] path (k, within, at) = absurd (omega (arith, within))
  counted-input (input ∷ all) path h = counted-by input all path (counted-input all path) (counts input.kind) h

  pub counted-need : (edge other : ℕ) → StepsBy (counted_paths state) builds edge other → StepsBy (needed_paths state) builds edge other
  counted-need edge other s =
      input-need edge other (record { path = s.path; is_path = counted-input (inputs state (build_at builds edge)) s.path s.is_path; produced = s.produced })

  -- WANTED
  wanted-way : {edge other : ℕ} → Reached builds state targets edge → Reaches Counted edge other → is_dirty builds state other ≡ true → Wanted builds state targets edge
  wanted-way {edge} {other} r (one h) d =
      let s = from-node (counted_paths state) refl builds edge other h in
      behind r s (dirty (needed r (counted-need edge other s)) d)
  wanted-way {edge} r (on {s = m} h way) d =
      let s = from-node (counted_paths state) refl builds edge m h in
      behind r s (wanted-way (needed r (counted-need edge m s)) way d)

  wanted-sound : (edge : ℕ) → is_wanted builds state roots edge ≡ true → Wanted builds state targets edge
  unfolding is_wanted
  wanted-sound edge h =
      let both = and-both (is_reached builds state roots edge) _ h in
      let r = reached-sound edge both.0 in
      elim (or-cases (is_dirty builds state edge) (leads_to Counted (is_dirty builds state) edge) both.1) [
        | inl here ↦ dirty r here
        | inr there ↦
            let f = leads-sound Counted (is_dirty builds state) edge there in
            wanted-way r f.way f.passes
      ]

  -- an edge that steps to one that is dirty or leads to a dirty one leads to it
  leads-by : (edge other : ℕ) → StepsBy (counted_paths state) builds edge other → (is_dirty builds state other ≡ true) ⊎ (leads_to Counted (is_dirty builds state) other ≡ true) → leads_to Counted (is_dirty builds state) edge ≡ true
  leads-by edge other s (inl here) = leads-complete Counted (is_dirty builds state) edge other (one (to-node (counted_paths state) refl builds edge other s)) here
  leads-by edge other s (inr there) =
      let f = leads-sound Counted (is_dirty builds state) other there in
      leads-complete Counted (is_dirty builds state) edge f.other (on (to-node (counted_paths state) refl builds edge other s) f.way) f.passes

  wanted-complete : {edge : ℕ} → Wanted builds state targets edge → is_wanted builds state roots edge ≡ true
  unfolding is_wanted
  wanted-complete {edge} (dirty r d) = both-and (is_reached builds state roots edge) _ (reached-complete r) (or-left (is_dirty builds state edge) _ d)
  wanted-complete {edge} (behind {other = other} r s w) =
      let both = and-both (is_reached builds state roots other) _ (wanted-complete w) in
      both-and (is_reached builds state roots edge) _ (reached-complete r)
      (or-right (is_dirty builds state edge) _ (leads-by edge other s (or-cases (is_dirty builds state other) (leads_to Counted (is_dirty builds state) other) both.1)))

  -- THROUGH
  wanted-or : (edge : ℕ) → Wanted builds state targets edge ⊎ (Wanted builds state targets edge → ⊥)
  wanted-or edge = elim (decide (is_wanted builds state roots edge)) [ inl h ↦ inl (wanted-sound edge h) | inr h ↦ inr (λ w. h (wanted-complete w)) ]

  through-way : {edge other : ℕ} → Reached builds state targets edge → (Wanted builds state targets edge → ⊥) → Reaches Inputs edge other → Wanted builds state targets other → Through builds state targets edge
  through-way {edge} {other} r none (one h) w = near r none (from-node (input_paths state) refl builds edge other h) w
  through-way {edge} r none (on {s = m} h way) w =
      let s = from-node (input_paths state) refl builds edge m h in
      elim (wanted-or m) [
        | inl here ↦ near r none s here
        | inr other ↦ beyond r none s (through-way (needed r (input-need edge m s)) other way w)
      ]

  through-sound : (edge : ℕ) → is_through builds state roots edge ≡ true → Through builds state targets edge
  unfolding is_through
  through-sound edge h =
      let all = is_wanted builds state roots in
      let parts = and-three (is_reached builds state roots edge) (not (is_wanted builds state roots edge)) (leads_to Inputs (is_wanted builds state roots) edge) h in
      let f = leads-sound Inputs (is_wanted builds state roots) edge parts.2 in
      through-way (reached-sound edge parts.0) (λ w. not-not (is_wanted builds state roots edge) parts.1 (wanted-complete w)) f.way (wanted-sound f.other f.passes)
    where
      and-three : (a b c : Bool) → (a && b && c) ≡ true → (a ≡ true) × (b ≡ true) × (c ≡ true)
      and-three true true c h = (refl, refl, h)
      and-three true false c h = absurd (true≢false (sym h))
      and-three false b c h = absurd (true≢false (sym h))

  all-three : (a b c : Bool) → a ≡ true → b ≡ true → c ≡ true → (a && b && c) ≡ true
  all-three true true c h k l = l
  all-three true false c h k l = cc
  all-three false b c h k l = cc

  through-leads : {edge : ℕ} → Through builds state targets edge → leads_to Inputs (is_wanted builds state roots) edge ≡ true
  through-leads {edge} (near {other = other} r none s w) =
      leads-complete Inputs (is_wanted builds state roots) edge other (one (to-node (input_paths state) refl builds edge other s)) (wanted-complete w)
  through-leads {edge} (beyond {other = other} r none s t) =
      let f = leads-sound Inputs (is_wanted builds state roots) other (through-leads t) in
      leads-complete Inputs (is_wanted builds state roots) edge f.other (on (to-node (input_paths state) refl builds edge other s) f.way) f.passes

  through-by : (edge : ℕ) → Reached builds state targets edge → (Wanted builds state targets edge → ⊥) → leads_to Inputs (is_wanted builds state roots) edge ≡ true → is_through builds state roots edge ≡ true
  unfolding is_through
  through-by edge r none leads =
      all-three (is_reached builds state roots edge) (not (is_wanted builds state roots edge)) (leads_to Inputs (is_wanted builds state roots) edge) (reached-complete r)
      (is-not (is_wanted builds state roots edge) (λ h. none (wanted-sound edge h))) leads

  through-complete : {edge : ℕ} → Through builds state targets edge → is_through builds state roots edge ≡ true
  through-complete {edge} (near r none s w) = through-by edge r none (through-leads (near r none s w))
  through-complete {edge} (beyond r none s t) = through-by edge r none (through-leads (beyond r none s t))

pub sets-are-least : SetsAreLeast
sets-are-least = record {
  reached = λ builds state targets edge. (reached-sound builds state targets edge, reached-complete builds state targets);
  wanted = λ builds state targets edge. (wanted-sound builds state targets edge, wanted-complete builds state targets);
  through = λ builds state targets edge. (through-sound builds state targets edge, through-complete builds state targets);
}
