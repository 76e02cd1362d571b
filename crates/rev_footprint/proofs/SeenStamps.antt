-- The stamps that are seen of an edge's inputs are those of the inputs that count and of what stands behind them.
use Rattle.std.proofs.Common.{◌≡◌, ℕ, Bool, true, false, ◌||◌, List, [], ◌∷◌, ◌++◌, map, flat_map, ◌⊎◌, inl, inr, refl, sym, ap, subst, ◌∙◌, if◌then◌else◌}
use Rattle.std.specs.Ordering.{eq_by_cmp}
use Rattle.std.proofs.lemmas.List.{append-nil, map-append}
use Rattle.std.proofs.lemmas.List.Elements.{filter-append}
use Rattle.rev_manifest.specs.Manifest.{BuildValue}
use Rattle.rev_graph.specs.Graph.{GraphValue, IsGraph, build_at, inputs_of}
use Rattle.rev_cells.specs.declared.cell.Cell.{Cell}
use Rattle.rev_cells.specs.declared.cell.Cell.TheVariants as cell
use Rattle.rev_cells.specs.Keys.{cell_cmp}
use Rattle.rev_cells.specs.State.{State}
use Rattle.rev_cells.proofs.EntryLemmas.{cells_total, cells_exact, cell_eq-exact, cell_eq-cmp}
use Rattle.rev_causal.specs.Order.{Has}
use Rattle.rev_causal.specs.Store.{among}
use Rattle.rev_causal.proofs.Store as store
use Rattle.rev_dirty.specs.declared.input.InputKind.{InputKind}
use Rattle.rev_dirty.specs.declared.input.InputKind.TheVariants.{OnLine, OrderOnly, Listed}
use Rattle.rev_dirty.specs.Inputs.{InputValue, an, inputs, counts, paths_in, deps_record, paths_of}
use Rattle.rev_dirty.specs.Reading.{Sees, Sees.itself, Sees.through}
use Rattle.rev_dirty.specs.Reasons.{counted}
use Rattle.rev_dirty.specs.Seen.{seen_paths, stamp_cells}
use Rattle.rev_dirty.specs.Visible.{line_inputs}
use Rattle.rev_dirty.proofs.ListLemmas.{in-front, in-back, in-map, in-flat}
use Rattle.rev_dirty.proofs.SeesLemmas.{to-has, from-has, append-cases, FromOne, from-flat, seen-are-seen}
use Rattle.rev_footprint.specs.Behind.{phony_producers, next_edges, IsBehind, IsBehind.itself as here, IsBehind.further, AreBehind, stamps_behind}
use Rattle.rev_footprint.proofs.BehindLemmas.{IsPhonyProducer, from-path, to-phony}

-- THE PATHS OF AN EDGE'S INPUTS
paths-an : (kind : InputKind) (paths : List (List ℕ)) → paths_of (map (an kind) paths) ≡ paths
paths-an kind [] = refl
paths-an kind (p ∷ ps) = ap (λ qs. p ∷ qs) (paths-an kind ps)

paths-append : (xs ys : List InputValue) → paths_of (xs ++ ys) ≡ paths_of xs ++ paths_of ys
paths-append xs ys = map-append (λ (input : InputValue). input.path) xs ys

pub all-paths : (state : State) (build : BuildValue) → paths_of (inputs state build) ≡ inputs_of build ++ paths_in (deps_record state build)
all-paths state build =
    let line = map (an OnLine) (build.explicit ++ build.implicit) in
    let order = map (an OrderOnly) build.order_only in
    let listed = map (an Listed) (paths_in (deps_record state build)) in
    paths-append (line ++ order) listed ∙ ap (λ ps. ps ++ paths_of listed) (paths-append line order)
    ∙ (λ i. (paths-an OnLine (build.explicit ++ build.implicit) i ++ paths-an OrderOnly build.order_only i) ++ paths-an Listed (paths_in (deps_record state build)) i)

counted-all : (kind : InputKind) (paths : List (List ℕ)) → counts kind ≡ true → counted (map (an kind) paths) ≡ map (an kind) paths
counted-all kind [] h = refl
counted-all kind (p ∷ ps) h = (λ i. if h i then an kind p ∷ counted-all kind ps h i else counted-all kind ps h i)

counted-none : (paths : List (List ℕ)) → counted (map (an OrderOnly) paths) ≡ []
counted-none [] = refl
counted-none (p ∷ ps) = counted-none ps

pub counted-paths : (state : State) (build : BuildValue) → paths_of (counted (inputs state build)) ≡ line_inputs build ++ paths_in (deps_record state build)
counted-paths state build =
    let counting = λ (input : InputValue). counts input.kind in
    let line = map (an OnLine) (line_inputs build) in
    let order = map (an OrderOnly) build.order_only in
    let listed = map (an Listed) (paths_in (deps_record state build)) in
    let parts : counted (inputs state build) ≡ line ++ listed =
    filter-append counting (line ++ order) listed ∙ ap (λ xs. xs ++ counted listed) (filter-append counting line order)
    ∙ (λ i. (counted-all OnLine (line_inputs build) refl i ++ counted-none build.order_only i) ++ counted-all Listed (paths_in (deps_record state build)) refl i)
    ∙ ap (λ xs. xs ++ listed) (append-nil line) in
    ap paths_of parts ∙ paths-append line listed ∙ (λ i. paths-an OnLine (line_inputs build) i ++ paths-an Listed (paths_in (deps_record state build)) i)

-- CELLS IN LISTS
iff : (x y : Bool) → (x ≡ true → y ≡ true) → (y ≡ true → x ≡ true) → x ≡ y
iff true y to back = sym (to refl)
iff false true to back = back refl
iff false false to back = refl

has-among-by : (x k : Cell) (ks : List Cell) (b : Bool) → eq_by_cmp cell_cmp k x ≡ b → (among cell_cmp ks k ≡ true → Has ks k) → (b || among cell_cmp ks k) ≡ true → Has (x ∷ ks) k
has-among-by x k ks true is rest h = inl (sym (cell_eq-exact k x (cell_eq-cmp k x ∙ is)))
has-among-by x k ks false is rest h = inr (rest h)

pub has-among : (ks : List Cell) (k : Cell) → among cell_cmp ks k ≡ true → Has ks k
has-among [] k h = absurd (let no : false ≡ true = h in cc)
has-among (x ∷ ks) k h = has-among-by x k ks (eq_by_cmp cell_cmp k x) refl (has-among ks k) h

pub among-has : (ks : List Cell) (k : Cell) → Has ks k → among cell_cmp ks k ≡ true
among-has ks k h = store.among_has cells_total cells_exact ks k h

-- lists with the same cells
pub same-among : (xs ys : List Cell) → ((c : Cell) → Has xs c → Has ys c) → ((c : Cell) → Has ys c → Has xs c) → (c : Cell) → among cell_cmp xs c ≡ among cell_cmp ys c
same-among xs ys to back c =
    iff (among cell_cmp xs c) (among cell_cmp ys c) (λ h. among-has ys c (to c (has-among xs c h))) (λ h. among-has xs c (back c (has-among ys c h)))

record FromStamp (paths : List (List ℕ)) (c : Cell) : Type 0 where
  path : List ℕ
  there : Has paths path
  is : cell.Stamp path ≡ c

from-stamp : (paths : List (List ℕ)) (c : Cell) → Has (stamp_cells paths) c → FromStamp paths c
from-stamp [] c h = absurd h
from-stamp (p ∷ paths) c (inl e) = record { path = p; there = inl refl; is = e }
from-stamp (p ∷ paths) c (inr h) =
    let r = from-stamp paths c h in
    record { path = r.path; there = inr r.there; is = r.is }

module _ (graph : GraphValue) (is : IsGraph graph) (roots : List (List ℕ)) (all : List ℕ) (behind : AreBehind graph.manifest.builds (phony_producers graph.manifest.builds roots) all) where
  abbrev builds : List BuildValue
  builds = graph.manifest.builds

  sees-then : {a b c : List ℕ} → Sees builds a b → Sees builds b c → Sees builds a c
  sees-then itself way = way
  sees-then (through edge next e p at rest) way = through edge next e p at (sees-then rest way)

  -- A path that is reached: one of these, or an input that counts of an edge behind them
  abbrev Reached : List ℕ → Type 0
  Reached path = Has roots path ⊎ FromOne (λ edge. line_inputs (build_at builds edge)) all path

  edge-reached : (path : List ℕ) (edge : ℕ) → Reached path → IsPhonyProducer builds path edge → Has all edge
  edge-reached path edge (inl root) p = behind.kept edge (to-phony builds roots path edge root p)
  edge-reached path edge (inr r) p = behind.closed r.item edge r.there (to-phony builds (line_inputs (build_at builds r.item)) path edge r.gives p)

  reached : {path other : List ℕ} → Sees builds path other → Reached path → Reached other
  reached itself r = r
  reached {path} (through edge next e p at rest) r =
      reached rest (inr (record { item = edge; there = edge-reached path edge r (record { produces = e; phony = p }); gives = to-has (line_inputs (build_at builds edge)) next at }))

  -- an edge that is behind these paths produces one that is seen from them
  record SeenEdge (edge : ℕ) : Type 0 where
    root : List ℕ
    path : List ℕ
    there : Has roots root
    sees : Sees builds root path
    produces : IsPhonyProducer builds path edge

  seen-next : (edge other : ℕ) → SeenEdge edge → Has (next_edges builds edge) other → SeenEdge other
  seen-next edge other s h =
      let r = from-path builds (line_inputs (build_at builds edge)) other h in
      record {
        root = s.root;
        path = r.path;
        there = s.there;
        sees = sees-then s.sees (through edge r.path s.produces.produces s.produces.phony (from-has (line_inputs (build_at builds edge)) r.path r.there) itself);
        produces = r.produces;
      }

  seen-edge : {edge : ℕ} → IsBehind builds (phony_producers builds roots) edge → SeenEdge edge
  seen-edge (here {edge} h) =
      let r = from-path builds roots edge h in
      record { root = r.path; path = r.path; there = r.there; sees = itself; produces = r.produces }
  seen-edge (further {edge} {other} way h) = seen-next edge other (seen-edge way) h

  stamp-seen : (root path : List ℕ) (c : Cell) → Has roots root → Sees builds root path → cell.Stamp path ≡ c → Has (stamp_cells (flat_map (seen_paths builds) roots)) c
  stamp-seen root path c at sees e =
      subst (Has (stamp_cells (flat_map (seen_paths builds) roots))) e
      (in-map cell.Stamp (flat_map (seen_paths builds) roots) path (in-flat (seen_paths builds) roots root path at ((seen-are-seen graph root path is).1 sees)))

  to-seen : (c : Cell) → Has (stamp_cells roots ++ stamps_behind builds all) c → Has (stamp_cells (flat_map (seen_paths builds) roots)) c
  to-seen c h = elim (append-cases (stamp_cells roots) (stamps_behind builds all) c h) [
    | inl l ↦
        let r = from-stamp roots c l in
        stamp-seen r.path r.path c r.there itself r.is
    | inr l ↦
        let r = from-flat (λ edge. stamp_cells (line_inputs (build_at builds edge))) all c l in
        let p = from-stamp (line_inputs (build_at builds r.item)) c r.gives in
        let s = seen-edge (behind.behind r.item r.there) in
        stamp-seen s.root p.path c s.there
        (sees-then s.sees (through r.item p.path s.produces.produces s.produces.phony (from-has (line_inputs (build_at builds r.item)) p.path p.there) itself)) p.is
  ]

  place : (path : List ℕ) (c : Cell) → cell.Stamp path ≡ c → Reached path → Has (stamp_cells roots ++ stamps_behind builds all) c
  place path c e (inl root) =
      in-front (stamp_cells roots) (stamps_behind builds all) c (subst (Has (stamp_cells roots)) e (in-map cell.Stamp roots path root))
  place path c e (inr r) =
      in-back (stamp_cells roots) (stamps_behind builds all) c
      (in-flat (λ edge. stamp_cells (line_inputs (build_at builds edge))) all r.item c r.there
      (subst (Has (stamp_cells (line_inputs (build_at builds r.item)))) e (in-map cell.Stamp (line_inputs (build_at builds r.item)) path r.gives)))

  from-seen : (c : Cell) → Has (stamp_cells (flat_map (seen_paths builds) roots)) c → Has (stamp_cells roots ++ stamps_behind builds all) c
  from-seen c h =
      let s = from-stamp (flat_map (seen_paths builds) roots) c h in
      let r = from-flat (seen_paths builds) roots s.path s.there in
      place s.path c s.is (reached ((seen-are-seen graph r.item s.path is).0 r.gives) (inl r.there))

  -- the stamps of these paths and of the inputs of the edges behind them are those of the seen paths
  pub seen-among : (c : Cell) → among cell_cmp (stamp_cells roots ++ stamps_behind builds all) c ≡ among cell_cmp (stamp_cells (flat_map (seen_paths builds) roots)) c
  seen-among = same-among (stamp_cells roots ++ stamps_behind builds all) (stamp_cells (flat_map (seen_paths builds) roots)) to-seen from-seen
