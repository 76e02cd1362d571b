-- Steps of edges and of nodes.
use Rattle.std.proofs.Common.{◌≡◌, ℕ, ◌+◌, ◌<◌, ◌≤◌, suc, zero, Bool, true, false, List, [], ◌∷◌, length, get_or, map, Option, Some, None, refl, sym, ap, subst, ◌∙◌, arith, if◌then◌else◌, Contains, ◌⊎◌, inl, inr, add-zero}
use Rattle.std.specs.List.{All, filter_map, cons_option}
use Rattle.std.specs.Global.{Vec}
use Rattle.std.proofs.Math.ListN.{get_or-map}
use Rattle.std.proofs.lemmas.List.{get_or-map as at-map, length-map}
use Rattle.std.proofs.lemmas.List.Elements.{Contains-get_or, Contains-append_right, Contains-append_cases, Contains-push_cases}
use Rattle.rev_manifest.specs.Manifest.{BuildValue}
use Rattle.rev_ranks.specs.Graph.{graph_of, successors_of, Steps, Reaches, Reaches.step as one_step, Reaches.further as then_on, AreRanks}
use Rattle.rev_ranks.specs.Graph as nodes
use Rattle.rev_graph.specs.Graph.{build_at, no_build, has_path, outputs_of, inputs_of, producer_from, producer_of, input_producers, successor_lists, EdgeSteps, EdgeReaches, EdgeReaches.step as one_edge_step, EdgeReaches.further as then_on_edges, IsLeastOnCycle, IsRanked, rank_at}
use Rattle.rev_graph.proofs.GraphLemmas.{producer_of-within}

-- what is kept of mapped items
filter_map-map : {X Y : Type 0} (f : X → Option Y) (xs : List X) → filter_map (λ o. o) (map f xs) ≡ filter_map f xs
filter_map-map f [] = refl
filter_map-map f (x ∷ xs) = ap (cons_option (f x)) (filter_map-map f xs)

successors-by : (all builds : List BuildValue) → map (filter_map (λ producer. producer)) (map (input_producers all) builds) ≡ map (λ build. filter_map (producer_of all) (inputs_of build)) builds
successors-by all [] = refl
successors-by all (b ∷ bs) = (λ i. filter_map-map (producer_of all) (inputs_of b) i ∷ successors-by all bs i)

-- the edges among the producers are those that each edge steps to
pub successors-are : (builds : List BuildValue) (lists : List (List (Option ℕ))) → lists ≡ map (input_producers builds) builds → map (filter_map (λ producer. producer)) lists ≡ successor_lists builds
successors-are builds lists h = ap (map (filter_map (λ producer. producer))) h ∙ successors-by builds builds

pub only : {X : Type 0} (z y : X) → Contains (z ∷ []) y → z ≡ y
only z y h = elim (Contains-push_cases [] z y h) [ inl (k, within, at) ↦ absurd (omega (arith, within)) | inr e ↦ e ]

-- an item that is kept comes from one
pub record Source {X Y : Type 0} (f : X → Option Y) (xs : List X) (y : Y) : Type 0 where
  pub item : X
  pub is_item : Contains xs item
  pub gives : f item ≡ Some y

later : {X Y : Type 0} (f : X → Option Y) (x : X) (xs : List X) (y : Y) → Source f xs y → Source f (x ∷ xs) y
later f x xs y s = record { item = s.item; is_item = Contains-append_right (x ∷ []) xs s.item s.is_item; gives = s.gives }

source-by : {X Y : Type 0} (f : X → Option Y) (x : X) (xs : List X) (y : Y) (o : Option Y) → f x ≡ o → (Contains (filter_map f xs) y → Source f xs y) → Contains (cons_option o (filter_map f xs)) y → Source f (x ∷ xs) y
source-by f x xs y None e rest h = later f x xs y (rest h)
source-by f x xs y (Some z) e rest h =
    elim (Contains-append_cases (z ∷ []) (filter_map f xs) y h) [
      | inl here ↦ record { item = x; is_item = Contains-get_or (x ∷ xs) 0 x (omega arith); gives = e ∙ ap Some (only z y here) }
      | inr there ↦ later f x xs y (rest there)
    ]

pub source : {X Y : Type 0} (f : X → Option Y) (xs : List X) (y : Y) → Contains (filter_map f xs) y → Source f xs y
source f [] y (k, within, at) = absurd (omega (arith, within))
source f (x ∷ xs) y h = source-by f x xs y (f x) refl (source f xs y) h

kept-by : {Y : Type 0} (o : Option Y) (rest : List Y) (y : Y) → Contains rest y → Contains (cons_option o rest) y
kept-by None rest y h = h
kept-by (Some z) rest y h = Contains-append_right (z ∷ []) rest y h

first-kept : {Y : Type 0} (o : Option Y) (rest : List Y) (y : Y) → o ≡ Some y → Contains (cons_option o rest) y
first-kept o rest y e = subst (λ p. Contains (cons_option p rest) y) (sym e) (Contains-get_or (y ∷ rest) 0 y (omega arith))

kept-cases : {X Y : Type 0} (f : X → Option Y) (z : X) (xs : List X) (x : X) (y : Y) → f x ≡ Some y → (Contains xs x → f x ≡ Some y → Contains (filter_map f xs) y)
    → Contains (z ∷ []) x ⊎ Contains xs x → Contains (filter_map f (z ∷ xs)) y
kept-cases f z xs x y e rest (inl here) = first-kept (f z) (filter_map f xs) y (ap f (only z x here) ∙ e)
kept-cases f z xs x y e rest (inr there) = kept-by (f z) (filter_map f xs) y (rest there e)

-- an item that gives something is kept
pub kept : {X Y : Type 0} (f : X → Option Y) (xs : List X) (x : X) (y : Y) → Contains xs x → f x ≡ Some y → Contains (filter_map f xs) y
kept f [] x y (k, within, at) e = absurd (omega (arith, within))
kept f (z ∷ xs) x y h e = kept-cases f z xs x y e (kept f xs x y) (Contains-append_cases (z ∷ []) xs x h)

-- the edges that an edge steps to
list-at : (builds : List BuildValue) (edge : ℕ) → successors_of (successor_lists builds) edge ≡ filter_map (producer_of builds) (inputs_of (build_at builds edge))
list-at builds edge = get_or-map (λ build. filter_map (producer_of builds) (inputs_of build)) builds edge no_build

pub node_step : (builds : List BuildValue) (edge producer : ℕ) → EdgeSteps builds edge producer → Steps (successor_lists builds) edge producer
node_step builds edge producer s =
    subst (λ list. Contains list producer) (sym (list-at builds edge)) (kept (producer_of builds) (inputs_of (build_at builds edge)) s.path producer s.is_input s.produced)

pub edge_step : (builds : List BuildValue) (edge producer : ℕ) → Steps (successor_lists builds) edge producer → EdgeSteps builds edge producer
edge_step builds edge producer h =
    let s = source (producer_of builds) (inputs_of (build_at builds edge)) producer (subst (λ list. Contains list producer) (list-at builds edge) h) in
    record { path = s.item; is_input = s.is_item; produced = s.gives }

-- ways of edges are ways of nodes, and the other way round
pub node_way : {builds : List BuildValue} {edge other : ℕ} → EdgeReaches builds edge other → Reaches (successor_lists builds) edge other
node_way {builds} {edge} {other} (one_edge_step s) = one_step (node_step builds edge other s)
node_way {builds} {edge} {other} (then_on_edges {middle = middle} s w) = then_on (node_step builds edge middle s) (node_way w)

pub edge_way : {builds : List BuildValue} {edge other : ℕ} → Reaches (successor_lists builds) edge other → EdgeReaches builds edge other
edge_way {builds} {edge} {other} (one_step s) = one_edge_step (edge_step builds edge other s)
edge_way {builds} {edge} {other} (then_on {s = middle} s w) = then_on_edges (edge_step builds edge middle s) (edge_way w)

-- as many lists as edges
pub length-successors : (builds : List BuildValue) (vectors : List (Vec ℕ)) → graph_of vectors ≡ successor_lists builds → length vectors ≡ length builds
length-successors builds vectors h =
    sym (length-map vectors (λ (v : Vec ℕ). v.items)) ∙ ap length h ∙ length-map builds (λ build. filter_map (producer_of builds) (inputs_of build))

-- each edge that is stepped to is one
pub step-within : (builds : List BuildValue) (edge producer : ℕ) → Steps (successor_lists builds) edge producer → producer < length builds
step-within builds edge producer h =
    let s = edge_step builds edge producer h in
    producer_of-within s.path builds producer s.produced

pub all-within : (builds : List BuildValue) (vectors : List (Vec ℕ)) → graph_of vectors ≡ successor_lists builds → All (λ v. All (λ s. s < length vectors) v.items) vectors
all-within builds vectors h = λ k d within j e inside.
    let list : List ℕ = (get_or vectors k d).items in
    let same : get_or (graph_of vectors) k [] ≡ list = at-map (λ (v : Vec ℕ). v.items) vectors k d [] within in
    let step : Steps (successor_lists builds) k (get_or list j e) =
    subst (λ l. Contains l (get_or list j e)) (sym same ∙ ap (λ g. get_or g k []) h) (Contains-get_or list j e inside) in
    omega (arith, step-within builds k (get_or list j e) step, length-successors builds vectors h)

pub length-lists : (builds : List BuildValue) → length (successor_lists builds) ≡ length builds
length-lists builds = length-map builds (λ build. filter_map (producer_of builds) (inputs_of build))

-- ranks of nodes are ranks of edges
pub ranked-edges : (builds : List BuildValue) (ranks : List ℕ) → AreRanks (successor_lists builds) ranks → IsRanked builds ranks
ranked-edges builds ranks r =
    let count : length (successor_lists builds) ≡ length builds = length-map builds (λ build. filter_map (producer_of builds) (inputs_of build)) in
    record {
      one_each = r.length_is ∙ count;
      below = λ edge within.
          let inside : edge < length ranks = omega (arith, within, r.length_is, count) in
          omega (arith, r.bounded edge 0 inside, count);
      falls = λ edge producer s. r.falls edge producer (node_step builds edge producer s);
    }

-- the least node that reaches itself is the least edge that does
pub least-edge : (builds : List BuildValue) (edge : ℕ) → nodes.IsLeastOnCycle (successor_lists builds) edge → IsLeastOnCycle builds edge
least-edge builds edge h =
    let count : length (successor_lists builds) ≡ length builds = length-map builds (λ build. filter_map (producer_of builds) (inputs_of build)) in
    record {
      is_edge = omega (arith, h.is_node, count);
      on_cycle = edge_way h.on_cycle;
      least = λ other lesser way. h.least other lesser (node_way way);
    }

above-by : (n p : ℕ) (rest : Option ℕ) (t : Bool) → (rest ≡ Some p → n + 1 ≤ p) → (if t then Some n else rest) ≡ Some p → n ≤ p
above-by n p rest true h e =
    let same : n ≡ p = cc in
    omega arith
above-by n p rest false h e = omega (arith, h e)

-- producers are numbered from the first
producer_from-above : (n : ℕ) (path : List ℕ) (builds : List BuildValue) (p : ℕ) → producer_from n path builds ≡ Some p → n ≤ p
producer_from-above n path [] p h =
    let no : None ≡ Some p = h in
    cc
producer_from-above n path (b ∷ bs) p h = above-by n p (producer_from (n + 1) path bs) (has_path (outputs_of b) path) (producer_from-above (n + 1) path bs p) h

first-is : (n p : ℕ) (rest : Option ℕ) (t : Bool) → (rest ≡ Some p → n + 1 ≤ p) → (if t then Some n else rest) ≡ Some p → p ≡ n → t ≡ true
first-is n p rest true h e same = refl
first-is n p rest false h e same = absurd (omega (arith, h e))

later-is : (n p : ℕ) (rest : Option ℕ) (t : Bool) → (if t then Some n else rest) ≡ Some p → n < p → rest ≡ Some p
later-is n p rest true e above =
    let same : n ≡ p = cc in
    absurd (omega arith)
later-is n p rest false e above = e

-- a producer has the path among its outputs
pub produced-output : (n : ℕ) (path : List ℕ) (builds : List BuildValue) (p k : ℕ) → producer_from n path builds ≡ Some p → p ≡ n + k → has_path (outputs_of (get_or builds k no_build)) path ≡ true
produced-output n path [] p k h e =
    let no : None ≡ Some p = h in
    cc
produced-output n path (b ∷ bs) p zero h e = first-is n p (producer_from (n + 1) path bs) (has_path (outputs_of b) path) (producer_from-above (n + 1) path bs p) h (e ∙ add-zero n)
produced-output n path (b ∷ bs) p (suc k) h e =
    produced-output (n + 1) path bs p k (later-is n p (producer_from (n + 1) path bs) (has_path (outputs_of b) path) h (omega arith)) (omega arith)

some-output : (paths : List (List ℕ)) (path : List ℕ) → has_path paths path ≡ true → 0 < length paths
some-output [] path h =
    let no : false ≡ true = h in
    cc
some-output (x ∷ xs) path h = omega arith

-- an edge that is reached has outputs
pub reached-outputs : {builds : List BuildValue} {edge other : ℕ} → EdgeReaches builds edge other → 0 < length (outputs_of (build_at builds other))
reached-outputs {builds} {edge} {other} (one_edge_step s) =
    some-output (outputs_of (build_at builds other)) s.path (produced-output 0 s.path builds other other s.produced (omega arith))
reached-outputs {builds} {edge} {other} (then_on_edges s w) = reached-outputs w

reaches-falls : (builds : List BuildValue) (ranks : List ℕ) → IsRanked builds ranks → {edge other : ℕ} → EdgeReaches builds edge other → rank_at ranks other < rank_at ranks edge
reaches-falls builds ranks ranked {edge} {other} (one_edge_step s) = ranked.falls edge other s
reaches-falls builds ranks ranked {edge} {other} (then_on_edges {middle = middle} s w) = omega (arith, ranked.falls edge middle s, reaches-falls builds ranks ranked w)

-- where ranks fall along each step no edge reaches itself
pub ranked-acyclic : (builds : List BuildValue) (ranks : List ℕ) → IsRanked builds ranks → (edge : ℕ) → EdgeReaches builds edge edge → ⊥
ranked-acyclic builds ranks ranked edge way = omega (arith, reaches-falls builds ranks ranked way)
