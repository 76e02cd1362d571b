-- The steps of an edge as the code lists them.
use Rattle.std.proofs.Common.{◌≡◌, ℕ, ◌+◌, zero, suc, add-one, ◌<◌, Bool, true, false, List, [], ◌∷◌, ◌++◌, map, length, get_or, Contains, Option, refl, sym, ap, subst, ◌∙◌, arith, if◌then◌else◌}
use Rattle.std.specs.List.{filter_map, cons_option, range_with_len, All}
use Rattle.std.proofs.lemmas.List.{append-nil, append_assoc, length-map}
use Rattle.std.proofs.lemmas.List.Elements.{filter_map-append, Contains-get_or}
use Rattle.std.proofs.lemmas.List.FromFn.{get_or-map-range_with_len, length-map-range_with_len}
use Rattle.rev_manifest.specs.Manifest.{BuildValue}
use Rattle.rev_graph.specs.Graph.{build_at, no_build, producer_of}
use Rattle.rev_graph.proofs.GraphLemmas.{producer_of-within}
use Rattle.rev_graph.proofs.StepLemmas.{source}
use Rattle.std.specs.Global.{Vec}
use Rattle.rev_ranks.specs.Graph.{graph_of, successors_of, Steps}
use Rattle.rev_ranks.specs.Sets.{IsMarked, is_marked}
use Rattle.rev_ranks.proofs.Marks.{marked_within}
use Rattle.rev_ranks.proofs.Ways.{steps_from_node}
use Rattle.rev_cells.specs.State.{State}
use Rattle.rev_dirty.specs.declared.input.InputKind.{InputKind}
use Rattle.rev_dirty.specs.declared.input.InputKind.TheVariants.{OnLine, OrderOnly, Listed}
use Rattle.rev_dirty.specs.Inputs.{InputValue, an, counts, paths_of, paths_in, deps_record, producers_in}
use Rattle.rev_dirty.specs.Reasons.{counted}
use Rattle.rev_plan.specs.declared.steps.Along.{Along}
use Rattle.rev_plan.specs.declared.steps.Along.TheVariants as along
use Rattle.rev_plan.specs.Plan.{input_paths, counted_paths, edges_by}
use Rattle.rev_plan.specs.Steps.{paths_along, order_only_of, validations_of, listed_paths, steps_with, AreListed, IsSubgraph}
use Rattle.rev_plan.proofs.LeastLemmas.{list-at}

-- the paths of inputs of one kind
paths-an : (kind : InputKind) (paths : List (List ℕ)) → paths_of (map (an kind) paths) ≡ paths
paths-an kind [] = refl
paths-an kind (p ∷ ps) = ap (λ (rest : List (List ℕ)). p ∷ rest) (paths-an kind ps)

-- counted inputs before others
counted-some : (kind : InputKind) → counts kind ≡ true → (paths : List (List ℕ)) (rest : List InputValue) → paths_of (counted (map (an kind) paths ++ rest)) ≡ paths ++ paths_of (counted rest)
counted-some OnLine h [] rest = refl
counted-some OnLine h (p ∷ ps) rest = ap (λ (more : List (List ℕ)). p ∷ more) (counted-some OnLine h ps rest)
counted-some Listed h [] rest = refl
counted-some Listed h (p ∷ ps) rest = ap (λ (more : List (List ℕ)). p ∷ more) (counted-some Listed h ps rest)
counted-some OrderOnly h paths rest = let no : false ≡ true = h in cc

counted-none : (paths : List (List ℕ)) (rest : List InputValue) → paths_of (counted (map (an OrderOnly) paths ++ rest)) ≡ paths_of (counted rest)
counted-none [] rest = refl
counted-none (p ∷ ps) rest = counted-none ps rest

paths-append : (xs ys : List InputValue) → paths_of (xs ++ ys) ≡ paths_of xs ++ paths_of ys
paths-append [] ys = refl
paths-append (x ∷ xs) ys = ap (λ (rest : List (List ℕ)). x.path ∷ rest) (paths-append xs ys)

pub input-paths : (state : State) (build : BuildValue) → input_paths state build ≡ (build.explicit ++ build.implicit) ++ build.order_only ++ paths_in (deps_record state build)
input-paths state build =
    let line = map (an OnLine) (build.explicit ++ build.implicit) in
    let later = map (an OrderOnly) build.order_only in
    let listed = map (an Listed) (paths_in (deps_record state build)) in
    paths-append (line ++ later) listed ∙ ap (λ (front : List (List ℕ)). front ++ paths_of listed) (paths-append line later)
    ∙ (λ i. paths-an OnLine (build.explicit ++ build.implicit) i ++ paths-an OrderOnly build.order_only i ++ paths-an Listed (paths_in (deps_record state build)) i)

pub counted-paths : (state : State) (build : BuildValue) → counted_paths state build ≡ (build.explicit ++ build.implicit) ++ paths_in (deps_record state build)
counted-paths state build =
    let line = map (an OnLine) (build.explicit ++ build.implicit) in
    let later = map (an OrderOnly) build.order_only in
    let paths = paths_in (deps_record state build) in
    ap (λ (all : List InputValue). paths_of (counted all)) (append_assoc line later (map (an Listed) paths)) ∙ counted-some OnLine refl (build.explicit ++ build.implicit) (later ++ map (an Listed) paths)
    ∙ ap (λ (rest : List (List ℕ)). (build.explicit ++ build.implicit) ++ rest) (counted-none build.order_only (map (an Listed) paths)
    ∙ ap (λ (all : List InputValue). paths_of (counted all)) (sym (append-nil (map (an Listed) paths))) ∙ counted-some Listed refl paths [] ∙ append-nil paths)

-- the edges among producers are the producers of the paths
pub among : (builds : List BuildValue) (paths : List (List ℕ)) → filter_map (λ (producer : Option ℕ). producer) (map (producer_of builds) paths) ≡ producers_in builds paths
among builds [] = refl
among builds (p ∷ ps) = ap (cons_option (producer_of builds p)) (among builds ps)

steps-input : (builds : List BuildValue) (state : State) (build : BuildValue)
    → producers_in builds (build.explicit ++ build.implicit) ++ producers_in builds build.order_only ++ producers_in builds (paths_in (deps_record state build)) ≡ producers_in builds (input_paths state build)
steps-input builds state build =
    sym (ap (producers_in builds) (input-paths state build) ∙ filter_map-append (producer_of builds) (build.explicit ++ build.implicit ++ build.order_only) (paths_in (deps_record state build))
    ∙ ap (λ (front : List ℕ). front ++ producers_in builds (paths_in (deps_record state build))) (filter_map-append (producer_of builds) (build.explicit ++ build.implicit) build.order_only))

-- what is listed in turn is what edges step along
pub steps-are : (builds : List BuildValue) (state : State) (build : BuildValue) (kind : Along)
    → producers_in builds (build.explicit ++ build.implicit) ++ producers_in builds (order_only_of kind build.order_only) ++ producers_in builds (paths_in (deps_record state build)) ++ producers_in builds (validations_of kind build)
    ≡ producers_in builds (paths_along kind state build)
steps-are builds state build along.Inputs =
    append-nil _ ∙ steps-input builds state build
steps-are builds state build along.Counted =
    append-nil _ ∙ ap (λ (front : List ℕ). front ++ producers_in builds (paths_in (deps_record state build))) (append-nil (producers_in builds (build.explicit ++ build.implicit)))
    ∙ sym (ap (producers_in builds) (counted-paths state build) ∙ filter_map-append (producer_of builds) (build.explicit ++ build.implicit) (paths_in (deps_record state build)))
steps-are builds state build along.Needs =
    ap (λ (front : List ℕ). front ++ producers_in builds build.validations) (steps-input builds state build)
    ∙ sym (filter_map-append (producer_of builds) (input_paths state build) build.validations)

-- WHAT IS LISTED
shift : {X : Type 0} (g : ℕ → X) (a n : ℕ) → map g (range_with_len (a + 1) n) ≡ map (λ k. g (suc k)) (range_with_len a n)
shift g a zero = refl
shift g a (suc n) = λ i. g (add-one a i) ∷ shift g (a + 1) n i

-- what is found of each edge by its number is found of each edge
all-at : {X : Type 0} (f : BuildValue → X) (builds : List BuildValue) → map (λ edge. f (build_at builds edge)) (range_with_len 0 (length builds)) ≡ map f builds
all-at f [] = refl
all-at f (b ∷ bs) = ap (λ rest. f b ∷ rest) (shift (λ edge. f (build_at (b ∷ bs) edge)) 0 (length bs) ∙ all-at f bs)

abbrev pub listed_at : List BuildValue → State → ℕ → List ℕ
listed_at builds state edge = producers_in builds (listed_paths state (build_at builds edge))

pub are-listed : (builds : List BuildValue) (state : State) (n : ℕ) (lists : List (List ℕ)) → n ≡ length builds → lists ≡ map (listed_at builds state) (range_with_len 0 n) → AreListed builds state lists
are-listed builds state n lists many is = record {
  are = is ∙ ap (λ k. map (listed_at builds state) (range_with_len 0 k)) many ∙ all-at (λ build. producers_in builds (listed_paths state build)) builds;
}

pub listed-here : (builds : List BuildValue) (state : State) (lists slice : List (Vec ℕ)) → slice ≡ lists → AreListed builds state (graph_of lists) → AreListed builds state (graph_of slice)
listed-here builds state lists slice same listed = subst (λ (all : List (Vec ℕ)). AreListed builds state (graph_of all)) (sym same) listed

-- the list of an edge that has a mark, and none of others, by what is listed
abbrev pub listed_step : Along → List BuildValue → List (List ℕ) → List Bool → ℕ → List ℕ
listed_step kind builds lists marks edge =
    if is_marked marks edge then steps_with kind builds (successors_of lists edge) (build_at builds edge) else []

-- WHOLE GRAPHS
-- the list of an edge that has a mark, and none of others
abbrev pub step_list : (BuildValue → List (List ℕ)) → List BuildValue → List Bool → ℕ → List ℕ
step_list paths builds marks edge = if is_marked marks edge then producers_in builds (paths (build_at builds edge)) else []

pub no-paths : (kind : Along) (state : State) → paths_along kind state no_build ≡ []
no-paths along.Inputs state = refl
no-paths along.Counted state = refl
no-paths along.Needs state = refl

-- in each state in which this is listed, it is the list of that state
pub as-listed : (kind : Along) (builds : List BuildValue) (state : State) (lists : List (List ℕ)) (marks : List Bool) (n : ℕ) (sub : List (List ℕ)) → AreListed builds state lists → n ≡ length builds
    → sub ≡ map (listed_step kind builds lists marks) (range_with_len 0 n) → sub ≡ map (step_list (paths_along kind state) builds marks) (range_with_len 0 (length builds))
as-listed kind builds state lists marks n sub listed many are =
    are ∙ (λ i. map (λ edge. each edge i) (range_with_len 0 (many i)))
  where
    each : (edge : ℕ) → listed_step kind builds lists marks edge ≡ step_list (paths_along kind state) builds marks edge
    each edge =
        ap (λ (list : List ℕ). if is_marked marks edge then steps_with kind builds list (build_at builds edge) else []) (ap (λ (all : List (List ℕ)). successors_of all edge) listed.are ∙ list-at (listed_paths state) refl builds edge)
        ∙ ap (λ (list : List ℕ). if is_marked marks edge then list else []) (steps-are builds state (build_at builds edge) kind)

module _ (paths : BuildValue → List (List ℕ)) (empty : paths no_build ≡ []) (builds : List BuildValue) (marks : List Bool) (each : length marks ≡ length builds) (sub : List (List ℕ))
    (are : sub ≡ map (step_list paths builds marks) (range_with_len 0 (length builds))) where
  sub-at : (n : ℕ) → n < length builds → successors_of sub n ≡ step_list paths builds marks n
  sub-at n h = ap (λ (lists : List (List ℕ)). successors_of lists n) are ∙ get_or-map-range_with_len (step_list paths builds marks) 0 (length builds) n n [] h (omega arith)

  sub-length : length sub ≡ length builds
  sub-length = ap length are ∙ length-map-range_with_len (step_list paths builds marks) 0 (length builds)

  whole-at : (n : ℕ) → successors_of (edges_by paths builds) n ≡ producers_in builds (paths (build_at builds n))
  whole-at n = list-at paths empty builds n

  listed-where : (n s : ℕ) (b : Bool) → Contains (if b then producers_in builds (paths (build_at builds n)) else []) s → b ≡ true
  listed-where n s true h = refl
  listed-where n s false h = absurd (omega (arith, h.1))

  pub subgraph : IsSubgraph (edges_by paths builds) marks sub
  subgraph = record {
    length_is = sub-length ∙ sym (length-map builds (λ build. producers_in builds (paths build)));
    kept = λ n m.
        let within : n < length builds = omega (arith, marked_within marks n m) in
        sub-at n within ∙ ap (λ b. if b then producers_in builds (paths (build_at builds n)) else []) m ∙ sym (whole-at n);
    left_out = λ n s h.
        let within : n < length builds = omega (arith, steps_from_node sub n s h, sub-length) in
        listed-where n s (is_marked marks n) (subst (λ (list : List ℕ). Contains list s) (sub-at n within) h);
  }

  -- what edges step to are edges
  pub steps-within : (n s : ℕ) → Steps sub n s → s < length builds
  steps-within n s h =
      let m : IsMarked marks n = subgraph.left_out n s h in
      let t : Contains (producers_in builds (paths (build_at builds n))) s = subst (λ (list : List ℕ). Contains list s) (subgraph.kept n m ∙ whole-at n) h in
      let f = source (producer_of builds) (paths (build_at builds n)) s t in
      producer_of-within f.item builds s f.gives

-- the producers of paths are edges
pub producers-within : (builds : List BuildValue) (paths : List (List ℕ)) → All (λ edge. edge < length builds) (producers_in builds paths)
producers-within builds paths k d h =
    let f = source (producer_of builds) paths (get_or (producers_in builds paths) k d) (Contains-get_or (producers_in builds paths) k d h) in
    producer_of-within f.item builds (get_or (producers_in builds paths) k d) f.gives

pub ended : {X : Type 0} (n m : ℕ) → n ≡ m → (f : ℕ → X) (xs : List X) → xs ≡ map f (range_with_len 0 n) → xs ≡ map f (range_with_len 0 m)
ended n m same f xs are = are ∙ ap (λ k. map f (range_with_len 0 k)) same

-- the edges among the producers of order-only inputs, where edges step along these
pub order-among : (builds : List BuildValue) (kind : Along) (paths : List (List ℕ))
    → filter_map (λ (producer : Option ℕ). producer) (order_only_of kind (map (producer_of builds) paths)) ≡ producers_in builds (order_only_of kind paths)
order-among builds along.Inputs paths = among builds paths
order-among builds along.Counted paths = refl
order-among builds along.Needs paths = among builds paths
