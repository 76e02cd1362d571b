-- Marks of edges, one for each, as a test gives them.
use Rattle.std.proofs.Common.{◌≡◌, ◌∙◌, ℕ, ◌+◌, ◌<◌, Bool, true, false, List, [], ◌∷◌, ◌++◌, Option, Some, None, get_or, length, map, ap, subst, sym, refl, arith, if◌then◌else◌}
use Rattle.std.specs.Global.{Vec}
use Rattle.std.specs.List.{All, AllByRecursion, cons_option, filter_map, range_with_len}
use Rattle.std.proofs.lemmas.List.{get_or-map as at-map, length-map}
use Rattle.std.proofs.lemmas.List.Elements.{All-from_recursion}
use Rattle.std.proofs.lemmas.List.FromFn.{get_or-map-range_with_len, length-map-range_with_len}
use Rattle.rev_graph.proofs.GraphLemmas.{producer_of-within}
use Rattle.rev_graph.specs.Graph.{build_at, input_producers, inputs_of, producer_of}
use Rattle.rev_history.specs.Timeline.{Timeline}
use Rattle.rev_judged.specs.Judged.{has_list, sources_of}
use Rattle.rev_manifest.specs.Manifest.{BuildValue}
use Rattle.rev_races.proofs.JudgedLemmas.{mapped-more}
use Rattle.rev_races.specs.Judged.{edges_of}
use Rattle.rev_ranks.specs.Graph.{graph_of}

-- the mark of an edge
pub mark-at : (f : ℕ → Bool) (n i : ℕ) (marks : List Bool) (d : Bool) → marks ≡ map f (range_with_len 0 n) → i < n → get_or marks i d ≡ f i
mark-at f n i marks d are within =
    ap (λ ms. get_or ms i d) are ∙ get_or-map-range_with_len f 0 n i i d within (omega arith)

-- one mark for each
pub marks-length : {X : Type 0} (f : ℕ → X) (n : ℕ) (marks : List X) → marks ≡ map f (range_with_len 0 n) → length marks ≡ n
marks-length f n marks are = ap length are ∙ length-map-range_with_len f 0 n

-- WHERE EDGES HAVE THEIR INPUTS FROM
-- the edges that produce some paths
edges-within : (builds : List BuildValue) (paths : List (List ℕ)) → AllByRecursion (λ s. s < length builds) (filter_map {X = Option ℕ} (λ p. p) (map (producer_of builds) paths))
edges-within builds [] = tt
edges-within builds (path ∷ paths) = by (producer_of builds path) refl (edges-within builds paths)
  where
    by : (o : Option ℕ) → producer_of builds path ≡ o → AllByRecursion (λ s. s < length builds) (filter_map {X = Option ℕ} (λ p. p) (map (producer_of builds) paths))
        → AllByRecursion (λ s. s < length builds) (cons_option o (filter_map {X = Option ℕ} (λ p. p) (map (producer_of builds) paths)))
    by None e rest = rest
    by (Some s) e rest = (producer_of-within path builds s e, rest)

-- those of an edge
sources-within : (t : Timeline) (edge : ℕ) → All (λ s. s < length t.manifest.builds) (sources_of t edge)
sources-within t edge = All-from_recursion (λ s. s < length t.manifest.builds) (sources_of t edge) (by (has_list t edge))
  where
    by : (b : Bool) → AllByRecursion (λ s. s < length t.manifest.builds)
        (if b then [] else filter_map (λ p. p) (input_producers t.manifest.builds (build_at t.manifest.builds edge)))
    by true = tt
    by false = edges-within t.manifest.builds (inputs_of (build_at t.manifest.builds edge))

pub steps-length : (t : Timeline) (vectors : List (Vec ℕ)) → graph_of vectors ≡ map (sources_of t) (edges_of t.manifest.builds) → length vectors ≡ length t.manifest.builds
steps-length t vectors h =
    sym (length-map vectors (λ (v : Vec ℕ). v.items)) ∙ marks-length (sources_of t) (length t.manifest.builds) (graph_of vectors) h

-- each edge that is stepped to is one
pub steps-within : (t : Timeline) (vectors : List (Vec ℕ)) → graph_of vectors ≡ map (sources_of t) (edges_of t.manifest.builds) → All (λ v. All (λ s. s < length vectors) v.items) vectors
steps-within t vectors h = λ k d within j e inside.
    let n : ℕ = length t.manifest.builds in
    let count : length vectors ≡ length t.manifest.builds = steps-length t vectors h in
    let below : k < length t.manifest.builds = omega (arith, count) in
    let is : (get_or vectors k d).items ≡ sources_of t k =
    sym (at-map (λ (v : Vec ℕ). v.items) vectors k d [] within) ∙ ap (λ g. get_or g k []) h
    ∙ get_or-map-range_with_len (sources_of t) 0 n k k [] below (omega arith) in
    let one : get_or (get_or vectors k d).items j e < length t.manifest.builds =
    subst (λ (xs : List ℕ). j < length xs → get_or xs j e < length t.manifest.builds) (sym is) (sources-within t k j e) inside in
    omega (arith, one, count)

-- a vector more
pub graph-more : (f : ℕ → List ℕ) (n : ℕ) (vectors all : List (Vec ℕ)) (v : Vec ℕ) → graph_of vectors ≡ map f (range_with_len 0 n) → all ≡ vectors ++ v ∷ [] → v.items ≡ f n → graph_of all ≡ map f (range_with_len 0 (n + 1))
graph-more f n vectors all v before pushed is =
    mapped-more f n (graph_of vectors) (graph_of all) v.items before (ap graph_of pushed ∙ graph-push vectors v) is
  where
    graph-push : (xs : List (Vec ℕ)) (x : Vec ℕ) → graph_of (xs ++ x ∷ []) ≡ graph_of xs ++ x.items ∷ []
    graph-push [] x = refl
    graph-push (y ∷ ys) x = ap (λ (ls : List (List ℕ)). y.items ∷ ls) (graph-push ys x)
