-- The inputs of an edge, by the edges that produce them.
use Rattle.std.proofs.Common.{◌≡◌, ℕ, ◌+◌, Bool, cond, not, List, [], ◌∷◌, ◌++◌, map, nat_lt, Option, Some, None, refl, sym, ap, ◌∙◌}
use Rattle.std.specs.List.{position, position_or_len}
use Rattle.std.proofs.lemmas.List.{length-map, map-append}
use Rattle.rev_manifest.specs.Manifest.{BuildValue}
use Rattle.rev_graph.specs.Graph.{input_producers, producer_of}
use Rattle.rev_cells.specs.State.{State}
use Rattle.rev_dirty.specs.Inputs.{InputValue, an, deps_record, inputs, paths_in}
use Rattle.rev_dirty.specs.declared.input.InputKind.{InputKind}
use Rattle.rev_dirty.specs.declared.input.InputKind.TheVariants.{Listed, OnLine, OrderOnly}
use Rattle.rev_events.specs.Edge.{first_blocking, is_waiting, producers_of_inputs}

abbrev by : List BuildValue → InputValue → Option ℕ
by builds input = producer_of builds input.path

map-an : (builds : List BuildValue) (kind : InputKind) (paths : List (List ℕ)) → map (by builds) (map (an kind) paths) ≡ map (producer_of builds) paths
map-an builds kind [] = refl
map-an builds kind (path ∷ paths) = ap (λ (ps : List (Option ℕ)). producer_of builds path ∷ ps) (map-an builds kind paths)

-- the producers of the inputs on the build line, and of those that the deps record lists
pub producers-are : (builds : List BuildValue) (state : State) (build : BuildValue) → input_producers builds build ++ map (producer_of builds) (paths_in (deps_record state build)) ≡ producers_of_inputs builds state build
producers-are builds state build =
    let on = build.explicit ++ build.implicit in
    let listed = paths_in (deps_record state build) in
    sym (map-append (by builds) (map (an OnLine) on ++ map (an OrderOnly) build.order_only) (map (an Listed) listed)
    ∙ (λ k. map-append (by builds) (map (an OnLine) on) (map (an OrderOnly) build.order_only) k ++ map-an builds Listed listed k)
    ∙ (λ k. map-an builds OnLine on k ++ map-an builds OrderOnly build.order_only k ++ map (producer_of builds) listed)
    ∙ ap (λ (ps : List (Option ℕ)). ps ++ map (producer_of builds) listed) (sym (map-append (producer_of builds) on build.order_only)))

-- THE FIRST PLACE AT WHICH A TEST HOLDS
place-map : {A B : Type 0} (f : A → B) (test : B → Bool) (xs : List A) → position_or_len test (map f xs) ≡ position_or_len (λ x. test (f x)) xs
place-map f test [] = refl
place-map f test (x ∷ xs) = ap (λ (n : ℕ). cond (not (test (f x))) (1 + n) 0) (place-map f test xs)

position-map : {A B : Type 0} (f : A → B) (test : B → Bool) (xs : List A) → position test (map f xs) ≡ position (λ x. test (f x)) xs
position-map f test xs = λ k. cond (nat_lt (place-map f test xs k) (length-map xs f k)) (Some (place-map f test xs k)) None

pub blocking-is : (builds : List BuildValue) (state : State) (build : BuildValue) → position (is_waiting state) (producers_of_inputs builds state build) ≡ first_blocking builds state (inputs state build)
blocking-is builds state build = position-map (by builds) (is_waiting state) (inputs state build)
