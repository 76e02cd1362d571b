-- What is asked of all inputs of an edge.
use Rattle.std.proofs.Common.{◌≡◌, ◌<◌, ℕ, sym, length, take, drop, Option, None, Some, List, [], ◌∷◌, ◌++◌, map, refl, ap, ◌∙◌}
use Rattle.std.specs.Prelude.{IfSome}
use Rattle.std.proofs.lemmas.List.{append_assoc}
use Rattle.rev_manifest.specs.Manifest.{BuildValue}
use Rattle.rev_graph.specs.Graph.{producer_of}
use Rattle.rev_graph.proofs.GraphLemmas.{producer_of-within}
use Rattle.rev_cells.specs.State.{State}
use Rattle.rev_dirty.specs.declared.input.InputKind.TheVariants.{OnLine, OrderOnly, Listed}
use Rattle.rev_dirty.specs.Facts.{input_facts, facts_of_input}
use Rattle.rev_dirty.specs.Inputs.{an, inputs, paths_in, deps_record}
use Rattle.rev_dirty.specs.Visible.{line_inputs}

map-both : {A B C : Type 0} (f : A → B) (g : B → C) (xs : List A) → map g (map f xs) ≡ map (λ x. g (f x)) xs
map-both f g [] = refl
map-both f g (x ∷ xs) = ap (λ ys. g (f x) ∷ ys) (map-both f g xs)

append-map : {A B : Type 0} (g : A → B) (xs ys : List A) → map g (xs ++ ys) ≡ map g xs ++ map g ys
append-map g [] ys = refl
append-map g (x ∷ xs) ys = ap (λ zs. g x ∷ zs) (append-map g xs ys)

pub all-facts : (builds : List BuildValue) (state : State) (build : BuildValue)
    → map (facts_of_input builds state) (inputs state build)
    ≡ map (input_facts builds state OnLine) (line_inputs build) ++ map (input_facts builds state OrderOnly) build.order_only
    ++ map (input_facts builds state Listed) (paths_in (deps_record state build))
all-facts builds state build =
    let f = facts_of_input builds state in
    append-map f (map (an OnLine) (line_inputs build) ++ map (an OrderOnly) build.order_only) (map (an Listed) (paths_in (deps_record state build)))
    ∙ ap (λ zs. zs ++ map f (map (an Listed) (paths_in (deps_record state build))))
    (append-map f (map (an OnLine) (line_inputs build)) (map (an OrderOnly) build.order_only))
    ∙ (λ i. map-both (an OnLine) f (line_inputs build) i ++ map-both (an OrderOnly) f build.order_only i ++ map-both (an Listed) f (paths_in (deps_record state build)) i)

drop-front : {A B : Type 0} (f : A → B) (xs rest : List A) → drop (length xs) (map f (xs ++ rest)) ≡ map f rest
drop-front f [] rest = refl
drop-front f (x ∷ xs) rest = drop-front f xs rest

take-front : {A B : Type 0} (f : A → B) (xs rest : List A) → take (length xs) (map f (xs ++ rest)) ≡ map f xs
take-front f [] rest = refl
take-front f (x ∷ xs) rest = ap (λ ys. f x ∷ ys) (take-front f xs rest)

after-first : {A B : Type 0} (f : A → B) (xs ys zs : List A) → drop (length xs) (map f (xs ++ ys ++ zs)) ≡ map f (ys ++ zs)
after-first f xs ys zs = ap (λ all. drop (length xs) (map f all)) (append_assoc xs ys zs) ∙ drop-front f xs (ys ++ zs)

-- the second and the third part of what a function gives of three lists
pub second-part : {A B : Type 0} (f : A → B) (xs ys zs : List A) → take (length ys) (drop (length xs) (map f (xs ++ ys ++ zs))) ≡ map f ys
second-part f xs ys zs = ap (take (length ys)) (after-first f xs ys zs) ∙ take-front f ys zs

pub third-part : {A B : Type 0} (f : A → B) (xs ys zs : List A) → drop (length ys) (drop (length xs) (map f (xs ++ ys ++ zs))) ≡ map f zs
third-part f xs ys zs = ap (drop (length ys)) (after-first f xs ys zs) ∙ drop-front f ys zs

-- what produces a path is an edge
pub is-edge : (builds : List BuildValue) (path : List ℕ) (o : Option ℕ) → o ≡ producer_of builds path → IfSome o (λ edge. edge < length builds)
is-edge builds path None h = tt
is-edge builds path (Some edge) h = producer_of-within path builds edge (sym h)
