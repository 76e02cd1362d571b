use Rattle.std.proofs.Common.{◌≡◌, ◌+◌, ◌<◌, ◌≤◌, ℕ, List, [], Option, None, Some, drop, length, get_or, sym, ap, ◌∙◌, arith}
use Rattle.std.specs.List.{cons_option, filter_map}
use Rattle.std.proofs.lemmas.List.{drop_all, drop_more}
use Rattle.rev_graph.specs.Graph.{producer_of}
use Rattle.rev_prompt.specs.Found.{first_of}
use Rattle.rev_prompt.proofs.queries.first_producer.Goals as goal

-- the first that is picked from a place on, by what is picked at the place
first-at : (f : List ℕ → Option ℕ) (names : List (List ℕ)) (i : ℕ) (name : List ℕ) (o : Option ℕ) → i < length names
    → f (get_or names i name) ≡ o
    → first_of (filter_map f (drop i names)) ≡ first_of (cons_option o (filter_map f (drop (i + 1) names)))
first-at f names i name o within is =
    ap (λ (l : List (List ℕ)). first_of (filter_map f l)) (drop_more names i name within)
    ∙ ap (λ o. first_of (cons_option o (filter_map f (drop (i + 1) names)))) is

none-past : (f : List ℕ → Option ℕ) (names : List (List ℕ)) (i : ℕ) → length names ≤ i → first_of (filter_map f (drop i names)) ≡ None
none-past f names i past = ap (λ (l : List (List ℕ)). first_of (filter_map f l)) (drop_all i names past)

pub loop-name-preserved : goal.loop-name-preserved
loop-name-preserved c =
    c.loop-name.invariant
    ∙ first-at (producer_of c.args.graph.now.manifest.builds) c.args.names.now c.loop-name.name-index c.name-item.result None c.loop-name-test.true
    (ap (producer_of c.args.graph.now.manifest.builds) (sym c.name-item.is) ∙ sym c.in_default.ensures.value)

pub returns-in-Some : goal.returns-in-Some
returns-in-Some c =
    sym (c.loop-name.invariant
    ∙ first-at (producer_of c.args.graph.now.manifest.builds) c.args.names.now c.loop-name.name-index c.name-item.result (Some c.in-Some.edge) c.loop-name-test.true
    (ap (producer_of c.args.graph.now.manifest.builds) (sym c.name-item.is) ∙ sym c.in-Some.ensures.value))
