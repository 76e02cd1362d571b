use Rattle.std.proofs.Common.{◌≡◌, ℕ, suc, true, eqb-true, arith, List, [], ◌∷◌, ◌++◌, length, map, refl, sym, ap, ◌∙◌}
use Rattle.std.specs.Prelude.{◌==◌}
use Rattle.std.specs.List.{position}
use Rattle.std.proofs.lemmas.List.{append-nil}
use Rattle.rev_graph.specs.Graph.{build_at, input_producers, producer_of}
use Rattle.rev_events.specs.Edge.{is_waiting}
use Rattle.rev_events.proofs.EdgeLemmas.{blocking-is, producers-are}
use Rattle.rev_events.proofs.edge.blocking_input.Goals as goal

none-in : {A : Type 0} (xs : List A) → (length xs == 0) ≡ true → xs ≡ []
none-in [] e = refl
none-in (x ∷ xs) e = absurd (omega (arith, eqb-true (suc (length xs)) 0 e))

pub returns-then-is_empty : goal.returns-then-is_empty
returns-then-is_empty c =
    let state = c.args.cells.now.state in
    let builds = c.args.graph.now.manifest.builds in
    let build = build_at builds c.args.edge in
    let none = none-in c.listed_inputs.result.now (sym c.is_empty.ensures ∙ c.if-is_empty.true) in
    c.as_told.ensures ∙ c.first_waiting.ensures
    ∙ ap (position (is_waiting state))
    (c.producers.ensures ∙ sym (append-nil (input_producers builds build)) ∙ ap (λ (paths : List (List ℕ)). input_producers builds build ++ map (producer_of builds) paths) (sym none ∙ c.listed_inputs.ensures) ∙ producers-are builds state build)
    ∙ blocking-is builds state build

pub returns : goal.returns
returns c =
    let state = c.args.cells.now.state in
    let builds = c.args.graph.now.manifest.builds in
    c.as_told-2.ensures ∙ c.first_waiting-2.ensures ∙ ap (position (is_waiting state)) (c.deref.ensures.value ∙ c.in_ok-all.ensures)
    ∙ blocking-is builds state (build_at builds c.args.edge)
