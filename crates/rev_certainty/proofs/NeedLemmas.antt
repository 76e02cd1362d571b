-- What edges and targets need are edges.
use Rattle.std.proofs.Common.{◌≡◌, ℕ, ◌+◌, ◌<◌, List, [], ◌∷◌, ◌++◌, length, get_or, take, Option, Some, None, inl, inr, sym, ap, subst, ◌∙◌, arith, append-nil, Contains}
use Rattle.std.specs.Global.{Vec}
use Rattle.std.specs.List.{All, filter_map, flat_map}
use Rattle.std.proofs.lemmas.Grind.{flat_map-append}
use Rattle.std.proofs.lemmas.List.{get_or-map as at-map, take_more}
use Rattle.std.proofs.lemmas.List.Elements.{Contains-get_or, Contains-append_cases}
use Rattle.rev_manifest.specs.Manifest.{BuildValue, ManifestValue}
use Rattle.rev_events.specs.declared.event.Event.{Event}
use Rattle.rev_events.specs.declared.event.Event.TheVariants.{Plan}
use Rattle.rev_graph.specs.Graph.{input_producers, inputs_of, no_build, producer_of}
use Rattle.rev_graph.proofs.GraphLemmas.{producer_of-within}
use Rattle.rev_graph.proofs.StepLemmas.{source}
use Rattle.rev_dirty.specs.Inputs.{producers_in}
use Rattle.rev_plan.specs.Plan.{targets_or}
use Rattle.rev_history.specs.Timeline.{Timeline, event_at}
use Rattle.rev_ranks.specs.Graph.{graph_of}
use Rattle.rev_waits.proofs.WaitLemmas.{among-are, vectors-length}
use Rattle.rev_certainty.specs.Needed.{event_makers, makers_if, need_lists, needs_of, target_edges}

-- EDGES
made-within : (builds : List BuildValue) (paths : List (List ℕ)) (edge : ℕ) → Contains (producers_in builds paths) edge → edge < length builds
made-within builds paths edge h = let r = source (producer_of builds) paths edge h in producer_of-within r.item builds edge r.gives

needs-within : (builds : List BuildValue) (build : BuildValue) (edge : ℕ) → Contains (needs_of builds build) edge → edge < length builds
needs-within builds build edge h =
    elim (Contains-append_cases (filter_map (λ (producer : Option ℕ). producer) (input_producers builds build)) (producers_in builds build.validations) edge h) [
      | inl there ↦ made-within builds (inputs_of build) edge (subst (λ (edges : List ℕ). Contains edges edge) (among-are builds build) there)
      | inr there ↦ made-within builds build.validations edge there
    ]

pub needs-inside : (builds : List BuildValue) (vectors : List (Vec ℕ)) → graph_of vectors ≡ need_lists builds → All (λ v. All (λ s. s < length vectors) v.items) vectors
needs-inside builds vectors h = λ k d within j e inside.
    let list : List ℕ = (get_or vectors k d).items in
    let same : get_or (graph_of vectors) k [] ≡ list = at-map (λ (v : Vec ℕ). v.items) vectors k d [] within in
    let many : length vectors ≡ length builds = vectors-length (needs_of builds) builds vectors h in
    let inner : k < length builds = omega (arith, within, many) in
    let at : list ≡ needs_of builds (get_or builds k no_build) =
    sym same ∙ ap (λ g. get_or g k []) h ∙ at-map (needs_of builds) builds k no_build [] inner in
    omega (arith, many, needs-within builds (get_or builds k no_build) (get_or list j e) (subst (λ (l : List ℕ). Contains l (get_or list j e)) at (Contains-get_or list j e inside)))

-- TARGETS
event-within : (manifest : ManifestValue) (e : Event) (edge : ℕ) → Contains (event_makers manifest e) edge → edge < length manifest.builds
event-within manifest (Plan targets) edge h = made-within manifest.builds (targets_or manifest.defaults targets) edge h
event-within manifest _ edge (k, within, at) = absurd (omega (arith, within))

if-within : (manifest : ManifestValue) (o : Option Event) (edge : ℕ) → Contains (makers_if manifest o) edge → edge < length manifest.builds
if-within manifest None edge (k, within, at) = absurd (omega (arith, within))
if-within manifest (Some e) edge h = event-within manifest e edge h

among-within : (t : Timeline) (numbers : List ℕ) (edge : ℕ) → Contains (flat_map (λ n. makers_if t.manifest (event_at t n)) numbers) edge → edge < length t.manifest.builds
among-within t [] edge (k, within, at) = absurd (omega (arith, within))
among-within t (n ∷ ns) edge h =
    elim (Contains-append_cases (makers_if t.manifest (event_at t n)) (flat_map (λ m. makers_if t.manifest (event_at t m)) ns) edge h) [
      | inl there ↦ if-within t.manifest (event_at t n) edge there
      | inr there ↦ among-within t ns edge there
    ]

pub targets-inside : (t : Timeline) (vectors : List (Vec ℕ)) → graph_of vectors ≡ need_lists t.manifest.builds → All (λ s. s < length vectors) (target_edges t)
targets-inside t vectors h = λ k d within.
    omega (arith, vectors-length (needs_of t.manifest.builds) t.manifest.builds vectors h, among-within t t.kept (get_or (target_edges t) k d) (Contains-get_or (target_edges t) k d within))

-- what comes of one number more
pub flat-next : (f : ℕ → List ℕ) (xs : List ℕ) (i : ℕ) (old added new : List ℕ) → i < length xs → old ≡ flat_map f (take i xs) → added ≡ f (get_or xs i 0) → new ≡ old ++ added
    → new ≡ flat_map f (take (i + 1) xs)
flat-next f xs i old added new within before is pushed =
    pushed ∙ (λ j. before j ++ is j) ∙ ap (λ (ys : List ℕ). flat_map f (take i xs) ++ ys) (sym (append-nil (f (get_or xs i 0))))
    ∙ sym (flat_map-append f (take i xs) (get_or xs i 0 ∷ [])) ∙ ap (flat_map f) (sym (take_more xs i 0 within))
