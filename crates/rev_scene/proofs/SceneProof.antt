-- A scene is one that conflicts are found in.
use Rattle.std.proofs.Common.{◌≡◌, ℕ, zero, suc, ◌+◌, ◌<◌, ◌≤◌, ◌^◌, Bool, true, false, List, [], ◌∷◌, ◌++◌, length, get_or, map, sym, ap, subst, ◌∙◌, arith, if◌then◌else◌}
use Rattle.std.specs.Global.{Vec}
use Rattle.std.specs.List.{All, AllByRecursion, range_with_len}
use Rattle.std.proofs.Math.ListN.{get_or-map}
use Rattle.std.proofs.lemmas.List.{length-map, length_push}
use Rattle.std.proofs.lemmas.List.FromFn.{length-map-range_with_len}
use Rattle.std.proofs.lemmas.List.Elements.{All-nil, All-cons, All-append, All-map, All-push}
use Rattle.rev_ranks.specs.Graph.{graph_of}
use Rattle.rev_manifest.specs.Builds.{BuildValue}
use Rattle.rev_graph.specs.Graph.{successor_lists}
use Rattle.rev_graph.specs.declared.graph.TheConstants.Graph.{MAX_EDGES}
use Rattle.rev_graph.proofs.StepLemmas.{all-within, length-successors}
use Rattle.rev_observation.specs.Observations.{ObservationValue}
use Rattle.rev_entry_conflicts.specs.declared.deed.Command.{Command}
use Rattle.rev_entry_conflicts.specs.declared.deed.Entry.{Entry}
use Rattle.rev_entry_conflicts.specs.Orders.{AreEdges, AreOfEdges}
use Rattle.rev_scene.specs.Lines.{ninja_acts}
use Rattle.rev_scene.specs.Scenes.{IsScene, Run, run_value, run_at, runs_of, ninja_runs, entry_at, entries_of}

-- STEPS
pub steps-inside : (builds : List BuildValue) (steps new : List (Vec ℕ)) (v : Vec ℕ) → graph_of steps ≡ successor_lists builds → new ≡ steps ++ v ∷ [] → v.items ≡ [] → AreEdges new
steps-inside builds steps new v h pushed none =
    let longer : length new ≡ length steps + 1 = ap length pushed ∙ length_push steps v in
    let old : All (λ (w : Vec ℕ). All (λ s. s < length new) w.items) steps =
    λ k d within j e inside. omega (arith, all-within builds steps h k d within j e inside, longer) in
    let last : All (λ s. s < length new) v.items = subst (All (λ s. s < length new)) (sym none) (All-nil (λ s. s < length new)) in
    subst (All (λ (w : Vec ℕ). All (λ s. s < length new) w.items)) (sym pushed) (All-push (λ (w : Vec ℕ). All (λ s. s < length new) w.items) steps v old last)

-- RUNS
edge-below : (edges : List ℕ) (count n m : ℕ) → AllByRecursion (λ edge. edge < count) edges → count < n → get_or edges m 0 < n
edge-below [] count n m h less = omega (arith, less)
edge-below (e ∷ es) count n zero h less = omega (arith, h.0, less)
edge-below (e ∷ es) count n (suc m) h less = edge-below es count n m h.1 less

one-if : {X : Type 0} (P : X → Type 0) (b : Bool) (x : X) → P x → All P (if b then x ∷ [] else [])
one-if P true x p = All-cons P x [] p (All-nil P)
one-if P false x p = All-nil P

of-values : {X Y : Type 0} (P : Y → Type 0) (f : X → Y) (xs : List X) → All P (map f xs) → All (λ x. P (f x)) xs
of-values P f xs h = λ k d within. subst P (get_or-map f xs k d) (h k (f d) (omega (arith, within, length-map xs f)))

pub runs-of-edges : (count n : ℕ) (builds : List BuildValue) (o : ObservationValue) (edges : List ℕ) (early : List Bool) → AllByRecursion (λ edge. edge < count) edges → count < n
    → All (λ (r : Run). r.edge < n) (runs_of count builds o edges early)
runs-of-edges count n builds o edges early h less =
    let below : Run → Type 0 = λ (r : Run). r.edge < n in
    let numbers : List ℕ = range_with_len 0 (length o.commands) in
    All-append below (map (run_at builds o edges early) numbers) (ninja_runs count o)
    (All-map below (run_at builds o edges early) numbers (λ k d within. edge-below edges count n (get_or numbers k d) h less))
    (one-if below o.has_ninja (record { edge = count; early = false; deeds = ninja_acts o.ninja }) less)

pub commands-of-edges : (count : ℕ) (builds : List BuildValue) (o : ObservationValue) (edges : List ℕ) (early : List Bool) (steps : List (Vec ℕ)) (commands : List Command)
    → AllByRecursion (λ edge. edge < count) edges → count < length steps → map run_value commands ≡ runs_of count builds o edges early → AreOfEdges steps commands
commands-of-edges count builds o edges early steps commands h less are =
    of-values (λ (r : Run). r.edge < length steps) run_value commands
    (subst (All (λ (r : Run). r.edge < length steps)) (sym are) (runs-of-edges count (length steps) builds o edges early h less))

-- ALL
pub few-steps : (builds : List BuildValue) (steps new : List (Vec ℕ)) (v : Vec ℕ) → graph_of steps ≡ successor_lists builds → new ≡ steps ++ v ∷ [] → length new ≡ length builds + 1
few-steps builds steps new v h pushed = omega (arith, ap length pushed ∙ length_push steps v, length-successors builds steps h)

pub entries-count : (builds : List BuildValue) (o : ObservationValue) (hidden : List Bool) (entries : List Entry) → entries ≡ entries_of builds o hidden → length entries ≡ length o.entries.paths
entries-count builds o hidden entries are = ap length are ∙ length-map-range_with_len (entry_at builds o hidden) 0 (length o.entries.paths)

pub is-scene : (builds lines : List BuildValue) (o : ObservationValue) (edges : List ℕ) (early hidden : List Bool) (steps new : List (Vec ℕ)) (v : Vec ℕ) (entries : List Entry) (commands : List Command)
    → graph_of steps ≡ successor_lists builds → new ≡ steps ++ v ∷ [] → v.items ≡ [] → length builds ≤ MAX_EDGES → entries ≡ entries_of builds o hidden → length o.entries.paths < 2 ^ 32
    → AllByRecursion (λ edge. edge < length builds) edges → map run_value commands ≡ runs_of (length builds) lines o edges early → length commands < 2 ^ 32 → IsScene new entries commands
is-scene builds lines o edges early hidden steps new v entries commands stepped pushed none small made paths within ran few =
    let count : length new ≡ length builds + 1 = few-steps builds steps new v stepped pushed in
    record {
      inside = steps-inside builds steps new v stepped pushed none;
      few_steps = omega (arith, count, small);
      edges = commands-of-edges (length builds) lines o edges early new commands within (omega (arith, count)) ran;
      few_entries = omega (arith, entries-count builds o hidden entries made, paths);
      few_commands = few;
    }
