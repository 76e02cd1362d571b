-- Marks of direct producers, lists with nothing to tell, and what the last search found.
use Rattle.std.proofs.Common.{◌≡◌, ℕ, ◌<◌, Bool, true, false, not, List, [], length, get_or, set, Option, Some, None, inl, inr, refl, sym, ap, subst, ◌∙◌, arith, true≢false, Contains, ◌⊎◌}
use Rattle.std.proofs.lemmas.Bool.{cases_eq}
use Rattle.std.specs.Prelude.{◌↔◌, All}
use Rattle.std.specs.Global.{Vec}
use Rattle.std.proofs.lemmas.List.{get_or-map as at-map, length-set, get_or_default, get_or-set_same, get_or-set_other}
use Rattle.rev_manifest.specs.Manifest.{BuildValue}
use Rattle.rev_graph.specs.Graph.{GraphValue, IsGraph, build_at, producer_of, successor_lists, EdgeReaches, EdgeReaches.step as one_edge_step, EdgeReaches.further as then_on_edges, inputs_of}
use Rattle.rev_graph.proofs.StepLemmas.{edge_way, length-successors, node_way, ranked-acyclic}
use Rattle.rev_ranks.specs.Graph.{Steps, graph_of, successors_of, Reaches, Reaches.step as one_step, Reaches.further as then_on}
use Rattle.rev_waits.specs.Waits.{AreWaitedFor, Makes, Makes.itself, Makes.behind, Waits}
use Rattle.rev_races.specs.Answer.{IsToTell, IsToTell.itself as tells_itself, IsToTell.another as tells_another}
use Rattle.rev_races.specs.Keys.{SomeBelow, IsKeyAt, IsKeyAmong}
use Rattle.rev_races.specs.Searches.{AreDirect, IsCovered, IsCovered.among as among, IsCovered.quiet as quiet, IsCovered.repeated as repeated, IsFirstOrQuiet, IsFirstOrUntold, IsQuiet, IsKept}

-- MARKS OF DIRECT PRODUCERS
pub no-marks : (graph : List (List ℕ)) (marks : List (Option ℕ)) → length marks ≡ length graph → ((k : ℕ) → get_or marks k None ≡ None) → AreDirect graph marks
no-marks graph marks each none = record {
  each = each;
  sound = λ node from h.
      let no : None ≡ Some from = sym (none node) ∙ h in
      cc;
}

pub one-mark : (graph : List (List ℕ)) (marks : List (Option ℕ)) (edge node : ℕ) → node < length marks → Steps graph edge node → AreDirect graph marks → AreDirect graph (set marks node (Some edge))
one-mark graph marks edge node within step are = record {
  each = length-set marks node (Some edge) ∙ are.each;
  sound = λ other from h. elim (cases_eq other node) [
    | inl same ↦
        let both : Some edge ≡ Some from = sym (ap (λ n. get_or (set marks node (Some edge)) n None) same ∙ get_or-set_same marks node (Some edge) None within) ∙ h in
        let is : edge ≡ from = cc in
        subst (λ f. Steps graph f other) is (subst (λ n. Steps graph edge n) (sym same) step)
    | inr apart ↦ are.sound other from (sym (get_or-set_other marks node other (Some edge) None apart) ∙ h)
  ];
}

-- LISTS WITH NOTHING TO TELL
-- who makes what an edge produces is that edge, or is waited for by it
made-by : {builds : List BuildValue} {maker : ℕ} {path : List ℕ} (producer : ℕ) → producer_of builds path ≡ Some producer → Makes builds maker path → (maker ≡ producer) ⊎ EdgeReaches builds producer maker
made-by {builds} {maker} {path} producer is (itself at plain) =
    let both : Some maker ≡ Some producer = sym at ∙ is in
    let same : maker ≡ producer = cc in
    inl same
made-by {builds} {maker} {path} producer is (behind {phony = phony} {input = input} at h inside made) =
    let both : Some phony ≡ Some producer = sym at ∙ is in
    let same : phony ≡ producer = cc in
    inr (subst (λ p. EdgeReaches builds p maker) same (made-behind phony input inside made))
  where
    made-behind : {builds : List BuildValue} {maker : ℕ} (phony : ℕ) (input : List ℕ) → Contains (inputs_of (build_at builds phony)) input → Makes builds maker input → EdgeReaches builds phony maker
    made-behind {builds} {maker} phony input inside (itself at plain) = one_edge_step (record { path = input; is_input = inside; produced = at })
    made-behind {builds} {maker} phony input inside (behind {phony = next} {input = inner} at h further made) =
        then_on_edges (record { path = input; is_input = inside; produced = at }) (made-behind next inner further made)

-- what a step of the user produces is quiet
pub quiet-step : (builds : List BuildValue) (user producer : ℕ) (path : List ℕ) → producer_of builds path ≡ Some producer → Steps (successor_lists builds) user producer → IsQuiet builds user path
quiet-step builds user producer path is step = record {
  waits = λ maker made. elim (made-by producer is made) [
    | inl same ↦ subst (λ m. Waits builds user m) (sym same) (edge_way (one_step step))
    | inr way ↦ then-way builds user producer maker (edge_way (one_step step)) way
  ];
}
  where
    then-way : (builds : List BuildValue) (a b c : ℕ) → EdgeReaches builds a b → EdgeReaches builds b c → EdgeReaches builds a c
    then-way builds a b c (one_edge_step s) way = then_on_edges s way
    then-way builds a b c (then_on_edges {middle = m} s rest) way = then_on_edges s (then-way builds m b c rest way)

-- what nobody produces is quiet
pub quiet-none : (builds : List BuildValue) (user : ℕ) (path : List ℕ) → producer_of builds path ≡ None → IsQuiet builds user path
quiet-none builds user path none = record { waits = λ maker made. absurd (nobody made) }
  where
    nobody : {maker : ℕ} → Makes builds maker path → ⊥
    nobody {maker} (itself at plain) = let no : None ≡ Some maker = sym none ∙ at in true≢false cc
    nobody {maker} (behind {phony = phony} at h inside made) = let no : None ≡ Some phony = sym none ∙ at in true≢false cc

-- nobody who makes a quiet path is to be told
pub untold-quiet : (graph : GraphValue) (files : List (List ℕ)) (user : ℕ) (path : List ℕ) → IsGraph graph → IsQuiet graph.manifest.builds user path
    → (maker : ℕ) → Makes graph.manifest.builds maker path → IsToTell graph.manifest.builds files user maker → ⊥
untold-quiet graph files user path is hushed maker made told =
    let way : Waits graph.manifest.builds user maker = hushed.waits maker made in
    elim told [
      | tells_itself own ↦ ranked-acyclic graph.manifest.builds graph.ranks is.ranked user (subst (λ m. Waits graph.manifest.builds user m) own way)
      | tells_another apart ↦ apart.unordered way
    ]

-- so the first place of a path that is not quiet is told alone
pub firsts-untold : (graph : GraphValue) (files paths : List (List ℕ)) (user : ℕ) (places : List ℕ) → IsGraph graph
    → All (IsFirstOrQuiet graph.manifest.builds user paths) places → All (IsFirstOrUntold graph.manifest.builds files user paths) places
firsts-untold graph files paths user places is firsts = λ k d inside before maker less same made told.
    untold-quiet graph files user (get_or paths (get_or places k d) []) is (firsts k d inside before less same) maker made told

-- nothing is told at places that are not among these
pub rest-untold : (graph : GraphValue) (files paths : List (List ℕ)) (user : ℕ) (places : List ℕ) → IsGraph graph
    → ((place : ℕ) → place < length paths → IsCovered graph.manifest.builds user paths places place)
    → (place : ℕ) → place < length paths → Contains places place ⊎ ((k : List ℕ) → IsKeyAt graph.manifest.builds files paths user place k → ⊥)
rest-untold graph files paths user places is rest place below = elim (rest place below) [
  | among c ↦ inl c
  | quiet q ↦ inr (λ k at. untold-quiet graph files user (get_or paths place []) is q at.maker at.made at.key.told)
  | repeated r ↦ inr (λ k at. r at.key.first)
]

-- where there is no such place, nothing is told
pub none-among : (graph : GraphValue) (files paths : List (List ℕ)) (user : ℕ) (places : List ℕ) → IsGraph graph → length places ≡ 0
    → ((place : ℕ) → place < length paths → IsCovered graph.manifest.builds user paths places place)
    → (k : List ℕ) → IsKeyAmong graph.manifest.builds files paths user k → ⊥
none-among graph files paths user places is empty rest k told = elim (rest-untold graph files paths user places is rest told.number told.below) [
  | inl c ↦ let within = c.1 in omega (arith, within, empty)
  | inr none ↦ none k told.holds
]

-- what is told at the places, and nowhere else, is all that is told
pub keys-among : (builds : List BuildValue) (files paths : List (List ℕ)) (user : ℕ) (places : List ℕ) → All (λ place. place < length paths) places
    → ((place : ℕ) → place < length paths → Contains places place ⊎ ((k : List ℕ) → IsKeyAt builds files paths user place k → ⊥))
    → (k : List ℕ) → SomeBelow (λ i. IsKeyAt builds files paths user (get_or places i 0) k) (length places) ↔ IsKeyAmong builds files paths user k
keys-among builds files paths user places within rest k = (
  λ s. let b = s.below in record { number = get_or places s.number 0; below = within s.number 0 b; holds = s.holds },
  λ a. elim (rest a.number a.below) [
    | inl c ↦
        let at : get_or places c.0 0 ≡ a.number = get_or_default places c.0 0 a.number c.1 ∙ c.2 in
        record { number = c.0; below = c.1; holds = subst (λ place. IsKeyAt builds files paths user place k) (sym at) a.holds }
    | inr none ↦ absurd (none k a.holds)
  ],
)

pub unless-not : (b : Bool) → not b ≡ false → b ≡ true
unless-not true h = refl
unless-not false h = absurd (true≢false h)

-- THE LAST SEARCH
-- what steps to the same nodes reaches the same ones
same-reached : {graph : List (List ℕ)} {a b n : ℕ} → successors_of graph a ≡ successors_of graph b → Reaches graph a n → Reaches graph b n
same-reached {graph} {a} {b} {n} same (one_step s) = one_step (subst (λ list. Contains list n) same s)
same-reached {graph} {a} {b} {n} same (then_on {s = m} s way) = then_on (subst (λ list. Contains list m) same s) way

pub same-waited : (builds : List BuildValue) (a b : ℕ) (marks : List Bool) → successors_of (successor_lists builds) a ≡ successors_of (successor_lists builds) b
    → AreWaitedFor builds a marks → AreWaitedFor builds b marks
same-waited builds a b marks same are = record {
  each = are.each;
  exact = λ other. (
    λ h. edge_way (same-reached same (node_way ((are.exact other).0 h))),
    λ way. (are.exact other).1 (edge_way (same-reached (sym same) (node_way way))),
  );
}

-- the edges that one steps to, as they were read
pub same-steps : (vectors : List (Vec ℕ)) (a b : ℕ) (v w : Vec ℕ) → a < length vectors → b < length vectors → v ≡ get_or vectors a v → w ≡ get_or vectors b w → v.items ≡ w.items
    → successors_of (graph_of vectors) a ≡ successors_of (graph_of vectors) b
same-steps vectors a b v w a_within b_within is also same = at a v a_within is ∙ same ∙ sym (at b w b_within also)
  where
    at : (k : ℕ) (x : Vec ℕ) → k < length vectors → x ≡ get_or vectors k x → successors_of (graph_of vectors) k ≡ x.items
    at k x within here = at-map (λ (y : Vec ℕ). y.items) vectors k x [] within ∙ sym (ap (λ (y : Vec ℕ). y.items) here)

pub waited-again : (builds : List BuildValue) (vectors : List (Vec ℕ)) (a b : ℕ) (v w : Vec ℕ) (marks : List Bool) → graph_of vectors ≡ successor_lists builds → a < length builds → b < length builds
    → v ≡ get_or vectors a v → w ≡ get_or vectors b w → v.items ≡ w.items → AreWaitedFor builds a marks → AreWaitedFor builds b marks
waited-again builds vectors a b v w marks are a_within b_within is also same =
    let each = length-successors builds vectors are in
    same-waited builds a b marks (subst (λ g. successors_of g a ≡ successors_of g b) are (same-steps vectors a b v w (omega (arith, each, a_within)) (omega (arith, each, b_within)) is also same))

pub kept-search : (builds : List BuildValue) (edge : ℕ) (marks : List Bool) → edge < length builds → AreWaitedFor builds edge marks → IsKept builds (Some edge) marks
kept-search builds edge marks within are = record { within = within; waited = are }
