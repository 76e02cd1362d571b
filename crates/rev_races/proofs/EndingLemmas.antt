-- Marks of endings, one more, and what no mark says.
use Rattle.std.proofs.Common.{◌≡◌, ℕ, ◌+◌, ◌<◌, ◌≤◌, Bool, true, false, List, [], ◌++◌, length, get_or, set, Option, Some, None, inl, inr, refl, sym, ap, subst, ◌∙◌, arith, true≢false, Contains}
use Rattle.std.proofs.lemmas.Bool.{cases_eq}
use Rattle.std.proofs.lemmas.List.{get_or-set_same, get_or-set_other, get_or_default}
use Rattle.std.proofs.lemmas.List.Elements.{Contains-append_cases}
use Rattle.rev_manifest.specs.Manifest.{BuildValue}
use Rattle.rev_graph.specs.Graph.{build_at, outputs_of, producer_of}
use Rattle.rev_graph.proofs.GraphLemmas.{producer_of-within}
use Rattle.rev_graph.proofs.ProducerLemmas.{producer-has}
use Rattle.rev_ranks.specs.Sets.{is_marked}
use Rattle.rev_races.specs.Endings.{AreEndings, ending}
use Rattle.rev_races.specs.Searches.{IsQuiet}
use Rattle.rev_races.proofs.SearchLemmas.{quiet-none}

-- a mark that is there stays
pub stays-marked : (marks : List Bool) (place n : ℕ) → place < length marks → is_marked marks n ≡ true
    → is_marked (set marks place true) n ≡ true
stays-marked marks place n within marked = elim (cases_eq n place) [
  | inl same ↦ ap (λ k. get_or (set marks place true) k false) same ∙ get_or-set_same marks place true false within
  | inr apart ↦ get_or-set_other marks place n true false apart ∙ marked
]

-- THE MARKS OF PATHS SO FAR
pub record AreMarked (paths : List (List ℕ)) (before marks : List Bool) (count : ℕ) : Type 0 where
  pub size : length marks ≡ 1048573
  pub kept : (n : ℕ) → is_marked before n ≡ true → is_marked marks n ≡ true
  pub marked : (place : ℕ) → place < count → is_marked marks (ending (get_or paths place [])) ≡ true

pub none-marked : (paths : List (List ℕ)) (marks : List Bool) → length marks ≡ 1048573 → AreMarked paths marks marks 0
none-marked paths marks size = record {
  size = size;
  kept = λ n marked. marked;
  marked = λ place less. absurd (omega (arith, less));
}

pub one-marked : (paths : List (List ℕ)) (before marks more : List Bool) (count : ℕ) (path : List ℕ) → count < length paths
    → path ≡ get_or paths count path → length more ≡ 1048573
    → ((n : ℕ) → is_marked marks n ≡ true → is_marked more n ≡ true) → is_marked more (ending path) ≡ true
    → AreMarked paths before marks count → AreMarked paths before more (count + 1)
one-marked paths before marks more count path within is size kept marked are = record {
  size = size;
  kept = λ n was. kept n (are.kept n was);
  marked = λ place less. elim (cases_eq place count) [
    | inl same ↦
        ap (λ k. is_marked more (ending (get_or paths k []))) same
        ∙ ap (λ (p : List ℕ). is_marked more (ending p)) (get_or_default paths count [] path within ∙ sym is) ∙ marked
    | inr apart ↦ kept (ending (get_or paths place [])) (are.marked place (omega (arith, less, apart)))
  ];
}

pub contained-marked : (paths : List (List ℕ)) (before marks : List Bool) (count : ℕ) (path : List ℕ) → length paths ≤ count
    → AreMarked paths before marks count → Contains paths path → is_marked marks (ending path) ≡ true
contained-marked paths before marks count path all are (place, within, at) =
    ap (λ (p : List ℕ). is_marked marks (ending p)) (sym at ∙ get_or_default paths place path [] within)
    ∙ are.marked place (omega (arith, all, within))

-- THE MARKS OF EDGES SO FAR
pub record AreEndingsBefore (builds : List BuildValue) (marks : List Bool) (edge : ℕ) : Type 0 where
  pub size : length marks ≡ 1048573
  pub each : (earlier : ℕ) (path : List ℕ) → earlier < edge → Contains (outputs_of (build_at builds earlier)) path
      → is_marked marks (ending path) ≡ true

pub no-endings : (builds : List BuildValue) (marks : List Bool) → length marks ≡ 1048573 → AreEndingsBefore builds marks 0
no-endings builds marks size = record { size = size; each = λ earlier path less is. absurd (omega (arith, less)) }

-- the outputs of one edge more: the explicit ones and then the implicit ones
pub edge-endings : (builds : List BuildValue) (marks some all : List Bool) (edge : ℕ) (explicit implicit : List (List ℕ))
    → outputs_of (build_at builds edge) ≡ explicit ++ implicit → length all ≡ 1048573
    → ((n : ℕ) → is_marked marks n ≡ true → is_marked some n ≡ true)
    → ((n : ℕ) → is_marked some n ≡ true → is_marked all n ≡ true)
    → ((path : List ℕ) → Contains explicit path → is_marked some (ending path) ≡ true)
    → ((path : List ℕ) → Contains implicit path → is_marked all (ending path) ≡ true)
    → AreEndingsBefore builds marks edge → AreEndingsBefore builds all (edge + 1)
edge-endings builds marks some all edge explicit implicit are size first second by-explicit by-implicit before = record {
  size = size;
  each = λ earlier path less is. elim (cases_eq earlier edge) [
    | inl same ↦
        here path
        (subst (λ (ps : List (List ℕ)). Contains ps path) are (subst (λ k. Contains (outputs_of (build_at builds k)) path) same is))
    | inr apart ↦
        second (ending path) (first (ending path) (before.each earlier path (omega (arith, less, apart)) is))
  ];
}
  where
    here : (path : List ℕ) → Contains (explicit ++ implicit) path → is_marked all (ending path) ≡ true
    here path is = elim (Contains-append_cases explicit implicit path is) [
      | inl one ↦ second (ending path) (by-explicit path one)
      | inr other ↦ by-implicit path other
    ]

-- of all edges
pub all-endings : (builds : List BuildValue) (marks : List Bool) (edge : ℕ) → length builds ≤ edge
    → AreEndingsBefore builds marks edge → AreEndings builds marks
all-endings builds marks edge all are = record {
  each = λ path producer is.
      let within = producer_of-within path builds producer is in
      are.each producer path (omega (arith, all, within)) (producer-has builds path producer is);
}

-- a path whose ending has no mark is quiet
pub unmarked-quiet : (builds : List BuildValue) (endings : List Bool) (user : ℕ) (path : List ℕ) (marked : Bool)
    → AreEndings builds endings → marked ≡ is_marked endings (ending path) → marked ≡ false → IsQuiet builds user path
unmarked-quiet builds endings user path marked are tested none =
    quiet-none builds user path (by (producer_of builds path) refl)
  where
    by : (o : Option ℕ) → producer_of builds path ≡ o → producer_of builds path ≡ None
    by None is = is
    by (Some edge) is = absurd (true≢false (sym (are.each path edge is) ∙ sym tested ∙ none))
